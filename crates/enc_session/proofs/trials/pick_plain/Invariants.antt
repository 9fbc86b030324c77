use Rattle.std.proofs.Common.{◌≡◌, ◌+◌, ◌-◌, ◌*◌}
use Rattle.picture_coder.specs.Coders.{HasOwnSizes, HasPlans, IsFor}
use Rattle.enc_session.specs.Asking.{SameCoder}
use Rattle.enc_session.specs.Trying.{asked_by}
use Rattle.enc_session.proofs.Trying.{Goes}
use Rattle.enc_session.proofs.trials.pick_plain.Given as goal

abbrev pub invariant-loop : goal.invariant-loop
invariant-loop g l = record {
  qp_is : l.qp ≡ l.start + 3 * l.counter;
  goes : Goes (asked_by l.fn.coder l.job) l.start (l.end - l.counter) l.qp l.fn.unit;
  unit : l.unit ≡ l.fn.unit;
  sizes : HasOwnSizes l.coder;
  job : IsFor l.coder l.job;
  planned : HasPlans l.coder l.job;
  asked : asked_by l.coder l.job ≡ asked_by l.fn.coder l.job;
  same : SameCoder l.fn.coder l.coder;
}
