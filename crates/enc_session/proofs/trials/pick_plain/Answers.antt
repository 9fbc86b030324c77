use Rattle.std.proofs.Common.{◌-◌, ◌/◌, ◌∙◌, arith}
use Rattle.enc_session.specs.Trying.{Asked, asked_by}
use Rattle.enc_session.proofs.Coding.{coder_then}
use Rattle.enc_session.proofs.Trying.{here, still, next, end_here, end_none}
use Rattle.spec_coding.specs.Trials.{plain_trial}
use Rattle.enc_session.proofs.trials.pick_plain.Goals as goal

pub returns-then-try_plain-clause-left : goal.returns-then-try_plain-clause-left
returns-then-try_plain-clause-left g c =
    here (asked_by c.args.coder.now c.args.job.now) (asked_by c.loop.coder c.args.job.now) c.args.start c.loop.qp ((53 - c.args.start) / 3) c.loop.counter c.args.unit.now c.loop.unit c.try_plain.new.unit c.try_plain.new.coder.reference c.try_plain.result
    c.loop.invariant.asked c.loop.invariant.unit c.loop-test.true c.loop.invariant.goes c.try_plain.ensures.left c.if-try_plain.true

pub loop-preserved : goal.loop-preserved
loop-preserved g c =
    let a : Asked = asked_by c.args.coder.now c.args.job.now in
    let b : Asked = asked_by c.loop.coder c.args.job.now in
    record {
      qp_is = omega (arith, c.loop.invariant.qp_is);
      goes = next a b c.args.start c.loop.qp ((53 - c.args.start) / 3) c.loop.counter c.args.unit.now c.loop.unit c.try_plain.new.unit c.try_plain.new.coder.reference c.try_plain.result c.loop.invariant.asked c.loop.invariant.unit c.loop-test.true c.loop.invariant.goes c.try_plain.ensures.left c.if-try_plain.false;
      unit = still a b (plain_trial c.loop.qp) c.args.unit.now c.loop.unit c.try_plain.new.unit c.try_plain.new.coder.reference c.try_plain.result c.loop.invariant.asked c.loop.invariant.unit c.try_plain.ensures.left c.if-try_plain.false;
      sizes = c.try_plain.ensures.sizes;
      job = c.try_plain.ensures.job;
      planned = c.try_plain.ensures.planned;
      asked = c.try_plain.ensures.asked ∙ c.loop.invariant.asked;
      same = coder_then c.args.coder.now c.loop.coder c.try_plain.new.coder c.loop.invariant.same c.try_plain.ensures.same;
    }

pub returns-then-try_plain-2-clause-left : goal.returns-then-try_plain-2-clause-left
returns-then-try_plain-2-clause-left g c =
    end_here (asked_by c.args.coder.now c.args.job.now) (asked_by c.loop.coder c.args.job.now) c.args.start c.loop.qp ((53 - c.args.start) / 3) c.loop.counter c.args.unit.now c.loop.unit c.try_plain-2.new.unit c.try_plain-2.new.coder.reference c.try_plain-2.result
    c.loop.invariant.asked c.loop.invariant.unit c.loop-test.false c.loop.invariant.goes c.try_plain-2.ensures.left c.if-try_plain-2.true

pub returns-clause-left : goal.returns-clause-left
returns-clause-left g c =
    end_none (asked_by c.args.coder.now c.args.job.now) (asked_by c.loop.coder c.args.job.now) c.args.start c.loop.qp ((53 - c.args.start) / 3) c.loop.counter c.args.unit.now c.loop.unit c.try_plain-2.new.unit c.try_plain-2.new.coder.reference c.try_plain-2.result
    c.loop.invariant.asked c.loop.invariant.unit c.loop-test.false c.loop.invariant.goes c.try_plain-2.ensures.left c.if-try_plain-2.false
