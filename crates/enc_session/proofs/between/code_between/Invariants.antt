use Rattle.std.proofs.Common.{◌≡◌, length, map}
use Rattle.std.specs.List.{AllByRecursion}
use Rattle.picture_coder.specs.Sizes.{HasSizes}
use Rattle.picture_planes.specs.Pictures.{planes_of}
use Rattle.enc_session.specs.Going.{paired}
use Rattle.enc_session.specs.Ready.{Holds, settings_in, state_in}
use Rattle.enc_session.specs.Stepping.{SameEngine}
use Rattle.enc_session.proofs.Growing.{IsGoing}
use Rattle.enc_session.proofs.between.code_between.Given as goal

abbrev pub invariant-loop-k : goal.invariant-loop-k
invariant-loop-k g l = record {
  going : IsGoing (settings_in l.fn.engine) (state_in l.fn.engine) (paired l.steps (map planes_of l.fn.slots)) l.k (state_in l.engine) (g.S.Studio.seen l.fn.studio) (g.S.Studio.seen l.studio) (map planes_of l.fn.slots) (map planes_of l.slots);
  holds : Holds l.engine;
  same : SameEngine l.fn.engine l.engine;
  store : l.engine.store ≡ l.fn.engine.store;
  long : length l.slots ≡ length l.fn.slots;
  sizes : AllByRecursion (HasSizes l.fn.engine.head.width l.fn.engine.head.height) l.slots;
}
