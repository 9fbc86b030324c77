use Rattle.std.proofs.Common.{◌≡◌, ◌+◌, ◌-◌, arith, refl}
use Rattle.spec_search.specs.Scan.{spot_at}
use Rattle.spec_search.proofs.Ranks.{arrived}
use Rattle.motion_search.specs.Planes.{costs, bounds}
use Rattle.motion_search.proofs.Going.{begun_at, near_of, near_found, ended, some_window}
use Rattle.motion_search.proofs.window.search.Goals as goal

pub loop-place-init : goal.loop-place-init
unfolding spot_at
loop-place-init g c = record {
  stands = refl;
  known = begun_at (costs c.args.source.now c.args.reference.now c.args.block) (bounds c.args.source.now c.args.reference.now c.args.block) _ _ refl refl c.difference-first.ensures.value refl;
  few = omega arith;
  counted = c.difference-first.ensures.step;
}

pub after-spot-requires : goal.after-spot-requires
after-spot-requires g c = near_of (c.loop-place.place - 1) c.args.range c.loop-place.spot c.requires.range.1 (omega arith) c.loop-place.invariant.stands

pub tried-best-requires-clause-near : goal.tried-best-requires-clause-near
tried-best-requires-clause-near g c =
    near_of c.loop-place.place c.args.range c.after-spot.result c.requires.range.1 (omega arith)
    (arrived c.loop-place.place c.loop-place.spot c.after-spot.result (omega arith) c.loop-place.invariant.stands c.after-spot.ensures)

pub tried-best-requires-clause-stands : goal.tried-best-requires-clause-stands
tried-best-requires-clause-stands g c = arrived c.loop-place.place c.loop-place.spot c.after-spot.result (omega arith) c.loop-place.invariant.stands c.after-spot.ensures

pub loop-place-preserved : goal.loop-place-preserved
loop-place-preserved g c =
    let e : c.loop-place.place + 1 - 1 ≡ c.loop-place.place = omega arith in
    let a = arrived c.loop-place.place c.loop-place.spot c.after-spot.result (omega arith) c.loop-place.invariant.stands c.after-spot.ensures in
    let f = c.tried-best.ensures.few in
    let n = c.tried-best.ensures.counted in
    let m = c.loop-place.invariant.counted in
    let k = c.loop-place.invariant.few in
    record {
      stands = rw e a;
      known = c.tried-best.ensures.known;
      few = omega arith;
      counted = omega arith;
    }

pub best_of-requires : goal.best_of-requires
best_of-requires g c =
    let up = c.loop-place.auto.place-end (some_window c.args.range) in
    let down = c.loop-place-test.false in
    near_found (costs c.args.source.now c.args.reference.now c.args.block) (bounds c.args.source.now c.args.reference.now c.args.block) c.args.range c.loop-place.place c.loop-place.best c.requires.range.1 up c.loop-place.invariant.known

pub returns-clause-best : goal.returns-clause-best
returns-clause-best g c =
    let up = c.loop-place.auto.place-end (some_window c.args.range) in
    let down = c.loop-place-test.false in
    ended (costs c.args.source.now c.args.reference.now c.args.block) (bounds c.args.source.now c.args.reference.now c.args.block) c.args.range c.loop-place.place c.loop-place.best _ _ _ (omega arith) c.loop-place.invariant.known
    c.best_of.ensures.dx c.best_of.ensures.dy c.best_of.ensures.sad
