use Rattle.std.proofs.Common.{◌-◌, arith, refl}
use Rattle.spec_search.specs.Scan.{spot_at}
use Rattle.spec_search.proofs.Ranks.{arrived}
use Rattle.motion_search.proofs.Going.{near_of, some_window}
use Rattle.nine_search.proofs.Stepping.{nine_best, nine_compared_is}
use Rattle.nine_search.proofs.Following.{run_is}
use Rattle.nine_search.proofs.nine.search_nine.Goals as goal

pub loop-place-init : goal.loop-place-init
unfolding spot_at
loop-place-init g c =
    let w = some_window c.args.range in
    let f = c.nine_begun-nine.ensures.few in
    let n = c.nine_begun-nine.ensures.counted in
    record {
      stands = refl;
      later = omega arith;
      inside = w;
      known = c.nine_begun-nine.ensures.known;
      few = omega arith;
      counted = omega arith;
    }

pub after-spot-requires : goal.after-spot-requires
after-spot-requires g c = let l = c.loop-place.invariant.later in near_of (c.loop-place.place - 1) c.args.range c.loop-place.spot c.requires.range.1 (let i = c.loop-place.invariant.inside in omega arith) c.loop-place.invariant.stands

pub run_from-run-requires-clause-near : goal.run_from-run-requires-clause-near
run_from-run-requires-clause-near g c =
    near_of c.loop-place.place c.args.range c.after-spot.result c.requires.range.1 (omega arith)
    (arrived c.loop-place.place c.loop-place.spot c.after-spot.result c.loop-place.invariant.later c.loop-place.invariant.stands c.after-spot.ensures)

pub run_from-run-requires-clause-stands : goal.run_from-run-requires-clause-stands
run_from-run-requires-clause-stands g c = arrived c.loop-place.place c.loop-place.spot c.after-spot.result c.loop-place.invariant.later c.loop-place.invariant.stands c.after-spot.ensures

pub run_tried-nine-requires-clause-run : goal.run_tried-nine-requires-clause-run
run_tried-nine-requires-clause-run g c =
    let h = c.requires.table.shape in
    let a = h.width in
    let b = h.height in
    let p = h.pad in
    let sw = c.requires.sizes.width in
    let sh = c.requires.sizes.height in
    let x = c.requires.macroblock.across in
    let y = c.requires.macroblock.down in
    let k = c.run_from-run.ensures.count.1 in
    let m = c.requires.margin in
    run_is c.args.sums.now c.args.source.now c.args.reference.now c.args.x c.args.y c.args.range c.loop-place.place c.run_from-run.result c.own_sums-own.result
    (c.own_sums-own.ensures.value c.args.source.now c.requires.source_table) c.requires.table (omega arith)
    (record { across = omega arith; down = omega arith; wide = c.requires.macroblock.wide; high = c.requires.macroblock.high })
    c.requires.range.1 (omega arith) c.run_from-run.ensures.sums c.run_from-run.ensures.follows

pub returns-clause-best : goal.returns-clause-best
returns-clause-best g c =
    let i = c.loop-place.invariant.inside in
    let down = c.loop-place-test.false in
    nine_best c.args.source.now c.args.reference.now c.args.x c.args.y c.args.range c.loop-place.place c.loop-place.nine (omega arith) c.loop-place.invariant.known

pub returns-clause-compared : goal.returns-clause-compared
returns-clause-compared g c =
    let i = c.loop-place.invariant.inside in
    let down = c.loop-place-test.false in
    nine_compared_is c.args.source.now c.args.reference.now c.args.x c.args.y c.args.range c.loop-place.place c.loop-place.nine (omega arith) c.loop-place.invariant.known
