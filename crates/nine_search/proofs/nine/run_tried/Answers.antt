use Rattle.std.proofs.Common.{◌≡◌, ◌<◌, ◌+◌, ◌∙◌, ℕ, sym, ap, arith, w16, SFits}
use Rattle.std.proofs.lemmas.Int.{to_z-of_z}
use Rattle.std.specs.Prelude.{slice_index}
use Rattle.spec_search.specs.Scan.{dx_of, dy_of}
use Rattle.motion_search.specs.Planes.{costs}
use Rattle.motion_search.proofs.Going.{near_of, standing}
use Rattle.nine_search.specs.Partitions.{sub_macroblock}
use Rattle.nine_search.specs.NineSearches.{sad_at}
use Rattle.nine_search.specs.NinePlanes.{sub_costs, sub_bounds}
use Rattle.nine_search.proofs.Stepping.{nine_passed, nine_step, cost_is_of, takes_same, sub_under}
use Rattle.nine_search.proofs.Running.{lane_wanted, want_most, nine_kept}
use Rattle.nine_search.proofs.nine.run_tried.Goals as goal
use Rattle.nine_search.proofs.nine.run_tried.Goals.{then-wanted-gt0+then-want_count-gt0, then-wanted-gt0+else-want_count-gt0, else-wanted-gt0}

pub loop-lane-init : goal.loop-lane-init
loop-lane-init g c =
    let e : c.args.place + 0 ≡ c.args.place = omega arith in
    record {
      known = rw e c.requires.known;
      wanted = λ i ge lt. lane_wanted c.args.own.now (sub_bounds c.args.source.now c.args.reference.now c.args.x c.args.y) c.args.place c.args.run.now c.args.old.sads c.wants_of-counts.result c.requires.run c.requires.small c.requires.count.1 c.wants_of-counts.ensures.value i lt;
      few = omega arith;
      counted = omega arith;
      lanes = c.wants_of-counts.ensures.lanes;
    }

pub four_differences-parts-requires-clause-near : goal.four_differences-parts-requires-clause-near
four_differences-parts-requires-clause-near g c = near_of (c.args.place + c.loop-lane.lane) c.args.range _ c.requires.range (omega arith) (c.spot_at-spot.ensures ∙ c.requires.run.follows.spot c.loop-lane.lane (omega arith))

pub part_of-dx-requires : goal.part_of-dx-requires
part_of-dx-requires g c =
    let w = near_of (c.args.place + c.loop-lane.lane) c.args.range _ c.requires.range (omega arith) (c.spot_at-spot.ensures ∙ c.requires.run.follows.spot c.loop-lane.lane (omega arith)) in
    (w.ring, w.column)

pub part_of-dy-requires : goal.part_of-dy-requires
part_of-dy-requires g c =
    let w = near_of (c.args.place + c.loop-lane.lane) c.args.range _ c.requires.range (omega arith) (c.spot_at-spot.ensures ∙ c.requires.run.follows.spot c.loop-lane.lane (omega arith)) in
    (w.ring, w.row)

pub loop-lane-preserved : goal.loop-lane-preserved
loop-lane-preserved g c =
    let s = c.args.source.now in
    let r = c.args.reference.now in
    let x = c.args.x in
    let y = c.args.y in
    let place = c.args.place in
    let lane = c.loop-lane.lane in
    let n = place + lane in
    let nine = c.loop-lane.nine in
    let wanted = slice_index c.loop-lane.counts lane in
    let i = c.loop-lane.invariant in
    let stands = c.requires.run.follows.spot lane (omega arith) in
    let here = i.wanted lane (omega arith) (omega arith) in
    let most = want_most (sub_bounds s r x y) (sad_at nine) n in
    let known = i.known in
    let before = i.few in
    let counted = i.counted in
    let e : place + (lane + 1) ≡ n + 1 = omega arith in
    elim c.if-wanted-gt0.branch [
      | then-wanted-gt0+then-want_count-gt0 w ↦
          (let fx : SFits w16 w.part_of-dx.result = record { sfits = w.part_of-dx.type_inv } in
          let fy : SFits w16 w.part_of-dy.result = record { sfits = w.part_of-dy.type_inv } in
          let d = λ (q : ℕ) (p : q < 4). w.four_differences-parts.ensures.value q p ∙ standing (costs s r (sub_macroblock x y q)) w.spot_at-spot.result n (w.spot_at-spot.ensures ∙ stands) in
          let k = w.taken-nine.ensures.compared in
          let u = w.rise.ensures in
          rw (w.nine-is, w.counts-is, w.steps-is, e) (record {
            known = nine_step (sub_costs s r x y) (sub_bounds s r x y) n wanted _ _ nine w.taken-nine.result (omega arith)
                (to_z-of_z w16 w.part_of-dx.result fx ∙ w.part_of-dx.ensures ∙ ap dx_of (w.spot_at-spot.ensures ∙ stands))
                (to_z-of_z w16 w.part_of-dy.result fy ∙ w.part_of-dy.ensures ∙ ap dy_of (w.spot_at-spot.ensures ∙ stands))
                known (sub_under s r x y n)
                (λ j p. takes_same _ _ j _ _ nine w.taken-nine.result (cost_is_of (sub_costs s r x y) n w.four_differences-parts.result w.nine_sums-sads.result d w.nine_sums-sads.ensures j p) (w.taken-nine.ensures.each j p))
                here k;
            wanted = λ j ge lt. lane_wanted c.args.own.now (sub_bounds s r x y) place c.args.run.now w.taken-nine.result.sads _ c.requires.run c.requires.small c.requires.count.1 w.wants_of-counts-then-want_count-gt0.ensures.value j lt;
            few = omega arith;
            counted = omega arith;
            lanes = w.wants_of-counts-then-want_count-gt0.ensures.lanes;
          }))
      | then-wanted-gt0+else-want_count-gt0 w ↦
          (let d = λ (q : ℕ) (p : q < 4). w.four_differences-parts.ensures.value q p ∙ standing (costs s r (sub_macroblock x y q)) w.spot_at-spot.result n (w.spot_at-spot.ensures ∙ stands) in
          let v = w.want_count.ensures.value in
          let f = w.if-want_count-gt0.false in
          let u = w.rise.ensures in
          rw (w.nine-is, w.counts-is, w.steps-is, e) (record {
            known = nine_kept (sub_costs s r x y) (sub_bounds s r x y) n wanted w.nine_sums-sads.result nine (omega arith) known (sub_under s r x y n)
                (cost_is_of (sub_costs s r x y) n w.four_differences-parts.result w.nine_sums-sads.result d w.nine_sums-sads.ensures)
                (omega arith) here;
            wanted = λ j ge lt. i.wanted j (omega arith) lt;
            few = omega arith;
            counted = omega arith;
            lanes = i.lanes;
          }))
      | else-wanted-gt0 w ↦
          (let f = w.if-wanted-gt0.false in
          let none : wanted ≡ 0 = omega arith in
          rw (w.nine-is, w.counts-is, w.steps-is, e) (record {
            known = nine_passed (sub_costs s r x y) (sub_bounds s r x y) n nine (omega arith) known (sub_under s r x y n) (sym here ∙ none);
            wanted = λ j ge lt. i.wanted j (omega arith) lt;
            few = omega arith;
            counted = counted;
            lanes = i.lanes;
          }))
    ]
