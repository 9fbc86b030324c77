use Rattle.std.proofs.Common.{◌≤◌, take, w8, Fits}
use Rattle.std.proofs.lemmas.Simd.{chunk-fits, Each1-weaker}
use Rattle.std.proofs.lemmas.List.{length-take-le}
use lib.Lanes.{Each1, zip2}
use Rattle.std.specs.Int.{abs_diff}
use Rattle.lane_kernels.proofs.Apart.{row_added, all_lanes, diffs_small, cast_fits}
use Rattle.lane_kernels.proofs.blocks.add_apart16.Goals as goal

pub overflow_cast-result-3 : goal.overflow_cast-result-3
overflow_cast-result-3 c =
    let f : Each1 (Fits w8) (take 16 c.args.x.now) = chunk-fits w8 0 16 c.args.x.now c.type_inv.x in
    let g : Each1 (Fits w8) (take 16 c.args.y.now) = chunk-fits w8 0 16 c.args.y.now c.type_inv.y in
    rw (all_lanes 16 (take 16 c.args.x.now) (take 16 c.args.y.now) (length-take-le 16 c.args.x.now c.requires.x) (length-take-le 16 c.args.y.now c.requires.y) f g) (Each1-weaker (λ a. a ≤ 255) _ cast_fits (zip2 abs_diff (take 16 c.args.x.now) (take 16 c.args.y.now)) (diffs_small (take 16 c.args.x.now) (take 16 c.args.y.now) f g))

pub returns : goal.returns
returns c =
    let f : Each1 (Fits w8) (take 16 c.args.x.now) = chunk-fits w8 0 16 c.args.x.now c.type_inv.x in
    let g : Each1 (Fits w8) (take 16 c.args.y.now) = chunk-fits w8 0 16 c.args.y.now c.type_inv.y in
    let a = row_added 16 c.args.all (take 16 c.args.x.now) (take 16 c.args.y.now) c.requires.lanes (length-take-le 16 c.args.x.now c.requires.x) (length-take-le 16 c.args.y.now c.requires.y) c.requires.low f g in
    record { lanes = a.lanes; sum = a.total; most = a.most }
