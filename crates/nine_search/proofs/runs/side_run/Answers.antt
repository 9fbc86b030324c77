use Rattle.std.proofs.Common.{◌+◌, ◌-◌, ◌*◌, ◌/◌, ◌%◌, arith}
use Rattle.nine_search.specs.Runs.{spot_of}
use Rattle.nine_search.proofs.Following.{four_sums}
use Rattle.nine_search.proofs.runs.side_run.Goals as goal

pub returns-clause-sums : goal.returns-clause-sums
unfolding spot_of
returns-clause-sums c =
    let t = c.loop-lane.auto.lane-end in
    let f = c.loop-lane-test.false in
    let i = c.loop-lane.invariant in
    let n = c.requires.near.ring in
    let m = c.requires.margin in
    four_sums c.args.sums.now c.args.x c.args.y _ (λ k. c.args.x + c.args.sums.now.pad - c.args.spot.ring + 2 * c.args.spot.ring * (k % 2)) (λ k. c.args.y + c.args.sums.now.pad + c.args.spot.row - c.args.spot.ring + k / 2)
    (λ k p. omega arith) (λ k p. omega arith)
    (λ k p. i.sum0 k (omega arith)) (λ k p. i.sum1 k (omega arith)) (λ k p. i.sum2 k (omega arith)) (λ k p. i.sum3 k (omega arith))
