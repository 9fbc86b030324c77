use Rattle.std.proofs.Common.{◌≡◌, ◌≤◌, ◌*◌, sum, take}
use Rattle.intra_pred.proofs.means.total.Given as goal

abbrev pub invariant-loop-x : goal.invariant-loop-x
invariant-loop-x l = (l.all ≡ sum (take l.x-index l.xs)) × (l.all ≤ 255 * l.x-index)
