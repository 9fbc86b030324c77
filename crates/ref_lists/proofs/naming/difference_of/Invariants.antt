use Rattle.std.proofs.Common.{◌≡◌, ◌≤◌, ◌*◌}
use Rattle.picture_planes.specs.Samples.{rows_to}
use Rattle.spec_lists.specs.Reordering.{difference}
use Rattle.ref_lists.proofs.naming.difference_of.Given as goal

abbrev pub invariant-loop-y : goal.invariant-loop-y
invariant-loop-y l = (l.total ≡ difference (rows_to l.a l.y) (rows_to l.b l.y)) × (l.total ≤ l.y * 4294967295)
