use Rattle.std.proofs.Common.{◌≡◌, ◌*◌, pos}
use Rattle.picture_planes.specs.Clamped.{rounded}
use Rattle.ref_lists.specs.Stored.{held_of, places_of, references_of, order_counts, width_of, height_of, IsNumberedNext, IsShownLast}
use Rattle.tool_compare.proofs.row_plans.read_references.Given as goal

abbrev pub invariant-loop-number : goal.invariant-loop-number
invariant-loop-number l = record {
  width : width_of l.store ≡ rounded l.width;
  height : height_of l.store ≡ rounded l.height;
  places : places_of l.store ≡ l.count;
  numbered : IsNumberedNext l.number (held_of l.store);
  shown : IsShownLast (pos (2 * l.number)) (order_counts (references_of l.store));
}
