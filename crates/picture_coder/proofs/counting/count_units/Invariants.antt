use Rattle.std.proofs.Common.{◌≡◌, ◌≤◌, ◌*◌, false, length}
use Rattle.picture_planes.specs.Pictures.{SameShapes, planes_of}
use Rattle.picture_coder.specs.Pictures.{SlicesCoded, units_to}
use Rattle.picture_coder.proofs.counting.count_units.Given as goal

abbrev pub invariant-loop-slice : goal.invariant-loop-slice
invariant-loop-slice l = record {
  shapes : SameShapes l.initial.picture l.picture;
  count : length l.records ≡ length l.initial.records;
  coded : SlicesCoded l.coding l.job l.slice (planes_of l.picture) l.records;
  payload : l.payload ≡ l.initial.payload;
  bits : l.total ≡ length (units_to l.coding l.job false l.slice);
  small : l.total ≤ 10000000 * l.slice;
}
