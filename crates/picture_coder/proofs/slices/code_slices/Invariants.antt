use Rattle.std.proofs.Common.{◌≡◌, ◌≤◌, ◌==◌, ◌++◌, length}
use Rattle.picture_planes.specs.Pictures.{SameShapes, planes_of}
use Rattle.picture_coder.specs.Pictures.{SlicesCoded, first_slices, still_long, units_to}
use Rattle.picture_coder.proofs.slices.code_slices.Given as goal

abbrev pub invariant-loop-slice : goal.invariant-loop-slice
invariant-loop-slice l = record {
  shapes : SameShapes l.initial.picture l.picture;
  count : length l.records ≡ length l.initial.records;
  coded : SlicesCoded l.coding l.job l.slice (planes_of l.picture) l.records;
  payload : l.payload ≡ l.initial.payload;
  fits : length l.out.text ≤ l.out.room;
  units : l.out ≡ record l.initial.out { text = l.initial.out.text ++ units_to l.coding l.job (length l.initial.out.text == 0) l.slice };
  long : l.long ≡ still_long (length l.initial.out.text == 0) (first_slices l.coding l.job l.slice);
}
