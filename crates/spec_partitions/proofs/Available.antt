-- The macroblocks around one of a slice, by the records before it and by its number.
use Rattle.std.proofs.Common.{◌≡◌, ℕ, ◌+◌, ◌-◌, ◌%◌, Bool, true, false, not, ◌&&◌, ◌||◌, List, length, Option, Some, None, refl, arith}
use Rattle.std.specs.Prelude.{◌==◌, nat_lt, nat_le, is_some, if◌then◌else◌}
use Rattle.std.proofs.lemmas.Bool.Decides.{nat_tests}
use Rattle.enc_tables.specs.declared.records.MbRecord.{MbRecord}
use Rattle.enc_tables.specs.declared.records.Motion.{Motion}
use Rattle.spec_intra.specs.Near.{macroblock_avail}
use Rattle.spec_partitions.specs.Near.{SliceFacts, near_in, view_in}

-- a record that is there unless one of two tests is true
there : {A : Type 0} (edge few : Bool) (x : A) (enough : Bool) → enough ≡ not few → is_some (if edge || few then None else Some x) ≡ not edge && enough
there true few x enough e = refl
there false true x enough e = rw e refl
there false false x enough e = rw e refl

swapped : {A : Type 0} (few edge : Bool) (x : A) (enough : Bool) → enough ≡ not few → is_some (if few || edge then None else Some x) ≡ not edge && enough
swapped true true x enough e = refl
swapped true false x enough e = rw e refl
swapped false true x enough e = refl
swapped false false x enough e = rw e refl

alone : {A : Type 0} (few : Bool) (x : A) (enough : Bool) → enough ≡ not few → is_some (if few then None else Some x) ≡ enough
alone true x enough e = rw e refl
alone false x enough e = rw e refl

pub left_is : (s : SliceFacts) (before : List MbRecord) → is_some (near_in s before).left ≡ (macroblock_avail s.width s.first (s.first + length before)).left
unfolding near_in
left_is s before = swapped (length before == 0) ((s.first + length before) % s.width == 0) _ (nat_le (s.first + 1) (s.first + length before)) (grind (arith, nat_tests))

pub above_is : (s : SliceFacts) (before : List MbRecord) → is_some (near_in s before).above ≡ (macroblock_avail s.width s.first (s.first + length before)).above
unfolding near_in
above_is s before = alone (nat_lt (length before) s.width) _ (nat_le (s.first + s.width) (s.first + length before)) (grind (arith, nat_tests))

pub corner_is : (s : SliceFacts) (c : ℕ → List (Option Motion)) (before : List MbRecord) → is_some (view_in s c before).above_left ≡ (macroblock_avail s.width s.first (s.first + length before)).corner
corner_is s c before = there ((s.first + length before) % s.width == 0) (nat_lt (length before) (s.width + 1)) _ (nat_le (s.first + s.width + 1) (s.first + length before)) (grind (arith, nat_tests))

pub above_right_is : (s : SliceFacts) (c : ℕ → List (Option Motion)) (before : List MbRecord) → is_some (view_in s c before).above_right ≡ (macroblock_avail s.width s.first (s.first + length before)).above_right
above_right_is s c before = there ((s.first + length before + 1) % s.width == 0) (nat_lt (length before) (s.width - 1)) _ (nat_le (s.first + s.width) (s.first + length before + 1)) (grind (arith, nat_tests))
