-- The plans of P and B macroblocks: references that the lists have, and vectors near the windows.
use Rattle.std.proofs.Common.{◌≡◌, ◌≤◌, ◌<◌, ◌+◌, ◌-◌, ◌*◌, ℕ, zero, suc, Bool, List, [], ◌∷◌, length, map, get_or, refl, arith}
use Rattle.std.specs.List.{range_with_len}
use Rattle.enc_tables.specs.declared.records.PartPlan.{PartPlan}
use Rattle.enc_tables.specs.declared.records.SliceKind.{SliceKind}
use Rattle.enc_tables.specs.Plans.{blank_part}
use Rattle.spec_film.specs.Films.{Planes}
use Rattle.spec_partitions.specs.Small.{Small}
use Rattle.spec_partitions.proofs.Small.{zero_small}
use Rattle.spec_search.specs.declared.blocks.Block.{Block}
use Rattle.spec_inter_plans.specs.InterPlans.{Search, Listed, listed_cost, listed, best_of_list, part_plan_cost, from_first, from_second, from_both, best_part_p, best_part_b, partitions, inter_parts, plan_of}
use Rattle.spec_inter_plans.proofs.Near.{found_small}
use Rattle.spec_record_laws.proofs.Plans.{Each, least_is}
use Rattle.spec_inter_records.specs.Fits.{MotionChosen, PartsChosen}

-- ---- the best of a list

abbrev pub most : Search → ℕ
most s = 4 * s.range + 3

-- an entry of the list, and a vector near the window
abbrev IsEntry : Search → List Planes → Listed → Type 0
IsEntry s list l = (l.number < length list) × Small (most s) l.vector

entry_is : (s : Search) (block : Block) (list : List Planes) (r : ℕ) → r < length list → IsEntry s list (listed s block list r)
entry_is s block list r lt = (lt, found_small s block _)

each_entry : (s : Search) (block : Block) (list : List Planes) (a n : ℕ) → a + n ≤ length list → Each (IsEntry s list) (map (listed s block list) (range_with_len a n))
each_entry s block list a zero h = tt
each_entry s block list a (suc n) h = (entry_is s block list a (omega arith), each_entry s block list (a + 1) n (omega arith))

best_is : (s : Search) (block : Block) (list : List Planes) → 0 < length list → IsEntry s list (best_of_list s block list)
unfolding best_of_list
best_is s block list some =
    least_is (IsEntry s list) listed_cost (listed s block list 0) _ (entry_is s block list 0 some) (each_entry s block list 1 (length list - 1) (omega arith))

-- ---- one list, the other, or both

abbrev Fits : SliceKind → Search → PartPlan → Type 0
Fits kind s p = MotionChosen kind (length s.sources.list0) (length s.sources.list1) (most s) p.motion

first_fits : (s : Search) (a : Listed) → length s.sources.list0 ≤ 4 → IsEntry s s.sources.list0 a → Fits SliceKind.P s (from_first a)
first_fits s a few h = record {
  first = (h.0, omega (arith, h.0));
  second = refl;
  uses = (refl, refl);
  small0 = h.1;
  small1 = zero_small (most s);
  unused0 = λ e. absurd cc;
  unused1 = λ e. refl;
}

first_fits_b : (s : Search) (a : Listed) → length s.sources.list0 ≤ 4 → IsEntry s s.sources.list0 a → Fits SliceKind.B s (from_first a)
first_fits_b s a few h = record {
  first = (h.0, omega (arith, h.0));
  second = refl;
  uses = refl;
  small0 = h.1;
  small1 = zero_small (most s);
  unused0 = λ e. absurd cc;
  unused1 = λ e. refl;
}

second_fits : (s : Search) (b : Listed) → length s.sources.list1 ≤ 4 → IsEntry s s.sources.list1 b → Fits SliceKind.B s (from_second b)
second_fits s b few h = record {
  first = refl;
  second = (h.0, omega (arith, h.0));
  uses = refl;
  small0 = zero_small (most s);
  small1 = h.1;
  unused0 = λ e. refl;
  unused1 = λ e. absurd cc;
}

both_fit : (s : Search) (block : Block) (a b : Listed) → length s.sources.list0 ≤ 4 → length s.sources.list1 ≤ 4 → IsEntry s s.sources.list0 a → IsEntry s s.sources.list1 b → Fits SliceKind.B s (from_both s block a b)
both_fit s block a b few0 few1 g h = record {
  first = (g.0, omega (arith, g.0));
  second = (h.0, omega (arith, h.0));
  uses = refl;
  small0 = g.1;
  small1 = h.1;
  unused0 = λ e. absurd cc;
  unused1 = λ e. absurd cc;
}

part_p : (s : Search) (block : Block) → 0 < length s.sources.list0 → length s.sources.list0 ≤ 4 → Fits SliceKind.P s (best_part_p s block)
unfolding best_part_p
part_p s block some few = first_fits s (best_of_list s block s.sources.list0) few (best_is s block s.sources.list0 some)

part_b : (s : Search) (block : Block) → 0 < length s.sources.list0 → length s.sources.list0 ≤ 4 → 0 < length s.sources.list1 → length s.sources.list1 ≤ 4 → Fits SliceKind.B s (best_part_b s block)
unfolding best_part_b
part_b s block some0 few0 some1 few1 =
    let a = best_of_list s block s.sources.list0 in
    let b = best_of_list s block s.sources.list1 in
    let g = best_is s block s.sources.list0 some0 in
    let h = best_is s block s.sources.list1 some1 in
    least_is (Fits SliceKind.B s) part_plan_cost (from_first a) (from_second b ∷ from_both s block a b ∷ []) (first_fits_b s a few0 g) (second_fits s b few1 h, (both_fit s block a b few0 few1 g h, tt))

-- ---- the nine partitions

each_at : (P : PartPlan → Type 0) (xs : List PartPlan) (k : ℕ) → k < length xs → Each P xs → P (get_or xs k blank_part)
each_at P [] k lt h = absurd (omega arith)
each_at P (x ∷ xs) zero lt h = h.0
each_at P (x ∷ xs) (suc k) lt h = each_at P xs k (omega arith) h.1

nine : (P : PartPlan → Type 0) (f : Block → PartPlan) (x y : ℕ) → ((block : Block) → P (f block)) → Each P (map f (partitions x y))
unfolding partitions
nine P f x y h = (h _, (h _, (h _, (h _, (h _, (h _, (h _, (h _, (h _, tt)))))))))

length-nine : (f : Block → PartPlan) (x y : ℕ) → length (map f (partitions x y)) ≡ 9
unfolding partitions
length-nine f x y = refl

parts_at : (P : PartPlan → Type 0) (f : Block → PartPlan) (x y : ℕ) → ((block : Block) → P (f block)) → (k : ℕ) → k < 9 → P (get_or (map f (partitions x y)) k blank_part)
parts_at P f x y h k lt = each_at P (map f (partitions x y)) k (omega (arith, lt, length-nine f x y)) (nine P f x y h)

pub p_plan : (s : Search) (first_row : ℕ) (t8x8 : Bool) (row column : ℕ) → 0 < length s.sources.list0 → length s.sources.list0 ≤ 4
    → PartsChosen SliceKind.P (length s.sources.list0) (length s.sources.list1) (most s) (plan_of SliceKind.P s first_row t8x8 row column)
unfolding plan_of inter_parts
p_plan s first_row t8x8 row column some few = record { at = λ k lt. parts_at (Fits SliceKind.P s) (best_part_p s) (16 * column) (16 * row) (λ block. part_p s block some few) k lt }

pub b_plan : (s : Search) (first_row : ℕ) (t8x8 : Bool) (row column : ℕ) → 0 < length s.sources.list0 → length s.sources.list0 ≤ 4 → 0 < length s.sources.list1 → length s.sources.list1 ≤ 4
    → PartsChosen SliceKind.B (length s.sources.list0) (length s.sources.list1) (most s) (plan_of SliceKind.B s first_row t8x8 row column)
unfolding plan_of inter_parts
b_plan s first_row t8x8 row column some0 few0 some1 few1 = record { at = λ k lt. parts_at (Fits SliceKind.B s) (best_part_b s) (16 * column) (16 * row) (λ block. part_b s block some0 few0 some1 few1) k lt }
