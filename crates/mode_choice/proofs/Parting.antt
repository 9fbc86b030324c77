-- The nine partitions of a macroblock, from the best entries of the lists; and what they cost.
use Rattle.std.proofs.Common.{◌≡◌, ◌≢◌, ◌≤◌, ◌<◌, ◌+◌, ◌*◌, ◌^◌, ℕ, zero, suc, inl, inr, List, [], ◌∷◌, length, map, get_or, set, refl, sym, ap, ap₂, subst, ◌∙◌, arith, lit<}
use Rattle.std.specs.Prelude.{ℤ, pos}
use Rattle.std.specs.List.{sum_by}
use Rattle.std.proofs.lemmas.Bool.{cases_lt}
use Rattle.std.proofs.lemmas.List.{ext_get_or, get_or-map, get_or-set_same, get_or-set_other}
use Rattle.enc_tables.specs.declared.records.PartPlan.{PartPlan}
use Rattle.enc_tables.specs.declared.records.SliceKind.{SliceKind}
use Rattle.enc_tables.specs.declared.records.Vector.{Vector}
use Rattle.enc_tables.specs.Plans.{blank_part}
use Rattle.spec_film.specs.Films.{Planes}
use Rattle.spec_inter.specs.Taps.{mean}
use Rattle.spec_partitions.specs.InRange.{HasEntries}
use Rattle.spec_search.specs.declared.blocks.Block.{Block}
use Rattle.spec_inter_plans.specs.InterPlans.{Search, Listed, at as block_at, partitions, nine_compared, parts_compared, best_of_list, no_planes, moved_sample, difference_of, from_first, from_both, best_part_p, best_part_b, inter_parts}
use Rattle.spec_inter_plans.proofs.Adding.{by_pictures}
use Rattle.nine_search.specs.Partitions.{partition_block}
use Rattle.mode_choice.specs.declared.entries.Entry.{Entry}
use Rattle.mode_choice.specs.Given.{used}
use Rattle.mode_choice.specs.Entries.{as_listed, entry_at, IsEntry}
use Rattle.mode_choice.specs.Parts.{part_at, best_of_both}

partition_at : (f : Block → PartPlan) (x y k : ℕ) → k < 9 → get_or (map f (partitions x y)) k blank_part ≡ f (partition_block x y k)
unfolding partitions
partition_at f x y k lt = get_or-map f (partitions x y) k (block_at x y 16 16) blank_part lt

nine_of : (f : Block → PartPlan) (x y : ℕ) → length (map f (partitions x y)) ≡ 9
unfolding partitions
nine_of f x y = refl

pub nine_are : (f : Block → PartPlan) (x y : ℕ) (parts : List PartPlan) → length parts ≡ 9 → ((k : ℕ) → k < 9 → part_at parts k ≡ f (partition_block x y k)) → parts ≡ map f (partitions x y)
nine_are f x y parts long h =
    ext_get_or blank_part parts (map f (partitions x y)) (long ∙ sym (nine_of f x y))
    (λ k lt. (let p : k < 9 = omega arith in h k p ∙ sym (partition_at f x y k p)))

pub p_parts : (s : Search) (x y : ℕ) (list : List Planes) (parts : List PartPlan) (entries : List Entry) → s.sources.list0 ≡ list → length parts ≡ 9
    → ((k : ℕ) → k < 9 → as_listed (entry_at entries k) ≡ best_of_list s (partition_block x y k) list)
    → ((k : ℕ) → k < 9 → part_at parts k ≡ from_first (as_listed (entry_at entries k))) → parts ≡ inter_parts SliceKind.P s x y
unfolding inter_parts best_part_p
p_parts s x y list parts entries e long best is =
    nine_are (best_part_p s) x y parts long
    (λ k p. is k p ∙ ap from_first (best k p ∙ ap (best_of_list s (partition_block x y k)) (sym e)))

pub b_parts : (s : Search) (x y : ℕ) (list0 list1 : List Planes) (parts : List PartPlan) (first second : List Entry) → s.sources.list0 ≡ list0 → s.sources.list1 ≡ list1 → length parts ≡ 9
    → ((k : ℕ) → k < 9 → as_listed (entry_at first k) ≡ best_of_list s (partition_block x y k) list0)
    → ((k : ℕ) → k < 9 → as_listed (entry_at second k) ≡ best_of_list s (partition_block x y k) list1)
    → ((k : ℕ) → k < 9 → part_at parts k ≡ best_of_both s (partition_block x y k) (as_listed (entry_at first k)) (as_listed (entry_at second k))) → parts ≡ inter_parts SliceKind.B s x y
unfolding inter_parts best_part_b
b_parts s x y list0 list1 parts first second e f long best0 best1 is =
    nine_are (best_part_b s) x y parts long
    (λ k p. is k p ∙ ap₂ (λ (a b : Listed). best_of_both s (partition_block x y k) a b)
    (best0 k p ∙ ap (best_of_list s (partition_block x y k)) (sym e))
    (best1 k p ∙ ap (best_of_list s (partition_block x y k)) (sym f)))

pub no_parts : (s : Search) (x y : ℕ) (parts : List PartPlan) → parts ≡ (blank_part ∷ blank_part ∷ blank_part ∷ blank_part ∷ blank_part ∷ blank_part ∷ blank_part ∷ blank_part ∷ blank_part ∷ []) → parts ≡ inter_parts SliceKind.I s x y
unfolding inter_parts
no_parts s x y parts e = e

-- ---- how many vectors are compared

pub none_compared : (s : Search) (x y : ℕ) → parts_compared (used SliceKind.I s) x y ≡ 0
none_compared s x y = by_pictures (used SliceKind.I s) x y

pub p_compared : (s : Search) (x y n : ℕ) (list : List Planes) → s.sources.list0 ≡ list → n ≡ sum_by (nine_compared (used SliceKind.P s) x y) list → n ≡ parts_compared (used SliceKind.P s) x y
p_compared s x y n list e h =
    let f : Planes → ℕ = nine_compared (used SliceKind.P s) x y in
    let a = by_pictures (used SliceKind.P s) x y in
    let b : sum_by f list ≡ sum_by f s.sources.list0 = ap (sum_by f) (sym e) in
    let none : sum_by f [] ≡ 0 = refl in
    h ∙ b ∙ plus_none (sum_by f s.sources.list0) ∙ sym a
  where
    plus_none : (m : ℕ) → m ≡ m + 0
    plus_none m = omega arith

pub b_compared : (s : Search) (x y m n : ℕ) (list0 list1 : List Planes) → s.sources.list0 ≡ list0 → s.sources.list1 ≡ list1 → m ≡ sum_by (nine_compared s x y) list0 → n ≡ sum_by (nine_compared s x y) list1
    → m + n ≡ parts_compared (used SliceKind.B s) x y
b_compared s x y m n list0 list1 e f g h =
    ap₂ (λ (a b : ℕ). a + b) (g ∙ ap (sum_by (nine_compared s x y)) (sym e)) (h ∙ ap (sum_by (nine_compared s x y)) (sym f)) ∙ sym (by_pictures s x y)

-- ---- costs

pub costs_small : (ps : List PartPlan) → ((k : ℕ) → k < length ps → (part_at ps k).cost ≤ 65310) → (k : ℕ) → get_or (map (λ (p : PartPlan). p.cost) ps) k 0 < 2 ^ 24
costs_small [] h k = lit< tt
costs_small (p ∷ ps) h zero = let a = h 0 (omega arith) in omega (arith, a)
costs_small (p ∷ ps) h (suc k) = costs_small ps (λ j lt. h (suc j) (omega (arith, lt))) k

-- ---- partitions that are put in place one after another

pub part_more : (P : ℕ → PartPlan → Type 0) (ps : List PartPlan) (k : ℕ) (p : PartPlan) → k < length ps → ((j : ℕ) → j < k → P j (part_at ps j)) → P k p → (j : ℕ) → j < k + 1 → P j (part_at (set ps k p) j)
part_more P ps k p a h now j lt = elim (cases_lt j k) [
  | inl less ↦ (let n : j ≢ k = λ e. omega arith in rw (get_or-set_other ps k j p blank_part n) (h j less))
  | inr ge ↦ (let same : k ≡ j = omega arith in
      subst (λ (t : ℕ). P t (part_at (set ps k p) t)) same (rw (get_or-set_same ps k p blank_part a) now))
]

-- ---- a partition by both lists

unfoldable made : List ℤ → List Vector → ℕ → PartPlan
made refs vectors cost = record { motion = record { refs = refs; vectors = vectors }; cost = cost }

unfoldable both_cost : Search → Block → Entry → Entry → Planes → Planes → ℕ
both_cost s block a b p q =
    difference_of s block (λ i j. mean (moved_sample s block p a.vector i j) (moved_sample s block q b.vector i j)) + 4 * a.number + 4 * b.number + 6

pub both_is : (s : Search) (block : Block) (a b : Entry) (p q : Planes) (i j : ℤ) (n : ℕ) → get_or s.sources.list0 a.number no_planes ≡ p → get_or s.sources.list1 b.number no_planes ≡ q → i ≡ pos a.number → j ≡ pos b.number
    → n ≡ difference_of s block (λ i j. mean (moved_sample s block p a.vector i j) (moved_sample s block q b.vector i j))
    → (let r : PartPlan = record { motion = record { refs = i ∷ j ∷ []; vectors = a.vector ∷ b.vector ∷ [] }; cost = n + 4 * a.number + 4 * b.number + 6 } in r) ≡ from_both s block (as_listed a) (as_listed b)
unfolding made both_cost
both_is s block a b p q i j n e f k l is =
    ap₂ (λ (u v : ℤ). made (u ∷ v ∷ []) (a.vector ∷ b.vector ∷ []) (n + 4 * a.number + 4 * b.number + 6)) k l
    ∙ ap (λ (m : ℕ). made (pos a.number ∷ pos b.number ∷ []) (a.vector ∷ b.vector ∷ []) (m + 4 * a.number + 4 * b.number + 6)) is
    ∙ ap₂ (λ (x y : Planes). made (pos a.number ∷ pos b.number ∷ []) (a.vector ∷ b.vector ∷ []) (both_cost s block a b x y)) (sym e) (sym f)

pub wider_entry : (m n : ℕ) (e : Entry) → m ≤ n → IsEntry m e → IsEntry n e
wider_entry m n e le h = let inside = h.inside in record { inside = omega (arith, inside, le); short = h.short; small = h.small }

-- ---- which lists have entries

pub p_entries : (kind : SliceKind) (m n : ℕ) → kind ≡ SliceKind.P → HasEntries kind m n → 0 < m
unfolding HasEntries
p_entries kind m n e h = subst (λ (k : SliceKind). HasEntries k m n) e h

pub b_entries : (kind : SliceKind) (m n : ℕ) → kind ≡ SliceKind.B → HasEntries kind m n → (0 < m) × (0 < n)
unfolding HasEntries
b_entries kind m n e h = subst (λ (k : SliceKind). HasEntries k m n) e h
