-- The plans of a row, and how many vectors are compared for it.
use Rattle.std.proofs.Common.{◌≡◌, ◌≢◌, ◌≤◌, ◌<◌, ◌+◌, ◌*◌, ◌++◌, ◌∙◌, ℕ, zero, suc, Bool, List, [], ◌∷◌, length, get_or, set, inl, inr, ap, ap₂, subst, arith}
use Rattle.std.specs.List.{range_with_len, sum_by}
use Rattle.std.proofs.lemmas.Bool.{cases_lt}
use Rattle.std.proofs.lemmas.List.{get_or-set_same, get_or-set_other}
use Rattle.std.proofs.lemmas.List.FromFn.{fill_by_all, get_or-map-range_with_len}
use Rattle.std.proofs.lemmas.List.Sums.{sum_by_push}
use Rattle.enc_tables.specs.declared.records.MbPlan.{MbPlan}
use Rattle.enc_tables.specs.declared.records.PartPlan.{PartPlan}
use Rattle.enc_tables.specs.declared.records.SliceKind.{SliceKind}
use Rattle.enc_tables.specs.Choice.{SmallCosts}
use Rattle.enc_tables.specs.Plans.{blank_plan}
use Rattle.spec_inter_plans.specs.InterPlans.{Search, inter_parts, plan_of, row_plans, parts_compared, row_compared}
use Rattle.spec_choice.specs.IntraPlans.{intra_plan}
use Rattle.mode_choice.specs.Parts.{part_at}
use Rattle.mode_choice.proofs.Parting.{costs_small}

pub all_planned : (kind : SliceKind) (s : Search) (first : ℕ) (t8x8 : Bool) (row : ℕ) (plans : List MbPlan) → length plans ≡ s.across
    → ((k : ℕ) → k < s.across → get_or plans k blank_plan ≡ plan_of kind s first t8x8 row k) → plans ≡ row_plans kind s first t8x8 row
unfolding row_plans
all_planned kind s first t8x8 row plans long done = fill_by_all (plan_of kind s first t8x8 row) plans s.across blank_plan long done

pub row_compared_is : (s : Search) (row n : ℕ) → n ≡ sum_by (λ k. parts_compared s (16 * k) (16 * row)) (range_with_len 0 s.across) → n ≡ row_compared s row
unfolding row_compared
row_compared_is s row n e = e

range_more : (a n : ℕ) → range_with_len a (suc n) ≡ range_with_len a n ++ (a + n) ∷ []
range_more a zero = let e : a ≡ a + zero = omega arith in ap (λ (k : ℕ). k ∷ []) e
range_more a (suc n) =
    let e : a + 1 + n ≡ a + suc n = omega arith in
    ap (λ (l : List ℕ). a ∷ l) (range_more (a + 1) n ∙ ap (λ (k : ℕ). range_with_len (a + 1) n ++ k ∷ []) e)

pub one_column_more : (f : ℕ → ℕ) (n m c : ℕ) → m ≡ sum_by f (range_with_len 0 n) → c ≡ f n → m + c ≡ sum_by f (range_with_len 0 (n + 1))
one_column_more f n m c e g =
    let turn : n + 1 ≡ suc n = omega arith in
    let same : 0 + n ≡ n = omega arith in
    let more : range_with_len 0 (n + 1) ≡ range_with_len 0 n ++ n ∷ [] = ap (range_with_len 0) turn ∙ range_more 0 n ∙ ap (λ (k : ℕ). range_with_len 0 n ++ k ∷ []) same in
    let a = ap (sum_by f) more ∙ sum_by_push f (range_with_len 0 n) n in
    omega (arith, a, e, g)

-- ---- one macroblock

pub plan_is : (kind : SliceKind) (s : Search) (first : ℕ) (t8x8 : Bool) (row column : ℕ) (plan : MbPlan) (parts : List PartPlan) → plan ≡ intra_plan s.across first t8x8 s.source row column → parts ≡ inter_parts kind s (16 * column) (16 * row)
    → record plan { parts = parts } ≡ plan_of kind s first t8x8 row column
unfolding plan_of
plan_is kind s first t8x8 row column plan parts e f = ap₂ (λ (m : MbPlan) (ps : List PartPlan). record m { parts = ps }) e f

pub small_is : (plan : MbPlan) (parts : List PartPlan) → SmallCosts plan → length parts ≡ 9 → ((k : ℕ) → k < 9 → (part_at parts k).cost ≤ 65310) → SmallCosts (record plan { parts = parts })
small_is plan parts h long small = record { intra = h.intra; parts = costs_small parts (λ k lt. small k (omega (arith, long, lt))) }

-- macroblocks that are put in place one after another
pub plan_more : (P : ℕ → MbPlan → Type 0) (ps : List MbPlan) (k : ℕ) (p : MbPlan) → k < length ps → ((j : ℕ) → j < k → P j (get_or ps j blank_plan)) → P k p → (j : ℕ) → j < k + 1 → P j (get_or (set ps k p) j blank_plan)
plan_more P ps k p a h now j lt = elim (cases_lt j k) [
  | inl less ↦ (let n : j ≢ k = λ e. omega arith in rw (get_or-set_other ps k j p blank_plan n) (h j less))
  | inr ge ↦ (let same : k ≡ j = omega arith in
      subst (λ (t : ℕ). P t (get_or (set ps k p) t blank_plan)) same (rw (get_or-set_same ps k p blank_plan a) now))
]

-- the plan at a place of the row
pub row_plan_at : (kind : SliceKind) (s : Search) (first : ℕ) (t8x8 : Bool) (row k : ℕ) (d : MbPlan) → k < s.across → get_or (row_plans kind s first t8x8 row) k d ≡ plan_of kind s first t8x8 row k
unfolding row_plans
row_plan_at kind s first t8x8 row k d lt = get_or-map-range_with_len (plan_of kind s first t8x8 row) 0 s.across k k d lt (omega arith)
