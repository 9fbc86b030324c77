-- Rows that are planned one after another, and slices.
use Rattle.std.proofs.Common.{◌≡◌, ◌≤◌, ◌<◌, ◌+◌, ◌⊎◌, inl, inr, ℕ, Bool, List, length, get_or, vec_len, set, sym, ap, subst, ◌∙◌, arith}
use Rattle.std.proofs.lemmas.Bool.{cases_lt}
use Rattle.std.specs.List.{All, range_with_len}
use Rattle.std.proofs.lemmas.List.{get_or-set_same, get_or-set_other, length-map}
use Rattle.std.proofs.lemmas.List.FromFn.{length-range_with_len}
use Rattle.enc_tables.specs.declared.plans.RowPlan.{RowPlan}
use Rattle.enc_tables.specs.declared.records.MbPlan.{MbPlan}
use Rattle.enc_tables.specs.declared.records.SliceKind.{SliceKind}
use Rattle.enc_tables.specs.Choice.{SmallCosts}
use Rattle.spec_film.specs.Films.{Planes}
use Rattle.spec_inter_plans.specs.InterPlans.{Search, plan_of, row_plans}
use Rattle.ref_lists.specs.declared.naming.Lists.{Lists}
use Rattle.mode_choice.specs.Given.{search_of}
use Rattle.picture_plans.specs.Planned.{row_at, IsRowPlan, RowsPlanned, SlicesPlanned}
use Rattle.picture_plans.proofs.Sharing.{row_grows}

-- ---- one row

length-planned : (kind : SliceKind) (s : Search) (first : ℕ) (t8x8 : Bool) (row : ℕ) → length (row_plans kind s first t8x8 row) ≡ s.across
unfolding row_plans
length-planned kind s first t8x8 row = length-map (range_with_len 0 s.across) (plan_of kind s first t8x8 row) ∙ length-range_with_len 0 s.across

-- a row that was planned has a plan for each of its macroblocks
pub same_width : (kind : SliceKind) (s : Search) (first : ℕ) (t8x8 : Bool) (row : ℕ) (p : RowPlan) → IsRowPlan kind s first t8x8 row p → vec_len p.mbs ≡ s.across
same_width kind s first t8x8 row p is = p.mbs.ok.0 ∙ ap (λ (xs : List MbPlan). length xs) is.plans ∙ length-planned kind s first t8x8 row

-- it is planned for the width that it has
pub planned_row : (n across : ℕ) (kind : SliceKind) (lists : Lists) (source : Planes) (range first : ℕ) (t8x8 : Bool) (row : ℕ) (p : RowPlan) → n ≡ across
    → p.mbs.items ≡ row_plans kind (search_of n lists source range) first t8x8 row → All SmallCosts p.mbs.items → IsRowPlan kind (search_of across lists source range) first t8x8 row p
planned_row n across kind lists source range first t8x8 row p wide e small = record {
  plans = e ∙ ap (λ (m : ℕ). row_plans kind (search_of m lists source range) first t8x8 row) wide;
  small = small;
}

-- ---- rows and slices

-- one row more
pub row_more : (kind : SliceKind) (s : Search) (first row : ℕ) (t8x8 : Bool) (plans : List RowPlan) (p : RowPlan) → row < length plans → RowsPlanned kind s first row t8x8 plans → IsRowPlan kind s first t8x8 row p
    → RowsPlanned kind s first (row + 1) t8x8 (set plans row p)
row_more kind s first row t8x8 plans p inside before is r d from to = by (cases_lt r row)
  where
    by : (r < row) ⊎ (row ≤ r) → IsRowPlan kind s first t8x8 r (get_or (set plans row p) r d)
    by (inl l) = subst (λ (q : RowPlan). IsRowPlan kind s first t8x8 r q) (sym (get_or-set_other plans row r p d (omega arith))) (before r d from l)
    by (inr m) = let e : row ≡ r = omega arith in
        subst (λ (k : ℕ). IsRowPlan kind s first t8x8 k (get_or (set plans row p) k d)) e
        (subst (λ (q : RowPlan). IsRowPlan kind s first t8x8 row q) (sym (get_or-set_same plans row p d inside)) is)

-- before the first slice
pub no_slices : (kind : SliceKind) (s : Search) (slices down : ℕ) (t8x8 : Bool) (plans : List RowPlan) → SlicesPlanned kind s slices down t8x8 0 plans
no_slices kind s slices down t8x8 plans k less = absurd (omega (arith, less))

-- one slice more, which leaves the rows above it as they are
pub slice_more : (kind : SliceKind) (s : Search) (down slices n : ℕ) (t8x8 : Bool) (old new : List RowPlan) → 0 < slices → SlicesPlanned kind s slices down t8x8 n old
    → RowsPlanned kind s (row_at slices down n) (row_at slices down (n + 1)) t8x8 new
    → ((r : ℕ) (d : RowPlan) → r < row_at slices down n → get_or new r d ≡ get_or old r d)
    → SlicesPlanned kind s slices down t8x8 (n + 1) new
slice_more kind s down slices n t8x8 old new some before now above k to = by (cases_lt k n)
  where
    by : (k < n) ⊎ (n ≤ k) → RowsPlanned kind s (row_at slices down k) (row_at slices down (k + 1)) t8x8 new
    by (inl l) = λ r d from end.
        let within : row_at slices down (k + 1) ≤ row_at slices down n = row_grows (k + 1) n down slices some (omega arith) in
        subst (λ (q : RowPlan). IsRowPlan kind s (row_at slices down k) t8x8 r q) (sym (above r d (omega arith))) (before k l r d from end)
    by (inr m) = let e : n ≡ k = omega arith in subst (λ (j : ℕ). RowsPlanned kind s (row_at slices down j) (row_at slices down (j + 1)) t8x8 new) e now

-- the same rows, their ends said in another way
pub rows_at : (kind : SliceKind) (s : Search) (first end from to : ℕ) (t8x8 : Bool) (plans : List RowPlan) → first ≡ from → end ≡ to → RowsPlanned kind s first end t8x8 plans → RowsPlanned kind s from to t8x8 plans
rows_at kind s first end from to t8x8 plans e h are =
    subst (λ (n : ℕ). RowsPlanned kind s n to t8x8 plans) e (subst (λ (n : ℕ). RowsPlanned kind s first n t8x8 plans) h are)
