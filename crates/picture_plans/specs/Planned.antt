-- Rows of macroblocks that are planned, slice by slice.
use Rattle.std.specs.Prelude.{ℕ, Bool, List, get_or, vec_len, ◌≡◌, ◌≤◌, ◌<◌, ◌+◌, ◌*◌, ◌/◌}
use Rattle.std.specs.List.{All}
use Rattle.enc_tables.specs.declared.plans.RowPlan.{RowPlan}
use Rattle.enc_tables.specs.declared.records.SliceKind.{SliceKind}
use Rattle.enc_tables.specs.Choice.{SmallCosts}
use Rattle.spec_inter_plans.specs.InterPlans.{Search, row_plans}

-- the first row of slice k of a picture of so many slices and rows of macroblocks
abbrev pub row_at : ℕ → ℕ → ℕ → ℕ
row_at slices down k = k * down / slices

-- the plans of a row of a slice that begins with row `first`
pub record IsRowPlan (kind : SliceKind) (s : Search) (first : ℕ) (t8x8 : Bool) (row : ℕ) (p : RowPlan) : Type 0 where
  pub plans : p.mbs.items ≡ row_plans kind s first t8x8 row
  pub small : All SmallCosts p.mbs.items

-- rows `first` to `end` - 1 are planned, as rows of a slice that begins with row `first`
abbrev pub RowsPlanned : SliceKind → Search → ℕ → ℕ → Bool → List RowPlan → Type 0
RowsPlanned kind s first end t8x8 plans = (r : ℕ) (d : RowPlan) → first ≤ r → r < end → IsRowPlan kind s first t8x8 r (get_or plans r d)

-- the first n of so many slices are planned, in a picture of so many rows
abbrev pub SlicesPlanned : SliceKind → Search → ℕ → ℕ → Bool → ℕ → List RowPlan → Type 0
SlicesPlanned kind s slices down t8x8 n plans = (k : ℕ) → k < n → RowsPlanned kind s (row_at slices down k) (row_at slices down (k + 1)) t8x8 plans

-- each row has a place for each of its macroblocks
abbrev pub AreRows : ℕ → List RowPlan → Type 0
AreRows across plans = All (λ (p : RowPlan). vec_len p.mbs ≡ across) plans
