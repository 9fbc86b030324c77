-- The macroblock's kind of least cost, of those that a plan has costs for.
use Rattle.std.specs.Prelude.{ℕ, Bool, List, [], ◌∷◌, ◌+◌, ◌-◌, ◌*◌, ◌/◌, ◌^◌, ◌<◌, nat_lt, cond, slice_index, map}
use Rattle.enc_tables.specs.declared.records.MbKind.{MbKind}
use Rattle.enc_tables.specs.declared.records.MbKind.TheVariants as kinds
use Rattle.enc_tables.specs.declared.records.SliceKind.{SliceKind}
use Rattle.enc_tables.specs.declared.records.SliceKind.TheVariants as slices
use Rattle.enc_tables.specs.declared.records.PartPlan.{PartPlan}
use Rattle.enc_tables.specs.declared.records.MbPlan.{MbPlan}

-- of two the one of less cost, the earlier one where they cost the same
unfoldable pub lesser : {A : Type 0} → (A → ℕ) → A → A → A
lesser cost best next = cond (nat_lt (cost next) (cost best)) next best

-- the first of least cost of an item and those behind it
abbrev pub first_least : {A : Type 0} → (A → ℕ) → A → List A → A
first_least cost best [] = best
first_least cost best (x ∷ xs) = first_least cost (lesser cost best x) xs

-- what a bit counts, in sums of absolute differences
abbrev pub lambda : ℕ → ℕ
lambda qp = 2 ^ ((qp - 12) / 6)

-- a kind and its cost
abbrev pub cost_of : MbKind × ℕ → ℕ
cost_of c = c.1

abbrev pub part_cost : MbPlan → ℕ → ℕ
part_cost plan k = slice_index (map (λ (p : PartPlan). p.cost) plan.parts) k

-- the four ways to part a macroblock: as one partition, in two of 16x8, in two of 8x16, in four of 8x8; each with its kind, the
-- bits that it takes and what a bit counts
abbrev pub in_one : MbPlan → MbKind → ℕ → ℕ → MbKind × ℕ
in_one plan kind bits bit = (kind, part_cost plan 0 + bits * bit)

abbrev pub in_rows : MbPlan → MbKind → ℕ → ℕ → MbKind × ℕ
in_rows plan kind bits bit = (kind, part_cost plan 1 + part_cost plan 2 + bits * bit)

abbrev pub in_columns : MbPlan → MbKind → ℕ → ℕ → MbKind × ℕ
in_columns plan kind bits bit = (kind, part_cost plan 3 + part_cost plan 4 + bits * bit)

abbrev pub in_quarters : MbPlan → MbKind → ℕ → ℕ → MbKind × ℕ
in_quarters plan kind bits bit = (kind, part_cost plan 5 + part_cost plan 6 + part_cost plan 7 + part_cost plan 8 + bits * bit)

-- the three kinds of intra macroblocks; Intra 8x8 where the 8x8 transform is in use
abbrev pub intra_cost : MbPlan → ℕ → MbKind → ℕ → ℕ → MbKind × ℕ
intra_cost plan k kind bits bit = (kind, slice_index plan.intra k + bits * bit)

abbrev pub intra_16 : MbPlan → ℕ → MbKind × ℕ
intra_16 plan bit = intra_cost plan 0 kinds.Intra16 8 bit

abbrev pub intra_nxn : MbPlan → ℕ → Bool → List (MbKind × ℕ)
intra_nxn plan bit t8x8 =
    let last = intra_cost plan 2 kinds.Intra4 24 bit in
    cond t8x8 (intra_cost plan 1 kinds.Intra8 14 bit ∷ last ∷ []) (last ∷ [])

-- the best of the kinds that a slice may have, in their order, and its cost; skipped and direct macroblocks aside
abbrev pub choice_at : SliceKind → MbPlan → ℕ → Bool → MbKind × ℕ
choice_at slices.I plan bit t8x8 = first_least cost_of (intra_16 plan bit) (intra_nxn plan bit t8x8)
choice_at slices.P plan bit t8x8 =
    first_least cost_of (in_one plan kinds.P16 2 bit)
    (in_rows plan kinds.P16x8 5 bit ∷ in_columns plan kinds.P8x16 5 bit ∷ in_quarters plan kinds.P8x8 9 bit ∷
    intra_16 plan bit ∷ intra_nxn plan bit t8x8)
choice_at slices.B plan bit t8x8 =
    first_least cost_of (in_one plan kinds.B16 3 bit)
    (in_rows plan kinds.B16x8 8 bit ∷ in_columns plan kinds.B8x16 8 bit ∷ in_quarters plan kinds.B8x8 12 bit ∷
    intra_16 plan bit ∷ intra_nxn plan bit t8x8)

unfoldable pub choice : SliceKind → MbPlan → ℕ → Bool → MbKind × ℕ
choice kind plan qp t8x8 = choice_at kind plan (lambda qp) t8x8

-- no cost of a plan reaches 2 ^ 24
pub record SmallCosts (plan : MbPlan) : Type 0 where
  pub intra : (k : ℕ) → slice_index plan.intra k < 2 ^ 24
  pub parts : (k : ℕ) → part_cost plan k < 2 ^ 24
