-- The plan of a macroblock, found in the rows of plans.
use Rattle.std.proofs.Common.{◌≡◌, ℕ, zero, suc, ◌+◌, ◌-◌, ◌*◌, ◌/◌, ◌%◌, ◌<◌, Bool, List, [], ◌∷◌, length, get_or, vec_len, refl, sym, ap, ap₂, subst, ◌∙◌, arith}
use Rattle.std.specs.List.{All, range_with_len}
use Rattle.std.proofs.Math.Nat.{mod-lt, add-mul-mod_self_right, add-mul-div_right, mul-div_cancel}
use Rattle.std.proofs.lemmas.List.{length-map}
use Rattle.std.proofs.lemmas.List.Elements.{All-nil, All-get_or, All-from_get_or}
use Rattle.std.proofs.lemmas.List.FromFn.{get_or-map-range_with_len, length-range_with_len}
use Rattle.enc_tables.specs.declared.records.MbPlan.{MbPlan}
use Rattle.enc_tables.specs.declared.records.SliceKind.{SliceKind}
use Rattle.enc_tables.specs.declared.plans.RowPlan.{RowPlan}
use Rattle.enc_tables.specs.Choice.{SmallCosts}
use Rattle.enc_tables.specs.Plans.{blank_plan}
use Rattle.spec_film.specs.Films.{Planes}
use Rattle.spec_headers.specs.declared.heads.SliceHead.{SliceHead}
use Rattle.spec_lists.specs.Lists.{Lists as ShownLists}
use Rattle.spec_slice_payload.specs.Layer.{Format}
use Rattle.spec_inter_plans.specs.InterPlans.{Search, plan_of, row_plans}
use Rattle.spec_tasks.specs.Choosing.{search_by, plan_by}
use Rattle.slice_coder.specs.Plans.{rows_of, plan_at, ArePlanned}

-- the row and the column of macroblock n behind so many whole rows
pub row_of : (n row across : ℕ) → 0 < across → (row * across + n) / across ≡ row + n / across
row_of n row across some =
    let turned : row * across + n ≡ n + row * across = omega arith in
    ap (λ (k : ℕ). k / across) turned ∙ add-mul-div_right n row some ∙ (let e : n / across + row ≡ row + n / across = omega arith in e)

pub column_of : (n row across : ℕ) → (row * across + n) % across ≡ n % across
column_of n row across =
    let turned : row * across + n ≡ n + row * across = omega arith in
    ap (λ (k : ℕ). k % across) turned ∙ add-mul-mod_self_right n row across

-- the row of the first one
pub whole_rows : (row across : ℕ) → 0 < across → row * across / across ≡ row
whole_rows row across some = mul-div_cancel row some

-- ---- rows

rows_at : (plans : List RowPlan) (j : ℕ) (d : RowPlan) → j < length plans → get_or (rows_of plans) j [] ≡ (get_or plans j d).mbs.items
rows_at [] j d h = absurd (omega arith)
rows_at (x ∷ xs) zero d h = refl
rows_at (x ∷ xs) (suc j) d h = rows_at xs j d (omega arith)

in_row : (kind : SliceKind) (s : Search) (first_row : ℕ) (t8x8 : Bool) (row column : ℕ) (d : MbPlan) → column < s.across → get_or (row_plans kind s first_row t8x8 row) column d ≡ plan_of kind s first_row t8x8 row column
unfolding row_plans
in_row kind s first_row t8x8 row column d inside = get_or-map-range_with_len (plan_of kind s first_row t8x8 row) 0 s.across column column d inside (omega arith)

row_long : (kind : SliceKind) (s : Search) (first_row : ℕ) (t8x8 : Bool) (row : ℕ) → length (row_plans kind s first_row t8x8 row) ≡ s.across
unfolding row_plans
row_long kind s first_row t8x8 row = length-map (range_with_len 0 s.across) (plan_of kind s first_row t8x8 row) ∙ length-range_with_len 0 s.across

module _ (f : Format) (h : SliceHead) (lists : ShownLists) (source : Planes) (plans : List RowPlan) (a : ArePlanned f h lists source plans) where
  full_row : (k : ℕ) (d : RowPlan) → k < length plans → length (get_or plans k d).mbs.items ≡ f.across
  full_row k d inside = ap (λ (xs : List MbPlan). length xs) (a.rows k d inside) ∙ row_long h.kind (search_by f lists source a.range) (h.first_mb / f.across) f.t8x8 (h.first_mb / f.across + k)

  full_from : (d : RowPlan) → All (λ p. vec_len p.mbs ≡ f.across) plans
  full_from d = All-from_get_or (λ p. vec_len p.mbs ≡ f.across) plans d (λ k l. (let p : RowPlan = get_or plans k d in omega (arith, p.mbs.ok.0, full_row k d l)))

  module _ (n row : ℕ) (some : 0 < f.across) (begins : h.first_mb ≡ row * f.across) (inside : n / f.across < length plans) where
    -- where its plan is
    place : ℕ
    place = (h.first_mb + n) / f.across - h.first_mb / f.across

    rows_down : (h.first_mb + n) / f.across ≡ row + n / f.across
    rows_down = ap (λ (k : ℕ). (k + n) / f.across) begins ∙ row_of n row f.across some

    row_is : h.first_mb / f.across ≡ row
    row_is = ap (λ (k : ℕ). k / f.across) begins ∙ whole_rows row f.across some

    place_is : place ≡ n / f.across
    unfolding place
    place_is = omega (arith, rows_down, row_is)

    columns : (h.first_mb + n) % f.across ≡ n % f.across
    columns = ap (λ (k : ℕ). (k + n) % f.across) begins ∙ column_of n row f.across

    found : (d : RowPlan) → plan_at f.across (h.first_mb / f.across) plans (h.first_mb + n) ≡ get_or (get_or plans (n / f.across) d).mbs.items (n % f.across) blank_plan
    unfolding place
    found d =
        ap₂ (λ (j c : ℕ). get_or (get_or (rows_of plans) j []) c blank_plan) place_is columns
        ∙ ap (λ (ps : List MbPlan). get_or ps (n % f.across) blank_plan) (rows_at plans (n / f.across) d inside)

    searched : (d : RowPlan) → plan_at f.across (h.first_mb / f.across) plans (h.first_mb + n) ≡ plan_by f h lists source a.range (h.first_mb + n)
    searched d =
        let s : Search = search_by f lists source a.range in
        let k : ℕ = n / f.across in
        found d
        ∙ ap (λ (ps : List MbPlan). get_or ps (n % f.across) blank_plan) (a.rows k d inside)
        ∙ in_row h.kind s (h.first_mb / f.across) f.t8x8 (h.first_mb / f.across + k) (n % f.across) blank_plan (mod-lt n some)
        ∙ ap₂ (λ (r c : ℕ). plan_of h.kind s (h.first_mb / f.across) f.t8x8 r c) (let e : h.first_mb / f.across + k ≡ (h.first_mb + n) / f.across = omega (arith, rows_down, row_is) in e) (sym columns)

    cheap : (d : RowPlan) → SmallCosts (plan_at f.across (h.first_mb / f.across) plans (h.first_mb + n))
    cheap d =
        let p : RowPlan = get_or plans (n / f.across) d in
        subst (λ (m : MbPlan). SmallCosts m) (sym (found d)) (All-get_or SmallCosts p.mbs.items (n % f.across) blank_plan (omega (arith, full_row (n / f.across) d inside, mod-lt n some)) (a.small (n / f.across) d inside))

-- each row has a plan for each of its macroblocks
pub are_full : (f : Format) (h : SliceHead) (lists : ShownLists) (source : Planes) (plans : List RowPlan) → ArePlanned f h lists source plans → All (λ p. vec_len p.mbs ≡ f.across) plans
are_full f h lists source [] a = All-nil (λ p. vec_len p.mbs ≡ f.across)
are_full f h lists source (x ∷ xs) a = full_from f h lists source (x ∷ xs) a x

-- the plan of macroblock n is that of the search, its costs are small, and it stands in its row
pub plan_searched : (f : Format) (h : SliceHead) (lists : ShownLists) (source : Planes) (plans : List RowPlan) (a : ArePlanned f h lists source plans) (n row : ℕ) → 0 < f.across → h.first_mb ≡ row * f.across → n / f.across < length plans
    → plan_at f.across (h.first_mb / f.across) plans (h.first_mb + n) ≡ plan_by f h lists source a.range (h.first_mb + n)
plan_searched f h lists source [] a n row some begins inside = absurd (omega arith)
plan_searched f h lists source (x ∷ xs) a n row some begins inside = searched f h lists source (x ∷ xs) a n row some begins inside x

pub plan_cheap : (f : Format) (h : SliceHead) (lists : ShownLists) (source : Planes) (plans : List RowPlan) (a : ArePlanned f h lists source plans) (n row : ℕ) → 0 < f.across → h.first_mb ≡ row * f.across → n / f.across < length plans
    → SmallCosts (plan_at f.across (h.first_mb / f.across) plans (h.first_mb + n))
plan_cheap f h lists source [] a n row some begins inside = absurd (omega arith)
plan_cheap f h lists source (x ∷ xs) a n row some begins inside = cheap f h lists source (x ∷ xs) a n row some begins inside x

pub plan_found : (f : Format) (h : SliceHead) (lists : ShownLists) (source : Planes) (plans : List RowPlan) (a : ArePlanned f h lists source plans) (n row : ℕ) (plan : MbPlan) → 0 < f.across → h.first_mb ≡ row * f.across → n / f.across < length plans
    → ((d : RowPlan) (mb : MbPlan) → plan ≡ get_or (get_or plans (n / f.across) d).mbs.items (n % f.across) mb) → plan ≡ plan_at f.across (h.first_mb / f.across) plans (h.first_mb + n)
plan_found f h lists source [] a n row plan some begins inside is = absurd (omega arith)
plan_found f h lists source (x ∷ xs) a n row plan some begins inside is = is x blank_plan ∙ sym (found f h lists source (x ∷ xs) a n row some begins inside x)
