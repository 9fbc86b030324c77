use Rattle.std.proofs.Common.{ℕ, zero, suc, ◌≡◌, ◌+◌, ◌/◌, ◌<◌, true, List, [], ◌∷◌, ◌++◌, length, get_or, vec_len, replicate, sym, ap, ap₂, subst, ◌∙◌, arith}
use Rattle.std.specs.List.{All}
use Rattle.enc_tables.specs.declared.records.MbPlan.{MbPlan}
use Rattle.enc_tables.specs.declared.plans.RowPlan.{RowPlan}
use Rattle.enc_tables.specs.Choice.{SmallCosts}
use Rattle.enc_tables.specs.Plans.{blank_plan}
use Rattle.picture_planes.specs.declared.picture.Picture.{Picture}
use Rattle.picture_planes.specs.Pictures.{planes_of}
use Rattle.spec_film.specs.Films.{Planes}
use Rattle.spec_headers.specs.declared.heads.SliceHead.{SliceHead}
use Rattle.spec_lists.specs.Lists.{Lists as ShownLists}
use Rattle.spec_slice_payload.specs.Layer.{Format}
use Rattle.spec_inter_plans.specs.InterPlans.{row_plans}
use Rattle.spec_tasks.specs.Choosing.{search_by}
use Rattle.mode_choice.specs.Given.{search_of}
use Rattle.ref_lists.specs.declared.naming.Lists.{Lists}
use Rattle.ref_lists.specs.Named.{named}
use Rattle.slice_coder.specs.Plans.{ArePlanned, format_of}
use Rattle.slice_coder.proofs.tests.plans_of.Goals as goal

abbrev planned_at : Format → SliceHead → ShownLists → Planes → ℕ → List MbPlan
planned_at f h lists source row = row_plans h.kind (search_by f lists source 16) (h.first_mb / f.across) f.t8x8 row

-- the only row of a slice
row_planned : (f : Format) (h : SliceHead) (lists : ShownLists) (source : Planes) (p : RowPlan) → p.mbs.items ≡ planned_at f h lists source (h.first_mb / f.across)
    → (k : ℕ) (d : RowPlan) → k < 1 → (get_or (p ∷ []) k d).mbs.items ≡ planned_at f h lists source (h.first_mb / f.across + k)
row_planned f h lists source p e zero d inside = e ∙ ap (planned_at f h lists source) (let same : h.first_mb / f.across ≡ h.first_mb / f.across + 0 = omega arith in same)
row_planned f h lists source p e (suc k) d inside = absurd (omega (arith, inside))

row_small : (p : RowPlan) → All SmallCosts p.mbs.items → (k : ℕ) (d : RowPlan) → k < 1 → All SmallCosts (get_or (p ∷ []) k d).mbs.items
row_small p small zero d inside = small
row_small p small (suc k) d inside = absurd (omega (arith, inside))

one_planned : (f : Format) (h : SliceHead) (lists : ShownLists) (source : Planes) (p : RowPlan) → p.mbs.items ≡ planned_at f h lists source (h.first_mb / f.across) → All SmallCosts p.mbs.items → ArePlanned f h lists source (p ∷ [])
one_planned f h lists source p e small = record { range = 16; range_fits = omega arith; rows = row_planned f h lists source p e; small = row_small p small }

-- in a picture of one macroblock in a row
are_planned : (source : Picture) (h : SliceHead) (lists : Lists) (old p : RowPlan) (plans : List RowPlan) → source.y.width ≡ 16 → old.mbs.items ≡ replicate 1 blank_plan
    → p.mbs.items ≡ row_plans h.kind (search_of (vec_len old.mbs) lists (planes_of source) 16) h.first_mb true h.first_mb → All SmallCosts p.mbs.items → plans ≡ p ∷ []
    → ArePlanned (format_of source true) h (named lists) (planes_of source) plans
are_planned source h lists old p plans wide blank e small is =
    let across : source.y.width / 16 ≡ 1 = omega (arith, wide) in
    let one : vec_len old.mbs ≡ 1 = old.mbs.ok.0 ∙ ap (λ (xs : List MbPlan). length xs) blank in
    let whole : h.first_mb / 1 ≡ h.first_mb = omega arith in
    let row : h.first_mb ≡ h.first_mb / (source.y.width / 16) = sym (ap (λ (n : ℕ). h.first_mb / n) across ∙ whole) in
    let items = e ∙ ap₂ (λ (n row : ℕ). row_plans h.kind (search_of n lists (planes_of source) 16) row true row) (one ∙ sym across) row in
    subst (λ (rows : List RowPlan). ArePlanned (format_of source true) h (named lists) (planes_of source) rows) (sym is) (one_planned (format_of source true) h (named lists) (planes_of source) p items small)

pub returns-clause-planned : goal.returns-clause-planned
returns-clause-planned c =
    are_planned c.args.source.now c.args.head.now c.args.lists.now c.in_ok-plan.plan c.plan_row_alone.new.out _ c.requires.wide.0
    c.in_ok-plan.ensures.blank c.plan_row_alone.ensures.plans c.plan_row_alone.ensures.small
    (c.in_ok-push.ensures.items ∙ ap (λ (xs : List RowPlan). xs ++ c.plan_row_alone.new.out ∷ []) c.new-plans.ensures.items)
