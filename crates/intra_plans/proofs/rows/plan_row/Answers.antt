use Rattle.std.proofs.Common.{◌≡◌, ◌<◌, ℕ, Bool, List, vec_len, length, get_or, ap, sym, ◌∙◌, arith}
use Rattle.std.proofs.lemmas.List.Elements.{All-from_get_or}
use Rattle.std.proofs.lemmas.List.FromFn.{fill_by_all}
use Rattle.enc_tables.specs.declared.records.MbPlan.{MbPlan}
use Rattle.enc_tables.specs.Choice.{SmallCosts}
use Rattle.enc_tables.specs.Plans.{blank_plan}
use Rattle.spec_film.specs.Films.{Planes}
use Rattle.picture_planes.specs.Pictures.{planes_of}
use Rattle.spec_choice.specs.IntraPlans.{intra_plan, intra_plans}
use Rattle.intra_plans.proofs.rows.plan_row.Goals as goal

all_planned : (width first : ℕ) (t8x8 : Bool) (source : Planes) (row : ℕ) (plans : List MbPlan) → length plans ≡ width
    → ((k : ℕ) → k < width → get_or plans k blank_plan ≡ intra_plan width first t8x8 source row k) → plans ≡ intra_plans width first t8x8 source row
unfolding intra_plans
all_planned width first t8x8 source row plans long done = fill_by_all (intra_plan width first t8x8 source row) plans width blank_plan long done

pub returns-clause-plans : goal.returns-clause-plans
returns-clause-plans c =
    let end : c.loop-column.column ≡ c.len-width.result = omega (arith, c.loop-column-test.false, c.loop-column.auto.column-end) in
    let same : c.len-width.result ≡ vec_len c.args.out.now.mbs = c.len-width.ensures in
    all_planned c.len-width.result c.args.first_row c.args.t8x8 (planes_of c.args.source.now) c.args.row c.loop-column.out.mbs.items
    (sym c.loop-column.out.mbs.ok.0 ∙ c.loop-column.invariant.size) (rw end at c.loop-column.invariant.plans)
    ∙ ap (λ (n : ℕ). intra_plans n c.args.first_row c.args.t8x8 (planes_of c.args.source.now) c.args.row) same

pub returns-clause-small : goal.returns-clause-small
returns-clause-small c =
    let end : c.loop-column.column ≡ c.len-width.result = omega (arith, c.loop-column-test.false, c.loop-column.auto.column-end) in
    All-from_get_or SmallCosts c.loop-column.out.mbs.items blank_plan
    (λ k h. c.loop-column.invariant.small k (omega (arith, end, c.loop-column.out.mbs.ok.0, c.loop-column.invariant.size)))
