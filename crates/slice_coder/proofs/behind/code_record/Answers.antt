use Rattle.std.proofs.Common.{◌+◌, Bool, length, refl, sym, ap, subst, ◌∙◌}
use Rattle.spec_lists.specs.Colocated.{colocated_at}
use Rattle.spec_partitions.specs.Near.{view_in}
use Rattle.spec_reconstruction.specs.declared.Site.{Site}
use Rattle.ref_lists.specs.Named.{named}
use Rattle.residual_coder.specs.Stripes.{planes_in}
use Rattle.slice_coder.specs.Given.{task_in, CanBe}
use Rattle.slice_coder.specs.Strings.{facts_at}
use Rattle.slice_coder.proofs.Found.{row_there, at_address, costs, modes, parts, near_qp, own_site, next_coarsest, next_plain}
use Rattle.slice_coder.proofs.Planned.{are_full}
use Rattle.slice_coder.proofs.Standing.{can_stand, entries, address_there}
use Rattle.slice_coder.proofs.behind.code_record.Goals as goal

pub code_coarsest-requires-clause-there : goal.code_coarsest-requires-clause-there
code_coarsest-requires-clause-there c = can_stand c.args.place.now c.args.head.now c.args.pictures.now c.args.before.now c.args.stripe.now c.site_of-site.result c.requires.placed c.requires.alike c.requires.holds c.requires.more c.site_of-site.ensures c.sites_stand.ensures (colocated_at (named c.args.pictures.now.lists.now)) c.beside_of-beside.result c.requires.moves (c.beside_of-beside.ensures (facts_at c.args.place.now c.args.head.now) (colocated_at (named c.args.pictures.now.lists.now)) refl refl)

pub code_coarsest-requires-clause-across : goal.code_coarsest-requires-clause-across
code_coarsest-requires-clause-across c = c.requires.placed.across

pub code_coarsest-requires-clause-entries : goal.code_coarsest-requires-clause-entries
code_coarsest-requires-clause-entries c = entries c.args.place.now c.args.head.now c.args.pictures.now c.requires.placed

pub code_coarsest-requires-clause-address : goal.code_coarsest-requires-clause-address
code_coarsest-requires-clause-address c = address_there c.args.place.now c.args.head.now c.args.pictures.now (length c.args.before.now) c.requires.placed c.requires.more

pub code_coarsest-requires-clause-greatest : goal.code_coarsest-requires-clause-greatest
code_coarsest-requires-clause-greatest c = ap (λ (t : Site). t.qp) c.site_of-site.ensures ∙ c.requires.can_be.greatest c.if-coarsest.true

pub plan_of-plan-requires-clause-across : goal.plan_of-plan-requires-clause-across
plan_of-plan-requires-clause-across c = c.requires.placed.wide

pub plan_of-plan-requires-clause-rows : goal.plan_of-plan-requires-clause-rows
plan_of-plan-requires-clause-rows c = row_there c.args.place.now c.args.head.now c.args.pictures.now c.args.plans.now (length c.args.before.now) c.requires.placed (subst (λ (b : Bool). CanBe b c.args.place.now c.args.head.now c.args.pictures.now c.args.plans.now) c.if-coarsest.false c.requires.can_be) c.requires.more

pub plan_of-plan-requires-clause-full : goal.plan_of-plan-requires-clause-full
plan_of-plan-requires-clause-full c = are_full _ _ _ _ c.args.plans.now (c.requires.can_be.planned c.if-coarsest.false)

pub code_plain-requires-clause-there : goal.code_plain-requires-clause-there
code_plain-requires-clause-there c = can_stand c.args.place.now c.args.head.now c.args.pictures.now c.args.before.now c.args.stripe.now c.site_of-site.result c.requires.placed c.requires.alike c.requires.holds c.requires.more c.site_of-site.ensures c.sites_stand.ensures (colocated_at (named c.args.pictures.now.lists.now)) c.beside_of-beside.result c.requires.moves (c.beside_of-beside.ensures (facts_at c.args.place.now c.args.head.now) (colocated_at (named c.args.pictures.now.lists.now)) refl refl)

pub code_plain-requires-clause-across : goal.code_plain-requires-clause-across
code_plain-requires-clause-across c = c.requires.placed.across

pub code_plain-requires-clause-entries : goal.code_plain-requires-clause-entries
code_plain-requires-clause-entries c = entries c.args.place.now c.args.head.now c.args.pictures.now c.requires.placed

pub code_plain-requires-clause-address : goal.code_plain-requires-clause-address
code_plain-requires-clause-address c = address_there c.args.place.now c.args.head.now c.args.pictures.now (length c.args.before.now) c.requires.placed c.requires.more

pub code_plain-requires-clause-costs : goal.code_plain-requires-clause-costs
code_plain-requires-clause-costs c = costs c.args.place.now c.args.head.now c.args.pictures.now c.args.plans.now (length c.args.before.now) c.plan_of-plan.result.now c.requires.placed (subst (λ (b : Bool). CanBe b c.args.place.now c.args.head.now c.args.pictures.now c.args.plans.now) c.if-coarsest.false c.requires.can_be) c.requires.samples c.requires.more c.plan_of-plan.ensures

pub code_plain-requires-clause-modes : goal.code_plain-requires-clause-modes
code_plain-requires-clause-modes c = modes c.args.place.now c.args.head.now c.args.pictures.now c.args.plans.now (length c.args.before.now) c.plan_of-plan.result.now c.requires.placed (subst (λ (b : Bool). CanBe b c.args.place.now c.args.head.now c.args.pictures.now c.args.plans.now) c.if-coarsest.false c.requires.can_be) c.requires.samples c.requires.more c.plan_of-plan.ensures

pub code_plain-requires-clause-parts : goal.code_plain-requires-clause-parts
code_plain-requires-clause-parts c = parts c.args.place.now c.args.head.now c.args.pictures.now c.args.plans.now (length c.args.before.now) c.plan_of-plan.result.now c.requires.placed (subst (λ (b : Bool). CanBe b c.args.place.now c.args.head.now c.args.pictures.now c.args.plans.now) c.if-coarsest.false c.requires.can_be) c.requires.samples c.requires.more c.plan_of-plan.ensures

pub returns-then-coarsest-clause-record : goal.returns-then-coarsest-clause-record
returns-then-coarsest-clause-record c =
    c.code_coarsest.ensures.record (view_in (facts_at c.args.place.now c.args.head.now) (colocated_at (named c.args.pictures.now.lists.now)) c.args.before.now) (c.beside_of-beside.ensures (facts_at c.args.place.now c.args.head.now) (colocated_at (named c.args.pictures.now.lists.now)) refl refl) refl
    ∙ next_coarsest c.args.coarsest (task_in c.args.place.now c.args.head.now c.args.pictures.now c.args.plans.now) c.args.before.now (planes_in c.args.stripe.now) c.if-coarsest.true

pub returns-then-coarsest-clause-planes : goal.returns-then-coarsest-clause-planes
returns-then-coarsest-clause-planes c = c.code_coarsest.ensures.planes c.args.head.now.first_mb (c.args.head.now.first_mb + length c.args.before.now) (own_site c.args.place.now.across c.args.head.now.first_mb (c.args.head.now.first_mb + length c.args.before.now) c.args.head.now.qp c.site_of-site.result c.site_of-site.ensures)

pub returns-clause-record : goal.returns-clause-record
returns-clause-record c =
    next_plain c.args.coarsest (task_in c.args.place.now c.args.head.now c.args.pictures.now c.args.plans.now) c.args.before.now (planes_in c.args.stripe.now) c.site_of-site.result c.plan_of-plan.result.now c.code_plain.result c.if-coarsest.false c.site_of-site.ensures (at_address c.args.place.now c.args.head.now c.args.pictures.now c.args.plans.now (length c.args.before.now) c.plan_of-plan.result.now c.requires.placed (subst (λ (b : Bool). CanBe b c.args.place.now c.args.head.now c.args.pictures.now c.args.plans.now) c.if-coarsest.false c.requires.can_be) c.requires.samples c.requires.more c.plan_of-plan.ensures)
    (c.code_plain.ensures.record c.args.head.now c.args.plans.now (view_in (facts_at c.args.place.now c.args.head.now) (colocated_at (named c.args.pictures.now.lists.now)) c.args.before.now) (c.beside_of-beside.ensures (facts_at c.args.place.now c.args.head.now) (colocated_at (named c.args.pictures.now.lists.now)) refl refl) refl refl (near_qp (facts_at c.args.place.now c.args.head.now) c.args.before.now ∙ c.requires.qp ∙ sym (ap (λ (t : Site). t.qp) c.site_of-site.ensures)))

pub returns-clause-planes : goal.returns-clause-planes
returns-clause-planes c = c.code_plain.ensures.planes c.args.head.now.first_mb (c.args.head.now.first_mb + length c.args.before.now) (own_site c.args.place.now.across c.args.head.now.first_mb (c.args.head.now.first_mb + length c.args.before.now) c.args.head.now.qp c.site_of-site.result c.site_of-site.ensures)
