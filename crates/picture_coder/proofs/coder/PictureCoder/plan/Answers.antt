use Rattle.std.proofs.Common.{◌≡◌, List, length, sym, ap, subst, ◌∙◌}
use Rattle.std.proofs.lemmas.List.{with_items_is}
use Rattle.enc_tables.specs.declared.plans.RowPlan.{RowPlan}
use Rattle.spec_tasks.specs.Choosing.{search_by}
use Rattle.spec_film_coder.specs.Pictures.{format}
use Rattle.ref_lists.specs.Named.{named}
use Rattle.picture_plans.specs.Planned.{SlicesPlanned}
use Rattle.picture_coder.specs.Jobs.{source_in}
use Rattle.picture_coder.specs.Coders.{shape_for}
use Rattle.picture_coder.proofs.PlanJobs.{table_for, entries_for, plans_for, compared_then}
use Rattle.picture_coder.proofs.coder.PictureCoder.plan.Goals as goal

pub fill_sums-requires-clause-shape : goal.fill_sums-requires-clause-shape
fill_sums-requires-clause-shape g c = table_for c.args.self.now c.args.job.now c.requires.job

pub fill_sums-requires-clause-filled : goal.fill_sums-requires-clause-filled
fill_sums-requires-clause-filled g c = c.requires.job.job.filled.0

pub plan_picture-requires-clause-entries : goal.plan_picture-requires-clause-entries
plan_picture-requires-clause-entries g c κs within = entries_for c.args.self.now c.args.job.now c.requires.job

pub returns-clause-planned : goal.returns-clause-planned
returns-clause-planned g c =
    let there : length c.as_mut_slice.result.now ≡ c.args.self.now.down = ap (λ (plans : List RowPlan). length plans) c.as_mut_slice.ensures.value ∙ sym c.args.self.now.plans.ok.0 ∙ c.args.self.now.plan_count in
    let long = c.plan_picture.ensures.len ∙ ap (λ (plans : List RowPlan). length plans) c.as_mut_slice.ensures.value ∙ sym c.args.self.now.plans.ok.0 in
    subst (λ (plans : List RowPlan). SlicesPlanned c.args.job.now.step.kind (search_by (format (shape_for c.args.self.now c.args.job.now)) (named c.args.job.now.lists.now) (source_in c.args.job.now) c.args.job.now.range) c.args.self.now.slices c.args.self.now.down c.args.job.now.t8x8 c.args.self.now.slices plans)
    (sym (with_items_is c.args.self.now.plans c.plan_picture.new.plans long))
    (plans_for c.args.self.now c.args.job.now (length c.as_mut_slice.result.now) c.plan_picture.new.plans c.requires.job there c.plan_picture.ensures.planned)

pub returns-clause-compared : goal.returns-clause-compared
returns-clause-compared g c =
    let there : length c.as_mut_slice.result.now ≡ c.args.self.now.down = ap (λ (plans : List RowPlan). length plans) c.as_mut_slice.ensures.value ∙ sym c.args.self.now.plans.ok.0 ∙ c.args.self.now.plan_count in
    compared_then c.args.self.now c.args.job.now (length c.as_mut_slice.result.now) c.plan_picture.result c.requires.job c.requires.moved there c.plan_picture.ensures.compared
