use Rattle.std.proofs.Common.{ℕ, subst}
use Rattle.picture_plans.specs.Planned.{SlicesPlanned}
use Rattle.plan_workers.specs.Tasks.{search_in}
use Rattle.plan_workers.proofs.picture.plan_alone.Goals as goal

pub returns-clause-planned : goal.returns-clause-planned
returns-clause-planned g c =
    let t = c.args.task.now in
    subst (λ (n : ℕ). SlicesPlanned t.kind (search_in t) t.slices n t.t8x8 t.slices c.plan_picture.new.plans) c.requires.count c.plan_picture.ensures.planned
