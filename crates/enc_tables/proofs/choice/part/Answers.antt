use Rattle.std.proofs.Common.{[]}
use Rattle.std.proofs.Math.ListN.{get_or-map}
use Rattle.enc_tables.specs.declared.records.PartPlan.{PartPlan}
use Rattle.enc_tables.proofs.choice.part.Goals as goal

pub returns-clause-small : goal.returns-clause-small
returns-clause-small c =
    rw (get_or-map (λ (p : PartPlan). p.cost) c.args.plan.now.parts c.args.k (record { motion = record { refs = []; vectors = [] }; cost = 0 })) at
    (c.requires.costs.parts c.args.k)
