-- Partitions of a plan by the best entries of both lists.
use Rattle.std.specs.Prelude.{ℕ, [], ◌∷◌, List, slice_index_or}
use Rattle.enc_tables.specs.declared.records.PartPlan.{PartPlan}
use Rattle.enc_tables.specs.Choice.{first_least}
use Rattle.enc_tables.specs.Plans.{blank_part}
use Rattle.spec_search.specs.declared.blocks.Block.{Block}
use Rattle.spec_inter_plans.specs.InterPlans.{Search, Listed, part_plan_cost, from_first, from_second, from_both}

abbrev pub part_at : List PartPlan → ℕ → PartPlan
part_at parts k = slice_index_or parts k blank_part

-- the first of least cost of both lists' bests, and both together
abbrev pub best_of_both : Search → Block → Listed → Listed → PartPlan
best_of_both s block a b = first_least part_plan_cost (from_first a) (from_second b ∷ from_both s block a b ∷ [])
