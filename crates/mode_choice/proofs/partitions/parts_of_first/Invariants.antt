use Rattle.std.proofs.Common.{◌≡◌, ◌<◌, ℕ, length}
use Rattle.spec_inter_plans.specs.InterPlans.{from_first}
use Rattle.mode_choice.specs.Entries.{as_listed, entry_at}
use Rattle.mode_choice.specs.Parts.{part_at}
use Rattle.mode_choice.proofs.partitions.parts_of_first.Given as goal

abbrev pub invariant-loop-k : goal.invariant-loop-k
invariant-loop-k l = record {
  value : (j : ℕ) → j < l.k → part_at l.parts j ≡ from_first (as_listed (entry_at l.entries j));
  long : length l.parts ≡ 9;
}
