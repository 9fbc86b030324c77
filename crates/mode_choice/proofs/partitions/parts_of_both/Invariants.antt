use Rattle.std.proofs.Common.{◌≡◌, ◌≤◌, ◌<◌, ℕ, length}
use Rattle.nine_search.specs.Partitions.{partition_block}
use Rattle.spec_inter_plans.specs.InterPlans.{Search}
use Rattle.mode_choice.specs.Given.{IsSourceOf, pictures_at}
use Rattle.mode_choice.specs.Entries.{as_listed, entry_at}
use Rattle.mode_choice.specs.Parts.{part_at, best_of_both}
use Rattle.mode_choice.proofs.partitions.parts_of_both.Given as goal

abbrev pub invariant-loop-k : goal.invariant-loop-k
invariant-loop-k l = record {
  value : (s : Search) → IsSourceOf s l.source → s.sources.list0 ≡ pictures_at l.lists.held.now l.lists.list0.items → s.sources.list1 ≡ pictures_at l.lists.held.now l.lists.list1.items
      → (j : ℕ) → j < l.k → part_at l.parts j ≡ best_of_both s (partition_block l.x l.y j) (as_listed (entry_at l.first j)) (as_listed (entry_at l.second j));
  small : (j : ℕ) → j < l.k → (part_at l.parts j).cost ≤ 65310;
  long : length l.parts ≡ 9;
}
