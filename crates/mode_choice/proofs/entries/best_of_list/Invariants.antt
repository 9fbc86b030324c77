use Rattle.std.proofs.Common.{◌≡◌, ◌≤◌, ◌<◌, ◌+◌, ◌*◌, ℕ, take}
use Rattle.std.specs.List.{sum_by}
use Rattle.nine_search.specs.Partitions.{partition_block}
use Rattle.spec_inter_plans.specs.InterPlans.{Search, nine_compared}
use Rattle.mode_choice.specs.Given.{IsSourceOf, pictures_at}
use Rattle.mode_choice.specs.Entries.{as_listed, entry_at, IsEntry}
use Rattle.mode_choice.proofs.Listing.{best_to}
use Rattle.mode_choice.proofs.entries.best_of_list.Given as goal

abbrev pub invariant-loop-number : goal.invariant-loop-number
invariant-loop-number g l = record {
  best : (s : Search) → IsSourceOf s l.source → s.range ≡ l.range → (k : ℕ) → k < 9 → as_listed (entry_at l.entries k) ≡ best_to s (partition_block l.x l.y k) (pictures_at l.held l.places) l.number;
  compared : (s : Search) → IsSourceOf s l.source → s.range ≡ l.range → l.compared ≡ sum_by (nine_compared s l.x l.y) (take l.number (pictures_at l.held l.places));
  counted : l.steps ≡ l.fn.steps + l.compared;
  most : l.compared ≤ l.number * 4294967295;
  entries : (k : ℕ) → k < 9 → IsEntry l.number (entry_at l.entries k);
}
