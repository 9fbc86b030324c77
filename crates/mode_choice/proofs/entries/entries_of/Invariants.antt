use Rattle.std.proofs.Common.{◌≡◌, ◌<◌, ◌+◌, ◌*◌, ℕ, length}
use Rattle.nine_search.specs.NineRefined.{vector_at, cost_at}
use Rattle.mode_choice.specs.Entries.{entry_at}
use Rattle.mode_choice.proofs.entries.entries_of.Given as goal

abbrev pub invariant-loop-k : goal.invariant-loop-k
invariant-loop-k l = record {
  numbers : (j : ℕ) → j < l.k → (entry_at l.entries j).number ≡ l.number;
  vectors : (j : ℕ) → j < l.k → (entry_at l.entries j).vector ≡ vector_at l.refined j;
  costs : (j : ℕ) → j < l.k → (entry_at l.entries j).cost ≡ cost_at l.refined j + 4 * l.number;
  long : length l.entries ≡ 9;
}
