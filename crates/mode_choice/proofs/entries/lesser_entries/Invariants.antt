use Rattle.std.proofs.Common.{◌≡◌, ◌≤◌, ◌<◌, ℕ, length}
use Rattle.enc_tables.specs.Choice.{lesser}
use Rattle.mode_choice.specs.Entries.{entry_at, entry_cost}
use Rattle.mode_choice.proofs.entries.lesser_entries.Given as goal

abbrev pub invariant-loop-k : goal.invariant-loop-k
invariant-loop-k l = record {
  behind : (j : ℕ) → j < l.k → entry_at l.entries j ≡ lesser entry_cost (entry_at l.bests j) (entry_at l.next j);
  ahead : (j : ℕ) → l.k ≤ j → entry_at l.entries j ≡ entry_at l.bests j;
  long : length l.entries ≡ 9;
}
