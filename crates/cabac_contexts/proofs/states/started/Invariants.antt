use Rattle.std.proofs.Common.{◌≡◌, ◌<◌, ◌≤◌, ℕ, length, slice_index_or}
use Rattle.spec_contexts.specs.States.{start_state, no_state}
use Rattle.cabac_contexts.proofs.states.started.Given as goal

abbrev pub invariant-loop-index : goal.invariant-loop-index
invariant-loop-index l = record {
  long : length l.states ≡ 436;
  done : (k : ℕ) → k < l.index → slice_index_or l.states k no_state ≡ start_state l.pairs l.qp k;
  known : (k : ℕ) → (slice_index_or l.states k no_state).state ≤ 63;
}
