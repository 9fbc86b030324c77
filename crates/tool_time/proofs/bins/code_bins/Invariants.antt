use Rattle.std.proofs.Common.{◌≡◌, false}
use Rattle.spec_contexts.specs.States.{AllKnown}
use Rattle.tool_time.proofs.bins.code_bins.Given as goal

abbrev pub invariant-loop-line : goal.invariant-loop-line
invariant-loop-line l = record {
  live : l.coder.ended ≡ false;
  states : AllKnown l.states;
}
