use Rattle.std.specs.List.{All}
use Rattle.tool_time.specs.Bins.{IsKnown}
use Rattle.tool_time.proofs.bins.read_bins.Given as goal

abbrev pub invariant-loop-place : goal.invariant-loop-place
invariant-loop-place l = All IsKnown l.bins.items
