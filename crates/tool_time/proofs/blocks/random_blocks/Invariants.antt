use Rattle.std.specs.List.{All}
use Rattle.tool_time.specs.Through.{IsDifferences}
use Rattle.tool_time.proofs.blocks.random_blocks.Given as goal

abbrev pub invariant-loop : goal.invariant-loop
invariant-loop g l = All (IsDifferences g.row.N) l.blocks.items
