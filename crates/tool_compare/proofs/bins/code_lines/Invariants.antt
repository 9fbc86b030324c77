use Rattle.std.proofs.Common.{◌≡◌, false}
use Rattle.tool_compare.proofs.bins.code_lines.Given as goal

abbrev pub invariant-loop-place : goal.invariant-loop-place
invariant-loop-place l = l.coder.ended ≡ false
