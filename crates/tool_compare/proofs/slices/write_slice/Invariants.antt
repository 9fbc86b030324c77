use Rattle.bin_writer.specs.Coding.{seen, IsReady}
use Rattle.tool_compare.proofs.slices.write_slice.Given as goal

abbrev pub invariant-loop-k : goal.invariant-loop-k
invariant-loop-k l = IsReady (seen l.coder l.contexts)
