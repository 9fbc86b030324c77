use Rattle.std.proofs.Common.{take}
use Rattle.bin_writer.specs.Coding.{seen, Codes}
use Rattle.bin_writer.proofs.code_bins.Given as goal

abbrev pub invariant-loop-bin : goal.invariant-loop-bin
invariant-loop-bin l = Codes (seen l.fn.coder l.fn.contexts) (take l.bin-index l.bins) (seen l.coder l.contexts)
