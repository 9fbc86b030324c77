use Rattle.spec_partitions.specs.Parts.{parts_string}
use Rattle.spec_partitions.specs.Inter.{mvd_part_string}
use Rattle.bin_writer.specs.Coding.{seen, Codes}
use Rattle.mb_syntax.specs.Around.{near_of}
use Rattle.mb_syntax.proofs.parts.write_differences.Given as goal

abbrev pub invariant-loop-part : goal.invariant-loop-part
invariant-loop-part l = Codes (seen l.fn.coder l.fn.contexts) (parts_string (mvd_part_string (near_of l.around l.mb) l.mb l.list) l.part) (seen l.coder l.contexts)
