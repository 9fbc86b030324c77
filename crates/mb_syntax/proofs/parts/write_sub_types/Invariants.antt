use Rattle.spec_partitions.specs.Parts.{parts_string}
use Rattle.spec_partitions.specs.Inter.{sub_part_string}
use Rattle.bin_writer.specs.Coding.{seen, Codes}
use Rattle.mb_syntax.proofs.parts.write_sub_types.Given as goal

abbrev pub invariant-loop-block : goal.invariant-loop-block
invariant-loop-block l = Codes (seen l.fn.coder l.fn.contexts) (parts_string (sub_part_string l.around.kind l.mb) l.block) (seen l.coder l.contexts)
