use Rattle.spec_partitions.specs.Parts.{parts_string}
use Rattle.spec_partitions.specs.Inter.{ref_part_string}
use Rattle.bin_writer.specs.Coding.{seen, Codes}
use Rattle.mb_syntax.specs.Around.{near_of}
use Rattle.mb_syntax.proofs.parts.write_references.Given as goal

abbrev pub invariant-loop-part : goal.invariant-loop-part
invariant-loop-part l = Codes (seen l.fn.coder l.fn.contexts) (parts_string (ref_part_string (near_of l.around l.mb) l.mb l.list l.entries) l.part) (seen l.coder l.contexts)
