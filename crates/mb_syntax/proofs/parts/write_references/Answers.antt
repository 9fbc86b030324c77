use Rattle.std.proofs.Common.{◌≡◌, arith, ◌∙◌, ap}
use Rattle.bin_writer.proofs.Coding.{codes_none, codes_then, codes_as}
use Rattle.mb_syntax.specs.Around.{near_of}
use Rattle.spec_partitions.specs.Partitions.{shape_of, part_count}
use Rattle.spec_partitions.specs.Inter.{ref_part_string}
use Rattle.mb_syntax.proofs.PartStrings.{none_yet, one_more, references_is}
use Rattle.mb_syntax.proofs.parts.write_references.Goals as goal

pub loop-part-init : goal.loop-part-init
loop-part-init c = codes_as (none_yet (ref_part_string (near_of c.args.around.now c.args.mb.now) c.args.mb.now c.args.list c.args.entries)) (codes_none c.requires.ready)

pub loop-part-preserved : goal.loop-part-preserved
loop-part-preserved c = codes_as (one_more (ref_part_string (near_of c.args.around.now c.args.mb.now) c.args.mb.now c.args.list c.args.entries) c.loop-part.part) (codes_then c.loop-part.invariant c.write_reference.ensures)

pub returns : goal.returns
returns c =
    let count : c.part_count-count.result ≡ part_count (shape_of c.args.mb.now.kind) = c.part_count-count.ensures.value ∙ ap part_count c.shape_of.ensures.value in
    let e : c.loop-part.part ≡ part_count (shape_of c.args.mb.now.kind) = omega (arith, count) in
    codes_as (references_is (near_of c.args.around.now c.args.mb.now) c.args.mb.now c.args.list c.args.entries) (rw e at c.loop-part.invariant)
