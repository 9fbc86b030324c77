use Rattle.std.proofs.Common.{◌≡◌, arith, ◌∙◌, ap}
use Rattle.bin_writer.proofs.Coding.{codes_none, codes_then, codes_as}
use Rattle.mb_syntax.specs.Around.{near_of}
use Rattle.spec_partitions.specs.Partitions.{shape_of, part_count}
use Rattle.spec_partitions.specs.Inter.{mvd_part_string}
use Rattle.mb_syntax.proofs.PartStrings.{none_yet, one_more, differences_is}
use Rattle.mb_syntax.proofs.parts.write_differences.Goals as goal

pub loop-part-init : goal.loop-part-init
loop-part-init c = codes_as (none_yet (mvd_part_string (near_of c.args.around.now c.args.mb.now) c.args.mb.now c.args.list)) (codes_none c.requires.ready)

pub loop-part-preserved : goal.loop-part-preserved
loop-part-preserved c = codes_as (one_more (mvd_part_string (near_of c.args.around.now c.args.mb.now) c.args.mb.now c.args.list) c.loop-part.part) (codes_then c.loop-part.invariant c.write_difference.ensures)

pub returns : goal.returns
returns c =
    let count : c.part_count-count.result ≡ part_count (shape_of c.args.mb.now.kind) = c.part_count-count.ensures.value ∙ ap part_count c.shape_of.ensures.value in
    let e : c.loop-part.part ≡ part_count (shape_of c.args.mb.now.kind) = omega (arith, count) in
    codes_as (differences_is (near_of c.args.around.now c.args.mb.now) c.args.mb.now c.args.list) (rw e at c.loop-part.invariant)
