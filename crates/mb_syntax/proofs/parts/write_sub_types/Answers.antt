use Rattle.std.proofs.Common.{◌≡◌, arith}
use Rattle.bin_writer.proofs.Coding.{codes_none, codes_then, codes_as}
use Rattle.spec_partitions.specs.Inter.{sub_part_string}
use Rattle.mb_syntax.proofs.PartStrings.{none_yet, one_more}
use Rattle.mb_syntax.proofs.Strings.{subs_are}
use Rattle.mb_syntax.proofs.parts.write_sub_types.Goals as goal

pub loop-block-init : goal.loop-block-init
loop-block-init c = codes_as (none_yet (sub_part_string c.args.around.now.kind c.args.mb.now)) (codes_none c.requires.ready)

pub loop-block-preserved : goal.loop-block-preserved
loop-block-preserved c = codes_as (one_more (sub_part_string c.args.around.now.kind c.args.mb.now) c.loop-block.block) (codes_then c.loop-block.invariant c.write_sub_type.ensures)

pub returns : goal.returns
returns c =
    let e : c.loop-block.block ≡ 4 = omega arith in
    codes_as (subs_are c.args.around.now.kind c.args.mb.now) (rw e at c.loop-block.invariant)
