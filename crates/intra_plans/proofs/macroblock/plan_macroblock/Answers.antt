use Rattle.std.proofs.Common.{◌≡◌, ◌*◌, arith}
use Rattle.picture_planes.specs.Pictures.{planes_of}
use Rattle.intra_plans.proofs.Insides.{macroblock_inside, whole_reachable, chroma_reachable}
use Rattle.intra_plans.proofs.Planned.{plan_is}
use Rattle.intra_plans.proofs.macroblock.plan_macroblock.Goals as goal

pub choose16-whole-requires : goal.choose16-whole-requires
choose16-whole-requires c =
    whole_reachable c.args.source.now.y c.near_macroblock-mb.result (16 * c.args.column) (16 * c.args.row)
    (macroblock_inside c.args.source.now.y c.near_macroblock-mb.result c.args.width c.args.first_row c.args.row c.args.column
    c.requires.width c.requires.row c.requires.column c.requires.first c.near_macroblock-mb.ensures)

pub quarters-quarters-requires : goal.quarters-quarters-requires
quarters-quarters-requires c =
    macroblock_inside c.args.source.now.y c.near_macroblock-mb.result c.args.width c.args.first_row c.args.row c.args.column
    c.requires.width c.requires.row c.requires.column c.requires.first c.near_macroblock-mb.ensures

pub plan4-small-requires : goal.plan4-small-requires
plan4-small-requires c =
    macroblock_inside c.args.source.now.y c.near_macroblock-mb.result c.args.width c.args.first_row c.args.row c.args.column
    c.requires.width c.requires.row c.requires.column c.requires.first c.near_macroblock-mb.ensures

pub choose_chroma-chroma-requires-clause-cb : goal.choose_chroma-chroma-requires-clause-cb
choose_chroma-chroma-requires-clause-cb c =
    chroma_reachable c.args.source.now.y c.args.source.now.cb c.near_macroblock-mb.result c.args.width c.args.row c.args.column
    (macroblock_inside c.args.source.now.y c.near_macroblock-mb.result c.args.width c.args.first_row c.args.row c.args.column
    c.requires.width c.requires.row c.requires.column c.requires.first c.near_macroblock-mb.ensures)
    c.requires.width c.args.source.now.widths.0 c.args.source.now.heights.0

pub choose_chroma-chroma-requires-clause-cr : goal.choose_chroma-chroma-requires-clause-cr
choose_chroma-chroma-requires-clause-cr c =
    chroma_reachable c.args.source.now.y c.args.source.now.cr c.near_macroblock-mb.result c.args.width c.args.row c.args.column
    (macroblock_inside c.args.source.now.y c.near_macroblock-mb.result c.args.width c.args.first_row c.args.row c.args.column
    c.requires.width c.requires.row c.requires.column c.requires.first c.near_macroblock-mb.ensures)
    c.requires.width c.args.source.now.widths.1 c.args.source.now.heights.1

pub returns-clause-plan : goal.returns-clause-plan
returns-clause-plan c =
    let half : c.args.source.now.cb.width ≡ 8 * c.args.width = omega (arith, c.args.source.now.widths.0, c.requires.width) in
    plan_is c.args.t8x8 (planes_of c.args.source.now) c.args.row c.args.column c.args.width c.args.first_row c.near_macroblock-mb.result
    c.args.source.now.y.width c.args.source.now.cb.width c.near_macroblock-mb.ensures c.requires.width half
    c.choose16-whole.result c.choose_chroma-chroma.result c.quarters-quarters.result.modes c.plan4-small.result.modes
    c.quarters-quarters.result.cost c.plan4-small.result.cost c.no_parts-parts.result
    c.choose16-whole.ensures.value c.quarters-quarters.ensures.modes c.quarters-quarters.ensures.cost c.plan4-small.ensures.modes
    c.plan4-small.ensures.cost c.choose_chroma-chroma.ensures.value c.no_parts-parts.ensures
