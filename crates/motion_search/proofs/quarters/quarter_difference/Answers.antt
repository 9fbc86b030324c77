use Rattle.std.proofs.Common.{◌∙◌, arith}
use Rattle.motion_search.specs.Quarters.{samples_by}
use Rattle.motion_search.proofs.Costs.{eight_or, sides}
use Rattle.motion_search.proofs.Quartering.{block_cost_is, cost_by_is}
use Rattle.motion_search.proofs.quarters.quarter_difference.Goals as goal

pub sad_block16-requires-clause-room_a : goal.sad_block16-requires-clause-room_a
sad_block16-requires-clause-room_a c =
    let h = sides c.args.block.h c.requires.planes.inside.high in
    let x = c.requires.planes.inside.across in
    let y = c.requires.planes.inside.down in
    let w = c.if-block-eq16.true in
    c.rows_from-own.ensures.len 16 c.args.block.h (omega arith) (omega arith) (omega arith)

pub sad_block8-requires-clause-room_a : goal.sad_block8-requires-clause-room_a
sad_block8-requires-clause-room_a c =
    let h = sides c.args.block.h c.requires.planes.inside.high in
    let x = c.requires.planes.inside.across in
    let y = c.requires.planes.inside.down in
    let w = eight_or c.args.block.w c.requires.planes.inside.wide c.if-block-eq16.false in
    c.rows_from-own.ensures.len 8 c.args.block.h (omega arith) (omega arith) (omega arith)

pub returns-then-block-eq16 : goal.returns-then-block-eq16
returns-then-block-eq16 c =
    c.sad_block16.ensures
    ∙ block_cost_is c.args.source.now c.args.block (samples_by c.args.reference.now c.args.halves c.args.block c.args.v) 16 c.rows_from-own.result.now _ c.requires.planes.inside c.if-block-eq16.true c.rows_from-own.ensures.value c.predicted_by-predicted.ensures
    ∙ cost_by_is c.args.source.now c.args.reference.now c.args.halves c.args.block c.args.v

pub returns-else-block-eq16 : goal.returns-else-block-eq16
returns-else-block-eq16 c =
    c.sad_block8.ensures
    ∙ block_cost_is c.args.source.now c.args.block (samples_by c.args.reference.now c.args.halves c.args.block c.args.v) 8 c.rows_from-own.result.now _ c.requires.planes.inside (eight_or c.args.block.w c.requires.planes.inside.wide c.if-block-eq16.false) c.rows_from-own.ensures.value c.predicted_by-predicted.ensures
    ∙ cost_by_is c.args.source.now c.args.reference.now c.args.halves c.args.block c.args.v
