use Rattle.std.proofs.Common.{◌∙◌, arith}
use Rattle.motion_search.proofs.Costs.{cost_is, eight_or, sides}
use Rattle.motion_search.proofs.candidates.difference.Goals as goal

pub sad_block16-requires-clause-room_a : goal.sad_block16-requires-clause-room_a
sad_block16-requires-clause-room_a g c =
    let h = sides c.args.block.h c.requires.planes.inside.high in
    let x = c.requires.planes.inside.across in
    let y = c.requires.planes.inside.down in
    let w = c.if-block-eq16.true in
    c.rows_from-own.ensures.len 16 c.args.block.h (omega arith) (omega arith) (omega arith)

pub sad_block16-requires-clause-room_b : goal.sad_block16-requires-clause-room_b
sad_block16-requires-clause-room_b g c =
    let h = sides c.args.block.h c.requires.planes.inside.high in
    let x = c.requires.planes.inside.across in
    let y = c.requires.planes.inside.down in
    let sw = c.requires.planes.sizes.width in
    let sh = c.requires.planes.sizes.height in
    let m = c.requires.planes.margin in
    let w = c.if-block-eq16.true in
    c.rows_from-moved.ensures.len 16 c.args.block.h (omega arith) (omega arith) (omega arith)

pub sad_block8-requires-clause-room_a : goal.sad_block8-requires-clause-room_a
sad_block8-requires-clause-room_a g c =
    let h = sides c.args.block.h c.requires.planes.inside.high in
    let x = c.requires.planes.inside.across in
    let y = c.requires.planes.inside.down in
    let w = eight_or c.args.block.w c.requires.planes.inside.wide c.if-block-eq16.false in
    c.rows_from-own.ensures.len 8 c.args.block.h (omega arith) (omega arith) (omega arith)

pub sad_block8-requires-clause-room_b : goal.sad_block8-requires-clause-room_b
sad_block8-requires-clause-room_b g c =
    let h = sides c.args.block.h c.requires.planes.inside.high in
    let x = c.requires.planes.inside.across in
    let y = c.requires.planes.inside.down in
    let sw = c.requires.planes.sizes.width in
    let sh = c.requires.planes.sizes.height in
    let m = c.requires.planes.margin in
    let w = eight_or c.args.block.w c.requires.planes.inside.wide c.if-block-eq16.false in
    c.rows_from-moved.ensures.len 8 c.args.block.h (omega arith) (omega arith) (omega arith)

pub returns-then-block-eq16-clause-value : goal.returns-then-block-eq16-clause-value
returns-then-block-eq16-clause-value g c =
    c.sad_block16.ensures
    ∙ cost_is c.args.source.now c.args.reference.now c.args.block c.args.spot 16 c.rows_from-own.result.now c.rows_from-moved.result.now c.requires.planes c.requires.near c.if-block-eq16.true c.rows_from-own.ensures.value c.rows_from-moved.ensures.value

pub returns-else-block-eq16-clause-value : goal.returns-else-block-eq16-clause-value
returns-else-block-eq16-clause-value g c =
    c.sad_block8.ensures
    ∙ cost_is c.args.source.now c.args.reference.now c.args.block c.args.spot 8 c.rows_from-own.result.now c.rows_from-moved.result.now c.requires.planes c.requires.near (eight_or c.args.block.w c.requires.planes.inside.wide c.if-block-eq16.false) c.rows_from-own.ensures.value c.rows_from-moved.ensures.value
