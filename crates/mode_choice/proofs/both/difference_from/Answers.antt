use Rattle.std.proofs.Common.{◌∙◌, arith}
use Rattle.motion_search.proofs.Costs.{eight_or, sides}
use Rattle.motion_search.proofs.Quartering.{block_cost_is}
use Rattle.mode_choice.proofs.BothLists.{source_same, from_samples}
use Rattle.mode_choice.proofs.both.difference_from.Goals as goal

pub sad_block16-requires-clause-room_a : goal.sad_block16-requires-clause-room_a
sad_block16-requires-clause-room_a c =
    let h = sides c.args.block.h c.requires.high in
    let x = c.requires.across in
    let y = c.requires.down in
    let w = c.if-block-eq16.true in
    c.rows_from-own.ensures.len 16 c.args.block.h (omega arith) (omega arith) (omega arith)

pub sad_block8-requires-clause-room_a : goal.sad_block8-requires-clause-room_a
sad_block8-requires-clause-room_a c =
    let h = sides c.args.block.h c.requires.high in
    let x = c.requires.across in
    let y = c.requires.down in
    let w = eight_or c.args.block.w c.requires.wide c.if-block-eq16.false in
    c.rows_from-own.ensures.len 8 c.args.block.h (omega arith) (omega arith) (omega arith)

pub returns-then-block-eq16-clause-value : goal.returns-then-block-eq16-clause-value
returns-then-block-eq16-clause-value c s f h rows =
    c.sad_block16.ensures
    ∙ block_cost_is c.args.source.now c.args.block f 16 c.rows_from-own.result.now _ c.requires c.if-block-eq16.true c.rows_from-own.ensures.value rows
    ∙ source_same s c.args.source.now c.args.block f h c.requires

pub returns-else-block-eq16-clause-value : goal.returns-else-block-eq16-clause-value
returns-else-block-eq16-clause-value c s f h rows =
    c.sad_block8.ensures
    ∙ block_cost_is c.args.source.now c.args.block f 8 c.rows_from-own.result.now _ c.requires (eight_or c.args.block.w c.requires.wide c.if-block-eq16.false) c.rows_from-own.ensures.value rows
    ∙ source_same s c.args.source.now c.args.block f h c.requires

pub returns-then-block-eq16-clause-small : goal.returns-then-block-eq16-clause-small
returns-then-block-eq16-clause-small c =
    from_samples c.args.source.now c.args.block 16 c.rows_from-own.result.now c.args.samples.now _ c.requires c.if-block-eq16.true c.rows_from-own.ensures.value c.lemma_samples_fit.ensures.places
    c.lemma_bytes_fit.ensures c.sad_block16.ensures

pub returns-else-block-eq16-clause-small : goal.returns-else-block-eq16-clause-small
returns-else-block-eq16-clause-small c =
    from_samples c.args.source.now c.args.block 8 c.rows_from-own.result.now c.args.samples.now _ c.requires (eight_or c.args.block.w c.requires.wide c.if-block-eq16.false) c.rows_from-own.ensures.value c.lemma_samples_fit.ensures.places
    c.lemma_bytes_fit.ensures c.sad_block8.ensures
