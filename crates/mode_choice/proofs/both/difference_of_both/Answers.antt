use Rattle.std.proofs.Common.{◌∙◌}
use Rattle.motion_search.proofs.Costs.{sides}
use Rattle.spec_inter.specs.Taps.{mean}
use Rattle.subpel_filter.specs.Predicted.{luma_at}
use Rattle.mode_choice.proofs.BothLists.{made_own, block_there, both_is}
use Rattle.mode_choice.proofs.both.difference_of_both.Goals as goal

pub predicted-a-requires-clause-made : goal.predicted-a-requires-clause-made
predicted-a-requires-clause-made c = made_own _ _ c.args.first.now c.requires.made.0

pub predicted-a-requires-clause-block : goal.predicted-a-requires-clause-block
predicted-a-requires-clause-block c = block_there _ _ c.args.first.now c.args.block c.requires.made.0 c.requires.block

pub predicted-b-requires-clause-made : goal.predicted-b-requires-clause-made
predicted-b-requires-clause-made c = made_own _ _ c.args.second.now c.requires.made.1

pub predicted-b-requires-clause-block : goal.predicted-b-requires-clause-block
predicted-b-requires-clause-block c = block_there _ _ c.args.second.now c.args.block c.requires.made.1 c.requires.block

pub returns-clause-value : goal.returns-clause-value
returns-clause-value c s h =
    let b = c.args.block in
    let f = luma_at c.args.first.now.picture.y b.x b.y c.args.v in
    let g = luma_at c.args.second.now.picture.y b.x b.y c.args.w in
    let wide = sides b.w c.requires.block.wide in
    let high = sides b.h c.requires.block.high in
    c.difference_from.ensures.value s (λ i j. mean (f i j) (g i j)) h (c.means.ensures f g b.w b.h wide.1 high.1 c.predicted-a.ensures c.predicted-b.ensures)
    ∙ both_is s c.args.source.now c.args.first.now c.args.second.now b c.args.v c.args.w h c.requires.made.0 c.requires.made.1
