use Rattle.inter_coder.proofs.LevelLaws.{luma_coded}
use Rattle.inter_coder.proofs.levels.luma_over.Goals as goal

pub returns-clause-quantised : goal.returns-clause-quantised
returns-clause-quantised c = luma_coded c.args.site.now.qp c.nonzero-count.result c.whole_levels8-eights.result c.nonzero-count.ensures c.whole_levels8-eights.ensures.quantised
