use Rattle.nine_search.proofs.Lows.{bounds_low}
use Rattle.nine_search.proofs.nine.lemma_bounds_small.Goals as goal

pub returns : goal.returns
returns c q n p = bounds_low c.args.source.now c.args.reference.now c.args.x c.args.y c.requires.macroblock c.lemma_samples.ensures c.lemma_samples-2.ensures q n p
