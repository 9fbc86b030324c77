use Rattle.nine_search.specs.Partitions.{partition_block}
use Rattle.nine_search.specs.NineSearches.{dx_at, dy_at, sad_at}
use Rattle.nine_search.specs.NineRefined.{vector_at, cost_at}
use Rattle.nine_search.proofs.Fours.{partition_inside}
use Rattle.mode_choice.proofs.Finding.{same_size, wider, found_is, compared_is, refined_short, refined_size}
use Rattle.motion_search.specs.Quarters.{quarter_costs}
use Rattle.mode_choice.proofs.searches.find_in.Goals as goal

pub search_nine-nine-requires-clause-sizes : goal.search_nine-nine-requires-clause-sizes
search_nine-nine-requires-clause-sizes g c = same_size c.args.source.now c.args.reference.now c.requires.made

pub refine_nine-refined-requires-clause-sizes : goal.refine_nine-refined-requires-clause-sizes
refine_nine-refined-requires-clause-sizes g c = same_size c.args.source.now c.args.reference.now c.requires.made

pub refine_nine-refined-requires-clause-best : goal.refine_nine-refined-requires-clause-best
refine_nine-refined-requires-clause-best g c k p = wider c.args.range 32 _ _ c.requires.range.1 (c.search_nine-nine.ensures.best k p).inside

pub returns-clause-found : goal.returns-clause-found
returns-clause-found g c s h e k p =
    let source = c.args.source.now in
    let x = c.args.x in
    let y = c.args.y in
    let nine = c.search_nine-nine.result in
    let refined = c.refine_nine-refined.result in
    found_is s source c.args.reference.now (partition_block x y k) c.args.range (dx_at nine k) (dy_at nine k) (sad_at nine k) (vector_at refined k) (cost_at refined k) h c.requires.made e
    (partition_inside source.width source.height x y k c.requires.macroblock p) (c.search_nine-nine.ensures.best k p) (c.refine_nine-refined.ensures.same c.requires.ready.halves k p)

pub returns-clause-compared : goal.returns-clause-compared
returns-clause-compared g c s h e = compared_is s c.args.source.now c.args.reference.now c.args.x c.args.y c.args.range _ h c.requires.made e c.requires.macroblock c.search_nine-nine.ensures.compared

pub returns-clause-small : goal.returns-clause-small
returns-clause-small g c k p =
    let source = c.args.source.now in
    refined_size source c.args.reference.now.picture.y (partition_block c.args.x c.args.y k) _ _ _ _ (partition_inside source.width source.height c.args.x c.args.y k c.requires.macroblock p)
    c.lemma_samples_fit.ensures.places c.lemma_samples_fit-2.ensures.samples (c.refine_nine-refined.ensures.same c.requires.ready.halves k p)

pub returns-clause-short : goal.returns-clause-short
returns-clause-short g c k p =
    refined_short (quarter_costs c.args.source.now c.args.reference.now.picture.y (partition_block c.args.x c.args.y k)) _ _ _ _
    (wider c.args.range 32 _ _ c.requires.range.1 (c.search_nine-nine.ensures.best k p).inside) (c.refine_nine-refined.ensures.same c.requires.ready.halves k p)
