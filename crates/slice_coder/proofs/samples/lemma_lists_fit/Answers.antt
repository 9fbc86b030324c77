use Rattle.slice_coder.proofs.Naming.{pictures_fit}
use Rattle.slice_coder.proofs.samples.lemma_lists_fit.Goals as goal

pub returns-clause-list0 : goal.returns-clause-list0
returns-clause-list0 c = pictures_fit c.args.lists.now.held.now c.args.lists.now.list0.items c.lemma_references_fit.ensures

pub returns-clause-list1 : goal.returns-clause-list1
returns-clause-list1 c = pictures_fit c.args.lists.now.held.now c.args.lists.now.list1.items c.lemma_references_fit.ensures
