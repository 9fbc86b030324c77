use Rattle.inter_coder.specs.Given.{wide_of, tall_of}
use Rattle.slice_coder.proofs.Naming.{colocated_found}
use Rattle.slice_coder.proofs.colocated.colocated_at.Goals as goal

pub returns : goal.returns
returns c =
    colocated_found (wide_of c.args.pictures.now) (tall_of c.args.pictures.now) c.args.pictures.now.lists.now c.args.address c.index-lists-place.result c.index.result.now c.as_slice.result.now c.blocks_of.result c.requires.lent.held c.requires.lent.second
    c.requires.some c.requires.address c.as_slice.ensures.value c.index.ensures c.blocks_of.ensures
