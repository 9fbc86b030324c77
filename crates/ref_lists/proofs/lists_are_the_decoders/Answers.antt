use Rattle.ref_lists.proofs.Decoders.{decoders}
use Rattle.ref_lists.proofs.lists_are_the_decoders.Goals as goal

pub returns : goal.returns
returns c = decoders
