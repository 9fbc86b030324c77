use Rattle.spec_stream.proofs.DecodeLaws.{slice_back}
use Rattle.spec_stream.proofs.stored_slices_are_read.Goals as goal

pub returns : goal.returns
returns c = slice_back
