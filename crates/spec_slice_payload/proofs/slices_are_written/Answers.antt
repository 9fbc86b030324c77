use Rattle.spec_slice_payload.proofs.Layers.{are_written}
use Rattle.spec_slice_payload.proofs.slices_are_written.Goals as goal

pub returns : goal.returns
returns c = are_written
