use Rattle.spec_slice_payload.proofs.InRange.{all_fit, all_small}
use Rattle.spec_slice_payload.proofs.motion_stays_in_range.Goals as goal

pub returns : goal.returns
returns c = record { references = all_fit; vectors = all_small }
