use Rattle.spec_slice_data.proofs.Decoded.{asked_append, after_append}
use Rattle.spec_slice_data.proofs.bins_follow_bins.Goals as goal

pub returns : goal.returns
returns c = record { asked = asked_append; states = after_append }
