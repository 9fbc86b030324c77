use Rattle.spec_slice_payload.proofs.Growing.{one_more, neighbours}
use Rattle.spec_slice_payload.proofs.Allowed.{inter_allowed}
use Rattle.spec_slice_payload.proofs.records_are_added.Goals as goal

pub returns : goal.returns
returns c = record { one_more = one_more; neighbours = neighbours; inter = inter_allowed }
