use Rattle.spec_inter_records.proofs.Encoded.{planned_belongs, p_skip_belongs, b_skip_belongs, b_direct_belongs}
use Rattle.spec_inter_records.proofs.inter_records_belong.Goals as goal

pub returns : goal.returns
returns c = record { partitions = planned_belongs; p_skip = p_skip_belongs; b_skip = b_skip_belongs; direct = b_direct_belongs }
