use Rattle.spec_syntax.proofs.Inter.{reads_p_type, reads_b_type, reads_sub_type, reads_ref_index, reads_mvd}
use Rattle.spec_syntax.proofs.inter_strings_are_read_back.Goals as goal

pub returns : goal.returns
returns c = record { p_type = reads_p_type; b_type = reads_b_type; sub_type = reads_sub_type; ref_index = reads_ref_index; mvd = reads_mvd }
