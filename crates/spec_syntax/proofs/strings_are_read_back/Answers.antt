use Rattle.std.proofs.Common.{arith}
use Rattle.spec_syntax.proofs.Walks.{reads_flag}
use Rattle.spec_syntax.proofs.Elements.{reads_intra_type, reads_mode_rem, reads_chroma_mode, reads_luma_pattern, reads_chroma_pattern, reads_qp_delta}
use Rattle.spec_syntax.proofs.Levels.{reads_minus1}
use Rattle.spec_syntax.proofs.strings_are_read_back.Goals as goal

pub returns : goal.returns
returns c = record {
  flag = reads_flag;
  mb_type = reads_intra_type;
  mode_rem = reads_mode_rem;
  chroma_mode = reads_chroma_mode;
  luma_pattern = reads_luma_pattern;
  chroma_pattern = reads_chroma_pattern;
  qp_delta = reads_qp_delta;
  level = λ first others m h. reads_minus1 first others m (omega arith);
}
