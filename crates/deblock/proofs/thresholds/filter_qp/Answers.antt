use Rattle.deblock.proofs.Tables.{chroma_qp_bound}
use Rattle.deblock.proofs.thresholds.filter_qp.Goals as goal

pub returns-then-chroma-clause-most : goal.returns-then-chroma-clause-most
returns-then-chroma-clause-most c = chroma_qp_bound c.if-is_pcm.qp
