use Rattle.spec_residual.proofs.Bounds.{in_row}
use Rattle.enc_tables.specs.declared.transform.TheConstants.{CHROMA_QP}
use Rattle.residual_coder.proofs.chroma.chroma_qp.Goals as goal

pub returns-clause-small : goal.returns-clause-small
returns-clause-small c = in_row 51 CHROMA_QP tt c.args.qp
