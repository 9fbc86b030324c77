use Rattle.std.proofs.Common.{◌%◌}
use Rattle.enc_tables.specs.declared.transform.TheConstants.{SCALING8}
use Rattle.spec_residual.proofs.Bounds.{in_rows}
use Rattle.transform_quant.proofs.scale.scaling_of.Goals as goal

pub returns-in-Luma8-clause-small : goal.returns-in-Luma8-clause-small
returns-in-Luma8-clause-small c = rw c.scaling8.ensures (in_rows 58 SCALING8 tt (c.args.qp % 6) c.class8.result)
