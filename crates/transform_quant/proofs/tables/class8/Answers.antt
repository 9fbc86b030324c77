use Rattle.std.proofs.Common.{arith}
use Rattle.enc_tables.specs.declared.transform.TheConstants.{CLASS8}
use Rattle.spec_residual.proofs.Bounds.{in_row}
use Rattle.transform_quant.proofs.tables.class8.Goals as goal

pub returns-clause-small : goal.returns-clause-small
returns-clause-small c = let h = in_row 5 CLASS8 tt c.args.place in omega arith
