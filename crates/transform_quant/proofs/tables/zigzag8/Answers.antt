use Rattle.std.proofs.Common.{arith}
use Rattle.enc_tables.specs.declared.transform.TheConstants.{ZIGZAG8}
use Rattle.spec_residual.proofs.Bounds.{in_row}
use Rattle.transform_quant.proofs.tables.zigzag8.Goals as goal

pub returns-clause-inside : goal.returns-clause-inside
returns-clause-inside c = let h = in_row 63 ZIGZAG8 tt c.args.scan in omega arith
