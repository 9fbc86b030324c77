use Rattle.std.proofs.Common.{arith}
use Rattle.transform_quant.specs.Lines.{row8_by}
use Rattle.spec_residual.specs.Inverse.{line8}
use Rattle.transform_quant.proofs.Eight.{columns8_next, line8_read}
use Rattle.transform_quant.proofs.inverse8x8.inverse8_pass.Goals as goal

pub loop-i-preserved : goal.loop-i-preserved
loop-i-preserved c =
    let line = line8_read line8 c.args.x.now c.inverse8_line-line.result c.loop-i.i _ _ _ _ _ _ _ _ (omega arith) (omega arith) c.inverse8_line-line.ensures in
    record {
      long = c.put_column8.ensures.length;
      columns = columns8_next (row8_by line8 c.args.x.now) c.loop-i.out c.put_column8.new.out c.inverse8_line-line.result c.loop-i.i (omega arith) c.put_column8.ensures.column c.put_column8.ensures.others line c.loop-i.invariant.columns;
    }
