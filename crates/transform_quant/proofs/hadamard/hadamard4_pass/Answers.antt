use Rattle.std.proofs.Common.{arith}
use Rattle.transform_quant.specs.Lines.{hadamard4_line, row4_by}
use Rattle.transform_quant.proofs.Columns.{columns4_next, line4_read}
use Rattle.transform_quant.proofs.hadamard.hadamard4_pass.Goals as goal

pub loop-i-preserved : goal.loop-i-preserved
loop-i-preserved c =
    let line = line4_read hadamard4_line c.args.x.now c.hadamard4_line-line.result c.loop-i.i _ _ _ _ (omega arith) (omega arith) c.hadamard4_line-line.ensures in
    record {
      long = c.put_column4.ensures.length;
      columns = columns4_next (row4_by hadamard4_line c.args.x.now) c.loop-i.out c.put_column4.new.out c.hadamard4_line-line.result c.loop-i.i (omega arith) c.put_column4.ensures.column c.put_column4.ensures.others line c.loop-i.invariant.columns;
    }
