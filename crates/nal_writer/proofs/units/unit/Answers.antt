use Rattle.std.proofs.Common.{sym, ◌∙◌}
use Rattle.spec_bits.specs.Units.{unit_bytes}
use Rattle.nal_writer.proofs.Pieces.{cut_back, failed, succeeded}
use Rattle.nal_writer.proofs.units.unit.Goals as goal

pub returns-then-is_err : goal.returns-then-is_err
unfolding unit_bytes
returns-then-is_err c =
    let f = failed c.args.out.now c.put_unit.new.out _ c.put_unit.result (sym c.is_err.ensures.value ∙ c.if-is_err.true) c.put_unit.ensures in
    (f.0, cut_back c.args.out.now c.put_unit.new.out c.cut.new.self c.len-start.result c.len-start.ensures.len f.1 c.cut.ensures)

pub returns : goal.returns
unfolding unit_bytes
returns c = succeeded c.args.out.now c.put_unit.new.out _ c.put_unit.result (sym c.is_err.ensures.value ∙ c.if-is_err.false) c.put_unit.ensures
