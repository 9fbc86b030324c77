use Rattle.std.proofs.Common.{sym, ◌∙◌}
use Rattle.spec_bits.specs.Fields.{fields_bits}
use Rattle.spec_headers.specs.HeadFields.{sequence_fields}
use Rattle.param_sets.proofs.Steps.{cut_back, failed, succeeded}
use Rattle.param_sets.proofs.heads.write_sps.Goals as goal

pub returns-then-is_err : goal.returns-then-is_err
returns-then-is_err c =
    let f = failed c.args.out.now c.put_sequence.new.out (fields_bits (sequence_fields c.args.head.now)) c.put_sequence.result (sym c.is_err.ensures.value ∙ c.if-is_err.true) c.put_sequence.ensures in
    (f.0, cut_back c.args.out.now c.put_sequence.new.out c.cut.new.self c.len-start.result c.len-start.ensures.len f.1 c.cut.ensures)

pub returns : goal.returns
returns c = succeeded c.args.out.now c.put_sequence.new.out (fields_bits (sequence_fields c.args.head.now)) c.put_sequence.result (sym c.is_err.ensures.value ∙ c.if-is_err.false) c.put_sequence.ensures
