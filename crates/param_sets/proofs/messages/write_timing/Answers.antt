use Rattle.std.proofs.Common.{sym, ◌∙◌}
use Rattle.spec_bits.specs.Fields.{fields_bits}
use Rattle.spec_headers.specs.MessageFields.{timing_fields}
use Rattle.param_sets.proofs.Steps.{cut_back, failed, succeeded}
use Rattle.param_sets.proofs.messages.write_timing.Goals as goal

pub returns-then-is_err : goal.returns-then-is_err
returns-then-is_err c =
    let f = failed c.args.out.now c.put_fields.new.out (fields_bits (timing_fields c.args.removal c.args.output)) c.put_fields.result (sym c.is_err.ensures.value ∙ c.if-is_err.true) c.put_fields.ensures in
    (f.0, cut_back c.args.out.now c.put_fields.new.out c.cut.new.self c.len-start.result c.len-start.ensures.len f.1 c.cut.ensures)

pub returns : goal.returns
returns c = succeeded c.args.out.now c.put_fields.new.out (fields_bits (timing_fields c.args.removal c.args.output)) c.put_fields.result (sym c.is_err.ensures.value ∙ c.if-is_err.false) c.put_fields.ensures
