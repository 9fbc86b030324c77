use Rattle.std.proofs.Common.{◌++◌}
use Rattle.std.proofs.lemmas.Result.{err_from_is_err_and}
use Rattle.spec_bits.specs.Fields.{fields_bits}
use Rattle.spec_headers.specs.HeadFields.{format_fields, cropping_fields, usability_fields, sequence_fields}
use Rattle.param_sets.proofs.Steps.{going_start, going_more, parts, stopped, last_grown}
use Rattle.param_sets.proofs.heads.put_sequence.Goals as goal

pub returns-in_err-put_format : goal.returns-in_err-put_format
unfolding sequence_fields
returns-in_err-put_format c = let p = err_from_is_err_and c.from_residual.result c.from_residual.ensures.1 in rw (p.1)
    (stopped c.args.out.now c.args.out.now c.put_format.new.out (fields_bits (format_fields c.args.head.now)) (fields_bits ((cropping_fields c.args.head.now.width c.args.head.now.height) ++ (usability_fields c.args.head.now.refs c.args.head.now.timing))) (fields_bits (sequence_fields c.args.head.now)) (parts c.args.out.now c.args.out.now (format_fields c.args.head.now) ((cropping_fields c.args.head.now.width c.args.head.now.height) ++ (usability_fields c.args.head.now.refs c.args.head.now.timing)) (fields_bits (sequence_fields c.args.head.now)) (going_start c.args.out.now (fields_bits (sequence_fields c.args.head.now)))) c.in_err-put_format.ensures)

pub returns-in_err-put_cropping : goal.returns-in_err-put_cropping
unfolding sequence_fields
returns-in_err-put_cropping c = let p = err_from_is_err_and c.from_residual-in_err-put_cropping.result c.from_residual-in_err-put_cropping.ensures.1 in rw (p.1)
    (stopped c.args.out.now c.put_format.new.out c.put_cropping.new.out (fields_bits (cropping_fields c.args.head.now.width c.args.head.now.height)) (fields_bits (usability_fields c.args.head.now.refs c.args.head.now.timing)) (fields_bits (sequence_fields c.args.head.now)) (parts c.args.out.now c.put_format.new.out (cropping_fields c.args.head.now.width c.args.head.now.height) (usability_fields c.args.head.now.refs c.args.head.now.timing) (fields_bits (sequence_fields c.args.head.now)) (going_more c.args.out.now c.args.out.now c.put_format.new.out (fields_bits (format_fields c.args.head.now)) (fields_bits ((cropping_fields c.args.head.now.width c.args.head.now.height) ++ (usability_fields c.args.head.now.refs c.args.head.now.timing))) (fields_bits (sequence_fields c.args.head.now)) (parts c.args.out.now c.args.out.now (format_fields c.args.head.now) ((cropping_fields c.args.head.now.width c.args.head.now.height) ++ (usability_fields c.args.head.now.refs c.args.head.now.timing)) (fields_bits (sequence_fields c.args.head.now)) (going_start c.args.out.now (fields_bits (sequence_fields c.args.head.now)))) c.in_ok-put_format.ensures.1)) c.in_err-put_cropping.ensures)

pub returns : goal.returns
unfolding sequence_fields
returns c = last_grown c.args.out.now c.put_cropping.new.out c.put_usability.new.out (fields_bits (usability_fields c.args.head.now.refs c.args.head.now.timing)) (fields_bits (sequence_fields c.args.head.now)) c.put_usability.result (going_more c.args.out.now c.put_format.new.out c.put_cropping.new.out (fields_bits (cropping_fields c.args.head.now.width c.args.head.now.height)) (fields_bits (usability_fields c.args.head.now.refs c.args.head.now.timing)) (fields_bits (sequence_fields c.args.head.now)) (parts c.args.out.now c.put_format.new.out (cropping_fields c.args.head.now.width c.args.head.now.height) (usability_fields c.args.head.now.refs c.args.head.now.timing) (fields_bits (sequence_fields c.args.head.now)) (going_more c.args.out.now c.args.out.now c.put_format.new.out (fields_bits (format_fields c.args.head.now)) (fields_bits ((cropping_fields c.args.head.now.width c.args.head.now.height) ++ (usability_fields c.args.head.now.refs c.args.head.now.timing))) (fields_bits (sequence_fields c.args.head.now)) (parts c.args.out.now c.args.out.now (format_fields c.args.head.now) ((cropping_fields c.args.head.now.width c.args.head.now.height) ++ (usability_fields c.args.head.now.refs c.args.head.now.timing)) (fields_bits (sequence_fields c.args.head.now)) (going_start c.args.out.now (fields_bits (sequence_fields c.args.head.now)))) c.in_ok-put_format.ensures.1)) c.in_ok-put_cropping.ensures.1) c.put_usability.ensures
