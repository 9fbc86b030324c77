use Rattle.std.proofs.Common.{arith, drop, []}
use Rattle.std.proofs.lemmas.Result.{err_from_is_err_and}
use Rattle.spec_bits.specs.declared.fields.Field.TheVariants.{U}
use Rattle.spec_bits.specs.Fields.{fields_bits}
use Rattle.param_sets.proofs.Steps.{going_same, going_more, stopped_same, fits_at, field_going, fields_over, going_over, still_fits}
use Rattle.param_sets.proofs.fields.put_fields.Goals as goal

pub put_field-requires : goal.put_field-requires
put_field-requires c = fits_at c.args.fields.now c.loop-field.field-index (U 0 0) (omega arith) c.requires

pub returns-in_err-put_field : goal.returns-in_err-put_field
returns-in_err-put_field c = let p = err_from_is_err_and c.from_residual.result c.from_residual.ensures.1 in rw (p.1)
    (stopped_same c.args.out.now c.loop-field.out c.put_field.new.out _ _ (fields_bits c.args.fields.now)
    (field_going c.args.out.now c.loop-field.out c.args.fields.now c.loop-field.field-index (fields_bits c.args.fields.now) (omega arith) c.loop-field.invariant.going) c.in_err-put_field.ensures)

pub loop-field-preserved : goal.loop-field-preserved
loop-field-preserved c = record {
  going = going_more c.args.out.now c.loop-field.out c.put_field.new.out _ _ (fields_bits c.args.fields.now)
      (field_going c.args.out.now c.loop-field.out c.args.fields.now c.loop-field.field-index (fields_bits c.args.fields.now) (omega arith) c.loop-field.invariant.going) c.in_ok-put_field.ensures.1;
  fits = still_fits c.loop-field.out c.put_field.new.out _ c.in_ok-put_field.ensures;
}

pub returns : goal.returns
returns c = going_over c.args.out.now c.loop-field.out (fields_bits c.args.fields.now) c.loop-field.invariant.fits
    (going_same c.args.out.now c.loop-field.out (fields_bits (drop c.loop-field.field-index c.args.fields.now)) [] (fields_bits c.args.fields.now) (fields_over c.args.fields.now c.loop-field.field-index (omega arith)) c.loop-field.invariant.going)
