use Rattle.std.proofs.Common.{◌-◌, [], ◌∷◌}
use Rattle.std.proofs.lemmas.Result.{err_from_is_err_and}
use Rattle.spec_bits.specs.declared.fields.Field.TheVariants.{U, Ue}
use Rattle.spec_bits.specs.Fields.{fields_bits}
use Rattle.spec_headers.specs.HeadFields.{moved_fields}
use Rattle.param_sets.proofs.Steps.{going_start, going_more, parts, stopped, last_grown}
use Rattle.param_sets.proofs.heads.put_list.Goals as goal

pub returns-in_err-put_fields : goal.returns-in_err-put_fields
returns-in_err-put_fields c = let p = err_from_is_err_and c.from_residual.result c.from_residual.ensures.1 in rw (p.1)
    (stopped c.args.out.now c.args.out.now c.put_fields.new.out (fields_bits (U 1 1 ∷ Ue (c.args.refs0 - 1) ∷ [])) (fields_bits (moved_fields c.args.moved)) (fields_bits (U 1 1 ∷ Ue (c.args.refs0 - 1) ∷ moved_fields c.args.moved)) (parts c.args.out.now c.args.out.now (U 1 1 ∷ Ue (c.args.refs0 - 1) ∷ []) (moved_fields c.args.moved) (fields_bits (U 1 1 ∷ Ue (c.args.refs0 - 1) ∷ moved_fields c.args.moved)) (going_start c.args.out.now (fields_bits (U 1 1 ∷ Ue (c.args.refs0 - 1) ∷ moved_fields c.args.moved)))) c.in_err-put_fields.ensures)

pub returns : goal.returns
returns c = last_grown c.args.out.now c.put_fields.new.out c.put_moved.new.out (fields_bits (moved_fields c.args.moved)) (fields_bits (U 1 1 ∷ Ue (c.args.refs0 - 1) ∷ moved_fields c.args.moved)) c.put_moved.result (going_more c.args.out.now c.args.out.now c.put_fields.new.out (fields_bits (U 1 1 ∷ Ue (c.args.refs0 - 1) ∷ [])) (fields_bits (moved_fields c.args.moved)) (fields_bits (U 1 1 ∷ Ue (c.args.refs0 - 1) ∷ moved_fields c.args.moved)) (parts c.args.out.now c.args.out.now (U 1 1 ∷ Ue (c.args.refs0 - 1) ∷ []) (moved_fields c.args.moved) (fields_bits (U 1 1 ∷ Ue (c.args.refs0 - 1) ∷ moved_fields c.args.moved)) (going_start c.args.out.now (fields_bits (U 1 1 ∷ Ue (c.args.refs0 - 1) ∷ moved_fields c.args.moved)))) c.in_ok-put_fields.ensures.1) c.put_moved.ensures
