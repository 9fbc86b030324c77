use Rattle.std.proofs.Common.{◌-◌, ◌++◌, [], ◌∷◌}
use Rattle.std.proofs.lemmas.Result.{err_from_is_err_and}
use Rattle.spec_bits.specs.declared.fields.Field.TheVariants.{U, Ue}
use Rattle.spec_bits.specs.Fields.{fields_bits}
use Rattle.spec_headers.specs.HeadFields.{moved_fields}
use Rattle.param_sets.proofs.Steps.{going_start, going_more, parts, stopped, last_grown}
use Rattle.param_sets.proofs.heads.put_two_lists.Goals as goal

pub returns-in_err-put_fields : goal.returns-in_err-put_fields
returns-in_err-put_fields c = let p = err_from_is_err_and c.from_residual.result c.from_residual.ensures.1 in rw (p.1)
    (stopped c.args.out.now c.args.out.now c.put_fields.new.out (fields_bits (U 1 1 ∷ U 1 1 ∷ Ue (c.args.refs0 - 1) ∷ Ue (c.args.refs1 - 1) ∷ [])) (fields_bits ((moved_fields c.args.moved) ++ (U 1 0 ∷ []))) (fields_bits (U 1 1 ∷ U 1 1 ∷ Ue (c.args.refs0 - 1) ∷ Ue (c.args.refs1 - 1) ∷ (moved_fields c.args.moved ++ (U 1 0 ∷ [])))) (parts c.args.out.now c.args.out.now (U 1 1 ∷ U 1 1 ∷ Ue (c.args.refs0 - 1) ∷ Ue (c.args.refs1 - 1) ∷ []) ((moved_fields c.args.moved) ++ (U 1 0 ∷ [])) (fields_bits (U 1 1 ∷ U 1 1 ∷ Ue (c.args.refs0 - 1) ∷ Ue (c.args.refs1 - 1) ∷ (moved_fields c.args.moved ++ (U 1 0 ∷ [])))) (going_start c.args.out.now (fields_bits (U 1 1 ∷ U 1 1 ∷ Ue (c.args.refs0 - 1) ∷ Ue (c.args.refs1 - 1) ∷ (moved_fields c.args.moved ++ (U 1 0 ∷ [])))))) c.in_err-put_fields.ensures)

pub returns-in_err-put_moved : goal.returns-in_err-put_moved
returns-in_err-put_moved c = let p = err_from_is_err_and c.from_residual-in_err-put_moved.result c.from_residual-in_err-put_moved.ensures.1 in rw (p.1)
    (stopped c.args.out.now c.put_fields.new.out c.put_moved.new.out (fields_bits (moved_fields c.args.moved)) (fields_bits (U 1 0 ∷ [])) (fields_bits (U 1 1 ∷ U 1 1 ∷ Ue (c.args.refs0 - 1) ∷ Ue (c.args.refs1 - 1) ∷ (moved_fields c.args.moved ++ (U 1 0 ∷ [])))) (parts c.args.out.now c.put_fields.new.out (moved_fields c.args.moved) (U 1 0 ∷ []) (fields_bits (U 1 1 ∷ U 1 1 ∷ Ue (c.args.refs0 - 1) ∷ Ue (c.args.refs1 - 1) ∷ (moved_fields c.args.moved ++ (U 1 0 ∷ [])))) (going_more c.args.out.now c.args.out.now c.put_fields.new.out (fields_bits (U 1 1 ∷ U 1 1 ∷ Ue (c.args.refs0 - 1) ∷ Ue (c.args.refs1 - 1) ∷ [])) (fields_bits ((moved_fields c.args.moved) ++ (U 1 0 ∷ []))) (fields_bits (U 1 1 ∷ U 1 1 ∷ Ue (c.args.refs0 - 1) ∷ Ue (c.args.refs1 - 1) ∷ (moved_fields c.args.moved ++ (U 1 0 ∷ [])))) (parts c.args.out.now c.args.out.now (U 1 1 ∷ U 1 1 ∷ Ue (c.args.refs0 - 1) ∷ Ue (c.args.refs1 - 1) ∷ []) ((moved_fields c.args.moved) ++ (U 1 0 ∷ [])) (fields_bits (U 1 1 ∷ U 1 1 ∷ Ue (c.args.refs0 - 1) ∷ Ue (c.args.refs1 - 1) ∷ (moved_fields c.args.moved ++ (U 1 0 ∷ [])))) (going_start c.args.out.now (fields_bits (U 1 1 ∷ U 1 1 ∷ Ue (c.args.refs0 - 1) ∷ Ue (c.args.refs1 - 1) ∷ (moved_fields c.args.moved ++ (U 1 0 ∷ [])))))) c.in_ok-put_fields.ensures.1)) c.in_err-put_moved.ensures)

pub returns : goal.returns
returns c = last_grown c.args.out.now c.put_moved.new.out c.put_fields-2.new.out (fields_bits (U 1 0 ∷ [])) (fields_bits (U 1 1 ∷ U 1 1 ∷ Ue (c.args.refs0 - 1) ∷ Ue (c.args.refs1 - 1) ∷ (moved_fields c.args.moved ++ (U 1 0 ∷ [])))) c.put_fields-2.result (going_more c.args.out.now c.put_fields.new.out c.put_moved.new.out (fields_bits (moved_fields c.args.moved)) (fields_bits (U 1 0 ∷ [])) (fields_bits (U 1 1 ∷ U 1 1 ∷ Ue (c.args.refs0 - 1) ∷ Ue (c.args.refs1 - 1) ∷ (moved_fields c.args.moved ++ (U 1 0 ∷ [])))) (parts c.args.out.now c.put_fields.new.out (moved_fields c.args.moved) (U 1 0 ∷ []) (fields_bits (U 1 1 ∷ U 1 1 ∷ Ue (c.args.refs0 - 1) ∷ Ue (c.args.refs1 - 1) ∷ (moved_fields c.args.moved ++ (U 1 0 ∷ [])))) (going_more c.args.out.now c.args.out.now c.put_fields.new.out (fields_bits (U 1 1 ∷ U 1 1 ∷ Ue (c.args.refs0 - 1) ∷ Ue (c.args.refs1 - 1) ∷ [])) (fields_bits ((moved_fields c.args.moved) ++ (U 1 0 ∷ []))) (fields_bits (U 1 1 ∷ U 1 1 ∷ Ue (c.args.refs0 - 1) ∷ Ue (c.args.refs1 - 1) ∷ (moved_fields c.args.moved ++ (U 1 0 ∷ [])))) (parts c.args.out.now c.args.out.now (U 1 1 ∷ U 1 1 ∷ Ue (c.args.refs0 - 1) ∷ Ue (c.args.refs1 - 1) ∷ []) ((moved_fields c.args.moved) ++ (U 1 0 ∷ [])) (fields_bits (U 1 1 ∷ U 1 1 ∷ Ue (c.args.refs0 - 1) ∷ Ue (c.args.refs1 - 1) ∷ (moved_fields c.args.moved ++ (U 1 0 ∷ [])))) (going_start c.args.out.now (fields_bits (U 1 1 ∷ U 1 1 ∷ Ue (c.args.refs0 - 1) ∷ Ue (c.args.refs1 - 1) ∷ (moved_fields c.args.moved ++ (U 1 0 ∷ [])))))) c.in_ok-put_fields.ensures.1)) c.in_ok-put_moved.ensures.1) c.put_fields-2.ensures
