use Rattle.std.proofs.Common.{◌++◌, [], ◌∷◌}
use Rattle.std.proofs.lemmas.Result.{err_from_is_err_and}
use Rattle.spec_bits.specs.Fields.{fields_bits}
use Rattle.spec_headers.specs.HeadFields.{place_fields, list_fields, marking_fields, init_fields, qp_field, slice_fields}
use Rattle.param_sets.proofs.Steps.{going_start, going_more, parts, stopped, last_grown}
use Rattle.param_sets.proofs.heads.put_slice_fields.Goals as goal

pub returns-in_err-put_place : goal.returns-in_err-put_place
unfolding slice_fields
returns-in_err-put_place c = let p = err_from_is_err_and c.from_residual.result c.from_residual.ensures.1 in rw (p.1)
    (stopped c.args.out.now c.args.out.now c.put_place.new.out (fields_bits (place_fields c.args.head.now)) (fields_bits ((list_fields c.args.head.now.kind c.args.head.now.refs0 c.args.head.now.refs1 c.args.head.now.moved) ++ ((marking_fields c.args.head.now.idr c.args.head.now.kind) ++ (init_fields c.args.head.now.cabac c.args.head.now.kind ++ (qp_field c.args.head.now.qp ∷ []))))) (fields_bits (slice_fields c.args.head.now)) (parts c.args.out.now c.args.out.now (place_fields c.args.head.now) ((list_fields c.args.head.now.kind c.args.head.now.refs0 c.args.head.now.refs1 c.args.head.now.moved) ++ ((marking_fields c.args.head.now.idr c.args.head.now.kind) ++ (init_fields c.args.head.now.cabac c.args.head.now.kind ++ (qp_field c.args.head.now.qp ∷ [])))) (fields_bits (slice_fields c.args.head.now)) (going_start c.args.out.now (fields_bits (slice_fields c.args.head.now)))) c.in_err-put_place.ensures)

pub returns-in_err-put_lists : goal.returns-in_err-put_lists
unfolding slice_fields
returns-in_err-put_lists c = let p = err_from_is_err_and c.from_residual-in_err-put_lists.result c.from_residual-in_err-put_lists.ensures.1 in rw (p.1)
    (stopped c.args.out.now c.put_place.new.out c.put_lists.new.out (fields_bits (list_fields c.args.head.now.kind c.args.head.now.refs0 c.args.head.now.refs1 c.args.head.now.moved)) (fields_bits ((marking_fields c.args.head.now.idr c.args.head.now.kind) ++ (init_fields c.args.head.now.cabac c.args.head.now.kind ++ (qp_field c.args.head.now.qp ∷ [])))) (fields_bits (slice_fields c.args.head.now)) (parts c.args.out.now c.put_place.new.out (list_fields c.args.head.now.kind c.args.head.now.refs0 c.args.head.now.refs1 c.args.head.now.moved) ((marking_fields c.args.head.now.idr c.args.head.now.kind) ++ (init_fields c.args.head.now.cabac c.args.head.now.kind ++ (qp_field c.args.head.now.qp ∷ []))) (fields_bits (slice_fields c.args.head.now)) (going_more c.args.out.now c.args.out.now c.put_place.new.out (fields_bits (place_fields c.args.head.now)) (fields_bits ((list_fields c.args.head.now.kind c.args.head.now.refs0 c.args.head.now.refs1 c.args.head.now.moved) ++ ((marking_fields c.args.head.now.idr c.args.head.now.kind) ++ (init_fields c.args.head.now.cabac c.args.head.now.kind ++ (qp_field c.args.head.now.qp ∷ []))))) (fields_bits (slice_fields c.args.head.now)) (parts c.args.out.now c.args.out.now (place_fields c.args.head.now) ((list_fields c.args.head.now.kind c.args.head.now.refs0 c.args.head.now.refs1 c.args.head.now.moved) ++ ((marking_fields c.args.head.now.idr c.args.head.now.kind) ++ (init_fields c.args.head.now.cabac c.args.head.now.kind ++ (qp_field c.args.head.now.qp ∷ [])))) (fields_bits (slice_fields c.args.head.now)) (going_start c.args.out.now (fields_bits (slice_fields c.args.head.now)))) c.in_ok-put_place.ensures.1)) c.in_err-put_lists.ensures)

pub returns-in_err-put_marking : goal.returns-in_err-put_marking
unfolding slice_fields
returns-in_err-put_marking c = let p = err_from_is_err_and c.from_residual-in_err-put_marking.result c.from_residual-in_err-put_marking.ensures.1 in rw (p.1)
    (stopped c.args.out.now c.put_lists.new.out c.put_marking.new.out (fields_bits (marking_fields c.args.head.now.idr c.args.head.now.kind)) (fields_bits (init_fields c.args.head.now.cabac c.args.head.now.kind ++ (qp_field c.args.head.now.qp ∷ []))) (fields_bits (slice_fields c.args.head.now)) (parts c.args.out.now c.put_lists.new.out (marking_fields c.args.head.now.idr c.args.head.now.kind) (init_fields c.args.head.now.cabac c.args.head.now.kind ++ (qp_field c.args.head.now.qp ∷ [])) (fields_bits (slice_fields c.args.head.now)) (going_more c.args.out.now c.put_place.new.out c.put_lists.new.out (fields_bits (list_fields c.args.head.now.kind c.args.head.now.refs0 c.args.head.now.refs1 c.args.head.now.moved)) (fields_bits ((marking_fields c.args.head.now.idr c.args.head.now.kind) ++ (init_fields c.args.head.now.cabac c.args.head.now.kind ++ (qp_field c.args.head.now.qp ∷ [])))) (fields_bits (slice_fields c.args.head.now)) (parts c.args.out.now c.put_place.new.out (list_fields c.args.head.now.kind c.args.head.now.refs0 c.args.head.now.refs1 c.args.head.now.moved) ((marking_fields c.args.head.now.idr c.args.head.now.kind) ++ (init_fields c.args.head.now.cabac c.args.head.now.kind ++ (qp_field c.args.head.now.qp ∷ []))) (fields_bits (slice_fields c.args.head.now)) (going_more c.args.out.now c.args.out.now c.put_place.new.out (fields_bits (place_fields c.args.head.now)) (fields_bits ((list_fields c.args.head.now.kind c.args.head.now.refs0 c.args.head.now.refs1 c.args.head.now.moved) ++ ((marking_fields c.args.head.now.idr c.args.head.now.kind) ++ (init_fields c.args.head.now.cabac c.args.head.now.kind ++ (qp_field c.args.head.now.qp ∷ []))))) (fields_bits (slice_fields c.args.head.now)) (parts c.args.out.now c.args.out.now (place_fields c.args.head.now) ((list_fields c.args.head.now.kind c.args.head.now.refs0 c.args.head.now.refs1 c.args.head.now.moved) ++ ((marking_fields c.args.head.now.idr c.args.head.now.kind) ++ (init_fields c.args.head.now.cabac c.args.head.now.kind ++ (qp_field c.args.head.now.qp ∷ [])))) (fields_bits (slice_fields c.args.head.now)) (going_start c.args.out.now (fields_bits (slice_fields c.args.head.now)))) c.in_ok-put_place.ensures.1)) c.in_ok-put_lists.ensures.1)) c.in_err-put_marking.ensures)

pub returns : goal.returns
unfolding slice_fields
returns c = last_grown c.args.out.now c.put_marking.new.out c.put_quantiser.new.out (fields_bits (init_fields c.args.head.now.cabac c.args.head.now.kind ++ (qp_field c.args.head.now.qp ∷ []))) (fields_bits (slice_fields c.args.head.now)) c.put_quantiser.result (going_more c.args.out.now c.put_lists.new.out c.put_marking.new.out (fields_bits (marking_fields c.args.head.now.idr c.args.head.now.kind)) (fields_bits (init_fields c.args.head.now.cabac c.args.head.now.kind ++ (qp_field c.args.head.now.qp ∷ []))) (fields_bits (slice_fields c.args.head.now)) (parts c.args.out.now c.put_lists.new.out (marking_fields c.args.head.now.idr c.args.head.now.kind) (init_fields c.args.head.now.cabac c.args.head.now.kind ++ (qp_field c.args.head.now.qp ∷ [])) (fields_bits (slice_fields c.args.head.now)) (going_more c.args.out.now c.put_place.new.out c.put_lists.new.out (fields_bits (list_fields c.args.head.now.kind c.args.head.now.refs0 c.args.head.now.refs1 c.args.head.now.moved)) (fields_bits ((marking_fields c.args.head.now.idr c.args.head.now.kind) ++ (init_fields c.args.head.now.cabac c.args.head.now.kind ++ (qp_field c.args.head.now.qp ∷ [])))) (fields_bits (slice_fields c.args.head.now)) (parts c.args.out.now c.put_place.new.out (list_fields c.args.head.now.kind c.args.head.now.refs0 c.args.head.now.refs1 c.args.head.now.moved) ((marking_fields c.args.head.now.idr c.args.head.now.kind) ++ (init_fields c.args.head.now.cabac c.args.head.now.kind ++ (qp_field c.args.head.now.qp ∷ []))) (fields_bits (slice_fields c.args.head.now)) (going_more c.args.out.now c.args.out.now c.put_place.new.out (fields_bits (place_fields c.args.head.now)) (fields_bits ((list_fields c.args.head.now.kind c.args.head.now.refs0 c.args.head.now.refs1 c.args.head.now.moved) ++ ((marking_fields c.args.head.now.idr c.args.head.now.kind) ++ (init_fields c.args.head.now.cabac c.args.head.now.kind ++ (qp_field c.args.head.now.qp ∷ []))))) (fields_bits (slice_fields c.args.head.now)) (parts c.args.out.now c.args.out.now (place_fields c.args.head.now) ((list_fields c.args.head.now.kind c.args.head.now.refs0 c.args.head.now.refs1 c.args.head.now.moved) ++ ((marking_fields c.args.head.now.idr c.args.head.now.kind) ++ (init_fields c.args.head.now.cabac c.args.head.now.kind ++ (qp_field c.args.head.now.qp ∷ [])))) (fields_bits (slice_fields c.args.head.now)) (going_start c.args.out.now (fields_bits (slice_fields c.args.head.now)))) c.in_ok-put_place.ensures.1)) c.in_ok-put_lists.ensures.1)) c.in_ok-put_marking.ensures.1) c.put_quantiser.ensures
