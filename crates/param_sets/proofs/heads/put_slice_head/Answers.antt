use Rattle.std.proofs.Common.{◌≡◌, ◌++◌, List, [], length, refl, sym, ap, ◌∙◌}
use Rattle.std.specs.Prelude.{replicate, true, false, Bool, if◌then◌else◌}
use Rattle.std.proofs.lemmas.Result.{err_from_is_err_and}
use Rattle.spec_bits.specs.Golomb.{to_byte}
use Rattle.spec_bits.specs.Fields.{fields_bits}
use Rattle.spec_headers.specs.HeadFields.{slice_fields, slice_head_bits}
use Rattle.std.proofs.Common.{append-nil}
use Rattle.spec_headers.specs.declared.heads.SliceHead.{SliceHead}
use Rattle.bit_strings.specs.BitText.{BitText}
use Rattle.param_sets.proofs.Steps.{Going, going_start, going_same, going_more, stopped, last_grown, grown, same_bits}
use Rattle.param_sets.proofs.heads.put_slice_head.Goals as goal

-- behind the fields the length is that of the fields
ones_here : (old now : List Bool) (fields : List Bool) (cabac : Bool) → old ≡ [] → now ≡ old ++ fields → replicate (if cabac then to_byte (length now) else 0) true ≡ replicate (if cabac then to_byte (length fields) else 0) true
ones_here old now fields cabac e h = ap (λ t. replicate (if cabac then to_byte (length t) else 0) true) (h ∙ ap (λ o. o ++ fields) e)

whole_bits : (fields : List Bool) (cabac : Bool) → fields ++ replicate (if cabac then to_byte (length fields) else 0) true ≡ (if cabac then fields ++ replicate (to_byte (length fields)) true else fields)
whole_bits fields true = refl
whole_bits fields false = append-nil fields

begun : (old : BitText) (head : SliceHead) → Going old old (fields_bits (slice_fields head) ++ replicate (if head.cabac then to_byte (length (fields_bits (slice_fields head))) else 0) true) (slice_head_bits head)
unfolding slice_head_bits
begun old head = going_same old old (slice_head_bits head) _ (slice_head_bits head) (sym (whole_bits (fields_bits (slice_fields head)) head.cabac)) (going_start old (slice_head_bits head))

pub returns-in_err-put_slice_fields : goal.returns-in_err-put_slice_fields
returns-in_err-put_slice_fields c = let p = err_from_is_err_and c.from_residual.result c.from_residual.ensures.1 in rw (p.1)
    (stopped c.args.out.now c.args.out.now c.put_slice_fields.new.out (fields_bits (slice_fields c.args.head.now)) _ (slice_head_bits c.args.head.now) (begun c.args.out.now c.args.head.now) c.in_err-put_slice_fields.ensures)

pub returns : goal.returns
returns c =
    let now = c.put_slice_fields.new.out in
    last_grown c.args.out.now now c.put_ones.new.out _ (slice_head_bits c.args.head.now) c.put_ones.result
    (going_more c.args.out.now c.args.out.now now (fields_bits (slice_fields c.args.head.now)) _ (slice_head_bits c.args.head.now) (begun c.args.out.now c.args.head.now) c.in_ok-put_slice_fields.ensures.1)
    (same_bits now c.put_ones.new.out _ _ c.put_ones.result (ones_here c.args.out.now.text now.text (fields_bits (slice_fields c.args.head.now)) c.args.head.now.cabac c.requires.empty (ap (λ t. t.text) c.in_ok-put_slice_fields.ensures.1)) (grown now c.put_ones.new.out _ c.put_ones.result c.put_ones.ensures))
