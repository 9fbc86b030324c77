use Rattle.std.proofs.Common.{ℕ, ◌≡◌, ◌%◌, ◌++◌, List, [], ◌∷◌, length, sym, append_assoc, Bool}
use Rattle.std.proofs.lemmas.Result.{err_from_is_err_and}
use Rattle.spec_bits.specs.Units.{escape, start_code}
use Rattle.bit_strings.specs.BitText.{BitText}
use Rattle.nal_writer.proofs.Pieces.{Going, going_start, going_same, going_more, last_grown, stopped}
use Rattle.nal_writer.proofs.units.put_unit.Goals as goal

-- all bytes are the head and then the payload's
parts : (old : BitText) (long : Bool) (header : ℕ) (body : List ℕ) → length old.text % 8 ≡ 0 → Going old old ((start_code long ++ (header ∷ [])) ++ body) (start_code long ++ (header ∷ body))
parts old long header body h =
    going_same old old (start_code long ++ (header ∷ body)) ((start_code long ++ (header ∷ [])) ++ body) (start_code long ++ (header ∷ body))
    (sym (append_assoc (start_code long) (header ∷ []) body)) (going_start old (start_code long ++ (header ∷ body)) h)

pub returns-in_err-put_head : goal.returns-in_err-put_head
returns-in_err-put_head c = let p = err_from_is_err_and c.from_residual.result c.from_residual.ensures.1 in rw (p.1)
    (stopped c.args.out.now c.args.out.now c.put_head.new.out (start_code c.args.long_start ++ (c.args.header ∷ [])) (escape 0 c.args.payload.now) (start_code c.args.long_start ++ (c.args.header ∷ escape 0 c.args.payload.now))
    (parts c.args.out.now c.args.long_start c.args.header (escape 0 c.args.payload.now) c.requires) c.in_err-put_head.ensures)

pub put_escaped-requires : goal.put_escaped-requires
put_escaped-requires c = (going_more c.args.out.now c.args.out.now c.put_head.new.out (start_code c.args.long_start ++ (c.args.header ∷ [])) (escape 0 c.args.payload.now) _
    (parts c.args.out.now c.args.long_start c.args.header (escape 0 c.args.payload.now) c.requires) c.in_ok-put_head.ensures.1).whole

pub returns : goal.returns
returns c = last_grown c.args.out.now c.put_head.new.out c.put_escaped.new.out (escape 0 c.args.payload.now) (start_code c.args.long_start ++ (c.args.header ∷ escape 0 c.args.payload.now)) c.put_escaped.result
    (going_more c.args.out.now c.args.out.now c.put_head.new.out (start_code c.args.long_start ++ (c.args.header ∷ [])) (escape 0 c.args.payload.now) _
    (parts c.args.out.now c.args.long_start c.args.header (escape 0 c.args.payload.now) c.requires) c.in_ok-put_head.ensures.1)
    c.put_escaped.ensures
