use Rattle.std.proofs.Common.{◌≡◌, ◌*◌, ℕ, List, Bool, ◌++◌, ap, arith, ◌∙◌, append_assoc, append-nil, sym, cond}
use Rattle.bit_strings.specs.BitText.{BitText}
use Rattle.spec_bits.specs.Bits.{digits}
use Rattle.cabac_coder.specs.Emitted.{run_of}
use Rattle.cabac_coder.proofs.OneByte.{run_more, length-behind}
use Rattle.cabac_coder.proofs.pending.put_run.Goals as goal

with_text : BitText → List Bool → BitText
with_text b t = record { text = t; room = b.room; made = b.made }

none : (v : ℕ) (t : List Bool) → t ≡ t ++ digits 0 v
unfolding digits
none v t = sym (append-nil t)

pub loop-i-init : goal.loop-i-init
unfolding with_text
loop-i-init c = ap (with_text c.args.buf.now) (none (run_of c.args.carry 0) c.args.buf.now.text)

pub put_digits-requires-clause-room : goal.put_digits-requires-clause-room
put_digits-requires-clause-room c =
    let l = length-behind c.args.buf.now.text (8 * c.loop-i.i) (run_of c.args.carry c.loop-i.i) in
    rw c.loop-i.invariant (omega (arith, l, c.loop-i-test.true))

pub loop-i-preserved : goal.loop-i-preserved
unfolding with_text
loop-i-preserved c =
    rw (c.put_digits.ensures, c.run_byte-byte.ensures, c.loop-i.invariant)
    (ap (with_text c.args.buf.now) (append_assoc c.args.buf.now.text (digits (8 * c.loop-i.i) (run_of c.args.carry c.loop-i.i)) (digits 8 (cond c.args.carry 0 255))
    ∙ ap (λ t. c.args.buf.now.text ++ t) (run_more c.args.carry c.loop-i.i)))
