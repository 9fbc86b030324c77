use Rattle.std.proofs.Common.{◌+◌, ◌≤◌, List, Bool, length, Result, Ok, Err, IsOk, arith, refl}
use Rattle.bit_strings.specs.BitText.{BitText, Appends}
use Rattle.spec_bits.proofs.Digits.{length-digits}
use Rattle.cabac_coder.proofs.pending.put_digits.Goals as goal

fits : {E : Type 0} (old new : BitText) (more : List Bool) (r : Result (Unit {0}) E) → Appends old new more r → length old.text + length more ≤ old.room → IsOk r
fits old new more (Ok v) h k = refl
fits old new more (Err e) h k = absurd (omega (arith, h.0))

pub unwrap-requires : goal.unwrap-requires
unwrap-requires c = fits _ _ _ c.put.result c.put.ensures (let l = length-digits c.args.size c.args.value in omega (arith, l, c.requires.room))
