use Rattle.std.proofs.Common.{◌≡◌, ◌-◌, ◌%◌, length, ap, subst, arith}
use Rattle.spec_bits.proofs.Codes.{trail_bits-digits}
use Rattle.bit_strings.specs.BitText.{Appends}
use Rattle.bit_strings.proofs.Buffer.{length-filled}
use Rattle.std.proofs.Math.Pow.{pow-lt}
use Rattle.bit_strings.proofs.bit_buf.BitBuf.trail.Goals as goal

pub put-requires-clause-below : goal.put-requires-clause-below
put-requires-clause-below c = rw c.top_bit.ensures (pow-lt (omega arith))

pub returns : goal.returns
returns c =
    let f = c.self.inside in
    let z : 7 - f.used ≡ 7 - length c.args.self.now.text % 8 = omega (arith, length-filled f.bytes.items f.used f.begun, ap (λ t. length t.text) c.self.view_is) in
    subst (λ bits. Appends c.args.self.now c.put.new.self bits c.put.result) (trail_bits-digits (length c.args.self.now.text) (7 - f.used) c.top_bit.result z c.top_bit.ensures) c.put.ensures
