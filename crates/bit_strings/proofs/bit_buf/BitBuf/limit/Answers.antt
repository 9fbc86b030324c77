use Rattle.std.proofs.Common.{◌≤◌, length, sym, subst, arith}
use Rattle.bit_strings.specs.BitText.{BitText}
use Rattle.bit_strings.proofs.Buffer.{length-filled}
use Rattle.bit_strings.proofs.bit_buf.BitBuf.limit.Goals as goal

pub invariant_of-self : goal.invariant_of-self
invariant_of-self c =
    let f = c.self.inside in
    let k = subst (λ (t : BitText). length t.text ≤ c.args.bits) (sym c.self.view_is) c.requires.above in
    let m = subst (λ (t : BitText). c.args.bits ≤ t.made) (sym c.self.view_is) c.requires.made in
    omega (arith, k, m, length-filled f.bytes.items f.used f.begun, c.self.invariant)
