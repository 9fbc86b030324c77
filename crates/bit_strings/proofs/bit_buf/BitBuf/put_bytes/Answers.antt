use Rattle.std.proofs.Common.{◌≡◌, ◌+◌, ◌*◌, ◌≤◌, ◌++◌, length, refl, ap, ◌∙◌, arith, vec_len}
use Rattle.spec_bits.specs.Bits.{bits_of_bytes}
use Rattle.spec_bits.proofs.Digits.{length-bits_of_bytes}
use Rattle.bit_strings.specs.BitText.{filled}
use Rattle.bit_strings.proofs.Buffer.{same_text, length-filled, filled-bytes}
use Rattle.bit_strings.proofs.bit_buf.BitBuf.put_bytes.Goals as goal

pub returns-then-bytes-room_left : goal.returns-then-bytes-room_left
returns-then-bytes-room_left c = (omega (arith, length-bits_of_bytes c.args.bytes.now, c.room_left.ensures), refl)

pub extend-requires : goal.extend-requires
extend-requires c =
    let f = c.self.inside in
    omega (arith, length-filled f.bytes.items f.used f.begun, ap (λ t. length t.text) c.self.view_is, ap (λ t. t.room) c.self.view_is, c.room_left.ensures)

pub invariant_of-self : goal.invariant_of-self
invariant_of-self c =
    let f = c.self.inside in
    let r = c.extend.ensures in
    let room : 8 * (vec_len f.bytes + length c.args.bytes.now) + f.used ≤ f.room =
    omega (arith, length-filled f.bytes.items f.used f.begun, ap (λ t. length t.text) c.self.view_is, ap (λ t. t.room) c.self.view_is, c.room_left.ensures) in
    (c.self.invariant.0, c.self.invariant.1, omega (arith, room, r.len), c.self.invariant.3, omega (arith, r.capacity, c.self.invariant.4), c.self.invariant.5)

pub returns : goal.returns
returns c =
    let f = c.self.inside in
    let z : f.used ≡ 0 = omega (arith, length-filled f.bytes.items f.used f.begun, ap (λ t. length t.text) c.self.view_is) in (
      omega (arith, length-bits_of_bytes c.args.bytes.now, c.room_left.ensures),
      same_text _ _ _ _ _ _
          (ap (λ items. filled items f.used f.begun) c.extend.ensures.items ∙ filled-bytes f.bytes.items c.args.bytes.now f.used f.begun z ∙ ap (λ t. t.text ++ bits_of_bytes c.args.bytes.now) c.self.view_is)
          (ap (λ t. t.room) c.self.view_is) (ap (λ t. t.made) c.self.view_is),
    )
