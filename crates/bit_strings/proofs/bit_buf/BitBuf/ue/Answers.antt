use Rattle.std.proofs.Common.{ℕ, ◌≡◌, ◌+◌, ◌-◌, ◌*◌, ◌^◌, ◌<◌, ◌≤◌, ◌++◌, length, refl, sym, ap, ◌∙◌, arith, length-append}
use Rattle.spec_bits.specs.Bits.{digits}
use Rattle.spec_bits.specs.Golomb.{ue_bits}
use Rattle.spec_bits.proofs.Digits.{length-digits}
use Rattle.spec_bits.proofs.Codes.{ue_bits-digits}
use Rattle.bit_strings.proofs.Buffer.{two_more}
use Rattle.bit_strings.proofs.bit_buf.BitBuf.ue.Goals as goal

code_is : (value from z : ℕ) → from ≡ value → value < 2 ^ 32 - 1 → 2 ^ z ≤ from + 1 → from + 1 < 2 ^ (z + 1) → ue_bits value ≡ digits z 0 ++ digits (z + 1) (from + 1)
code_is value from z e small low high = ap ue_bits (sym e) ∙ ue_bits-digits from z (omega arith) low high

code_length : (value from z : ℕ) → from ≡ value → value < 2 ^ 32 - 1 → 2 ^ z ≤ from + 1 → from + 1 < 2 ^ (z + 1) → length (ue_bits value) ≡ 2 * z + 1
code_length value from z e small low high =
    ap length (code_is value from z e small low high) ∙ omega (arith, length-append (digits z 0) (digits (z + 1) (from + 1)), length-digits z 0, length-digits (z + 1) (from + 1))

pub returns-then-from-room_left : goal.returns-then-from-room_left
returns-then-from-room_left c =
    let z = c.zeros_before-zeros in
    (omega (arith, code_length c.args.value c.from-code.result z.result c.from-code.ensures c.requires z.ensures.from z.ensures.to, c.room_left.ensures, c.from.ensures), refl)

pub append-requires-2-clause-room : goal.append-requires-2-clause-room
append-requires-2-clause-room c =
    omega (arith, ap (λ t. length t.text) c.append.ensures, ap (λ t. t.room) c.append.ensures, length-append c.args.self.now.text (digits c.zeros_before-zeros.result 0), length-digits c.zeros_before-zeros.result 0, c.room_left.ensures, c.from.ensures)

pub returns : goal.returns
returns c =
    let z = c.zeros_before-zeros in (
      omega (arith, code_length c.args.value c.from-code.result z.result c.from-code.ensures c.requires z.ensures.from z.ensures.to, c.room_left.ensures, c.from.ensures),
      two_more c.args.self.now c.append.new.self c.append-2.new.self _ _ (ue_bits c.args.value) c.append.ensures c.append-2.ensures
          (code_is c.args.value c.from-code.result z.result c.from-code.ensures c.requires z.ensures.from z.ensures.to),
    )
