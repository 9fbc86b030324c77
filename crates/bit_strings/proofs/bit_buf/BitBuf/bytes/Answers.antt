use Rattle.std.proofs.Common.{◌≡◌, length, sym, ap, ◌∙◌, arith}
use Rattle.bit_strings.proofs.Buffer.{length-filled, filled-whole}
use Rattle.spec_bits.specs.Bits.{bits_of_bytes}
use Rattle.spec_bits.proofs.Digits.{bytes_by_bits}
use Rattle.bit_strings.proofs.bit_buf.BitBuf.bytes.Goals as goal

pub returns-clause-bits : goal.returns-clause-bits
returns-clause-bits c =
    let f = c.self.inside in
    let z : f.used ≡ 0 = omega (arith, length-filled f.bytes.items f.used f.begun, ap (λ t. length t.text) c.self.view_is) in
    ap bits_of_bytes c.as_slice-bytes.ensures.value ∙ sym (filled-whole f.bytes.items f.used f.begun z) ∙ ap (λ t. t.text) c.self.view_is

pub returns-clause-bytes : goal.returns-clause-bytes
returns-clause-bytes c =
    let f = c.self.inside in
    let z : f.used ≡ 0 = omega (arith, length-filled f.bytes.items f.used f.begun, ap (λ t. length t.text) c.self.view_is) in
    bytes_by_bits c.as_slice-bytes.result.now c.args.self.now.text
    c.are_bytes.ensures
    (ap bits_of_bytes c.as_slice-bytes.ensures.value ∙ sym (filled-whole f.bytes.items f.used f.begun z) ∙ ap (λ t. t.text) c.self.view_is)
