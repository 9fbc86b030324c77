use Rattle.std.proofs.Common.{◌∙◌, ap, length, arith, length-append}
use Rattle.spec_bits.specs.Bits.{bits_of_bytes}
use Rattle.spec_bits.specs.Units.{unit_bytes}
use Rattle.spec_bits.proofs.Digits.{length-bits_of_bytes}
use Rattle.bit_strings.specs.BitText.{BitText}
use Rattle.stored_picture.proofs.Fits.{appended}
use Rattle.stored_picture.proofs.Lengths.{length-unit_bytes}
use Rattle.stored_picture.proofs.access_unit.append_unit.Goals as goal

pub returns : goal.returns
returns c =
    let r = c.requires.room in
    let w = c.requires.whole in
    let u = unit_bytes c.args.long_start 3 c.args.kind c.args.payload.now in
    let l = length-unit_bytes c.args.long_start 3 c.args.kind c.args.payload.now in
    let b = length-bits_of_bytes u in
    let text = appended c.args.out.now c.unit.new.out (bits_of_bytes u) c.unit.result c.unit.ensures (omega (arith, l, b)) in
    let n = ap (λ (t : BitText). length t.text) text ∙ length-append c.args.out.now.text (bits_of_bytes u) in
    record { text = text; whole = omega (arith, n, b); length = omega (arith, n, b, l) }
