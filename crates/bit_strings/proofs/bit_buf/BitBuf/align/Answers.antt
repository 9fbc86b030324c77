use Rattle.std.proofs.Common.{length, subst}
use Rattle.spec_bits.proofs.Codes.{align_bits-digits}
use Rattle.bit_strings.specs.BitText.{Appends}
use Rattle.bit_strings.proofs.bit_buf.BitBuf.align.Goals as goal

pub returns : goal.returns
returns c =
    subst (λ bits. Appends c.args.self.now c.put.new.self bits c.put.result) (align_bits-digits (length c.args.self.now.text) c.bits_to_byte.result c.bits_to_byte.ensures) c.put.ensures
