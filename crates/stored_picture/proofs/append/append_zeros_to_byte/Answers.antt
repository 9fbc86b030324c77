use Rattle.std.proofs.Common.{length, arith}
use Rattle.spec_bits.specs.Golomb.{align_bits}
use Rattle.stored_picture.proofs.Fits.{appended, length-align_bits}
use Rattle.stored_picture.proofs.append.append_zeros_to_byte.Goals as goal

pub returns : goal.returns
returns c = appended c.args.out.now c.align.new.self (align_bits (length c.args.out.now.text)) c.align.result c.align.ensures (let r = c.requires.room in omega (arith, length-align_bits (length c.args.out.now.text)))
