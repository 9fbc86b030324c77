use Rattle.std.proofs.Common.{arith}
use Rattle.spec_bits.specs.Bits.{digits}
use Rattle.spec_bits.proofs.Digits.{length-digits}
use Rattle.stored_picture.proofs.Fits.{appended}
use Rattle.stored_picture.proofs.append.append.Goals as goal

pub returns : goal.returns
returns c = appended c.args.out.now c.put.new.self (digits c.args.n c.args.value) c.put.result c.put.ensures (let r = c.requires.room in omega (arith, length-digits c.args.n c.args.value))
