use Rattle.std.proofs.Common.{refl, arith}
use Rattle.spec_bits.proofs.Digits.{length-digits}
use Rattle.bit_strings.proofs.bit_buf.BitBuf.put.Goals as goal

pub returns-then-from-room_left : goal.returns-then-from-room_left
returns-then-from-room_left c = (omega (arith, length-digits c.args.n c.args.value, c.room_left.ensures, c.from.ensures), refl)

pub returns : goal.returns
returns c = (omega (arith, length-digits c.args.n c.args.value, c.room_left.ensures, c.from.ensures), c.append.ensures)
