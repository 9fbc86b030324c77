use Rattle.std.proofs.Common.{arith}
use Rattle.spec_bits.specs.Bits.{bits_of_bytes}
use Rattle.spec_bits.proofs.Digits.{length-bits_of_bytes}
use Rattle.stored_picture.proofs.Fits.{appended}
use Rattle.spec_bits.specs.Bits.{IsByte}
use Rattle.std.proofs.lemmas.List.Elements.{All-from_get_or}
use Rattle.stored_picture.proofs.append.append_bytes.Goals as goal

pub returns-clause-text : goal.returns-clause-text
returns-clause-text c = appended c.args.out.now c.put_bytes.new.self (bits_of_bytes c.args.bytes.now) c.put_bytes.result c.put_bytes.ensures (let r = c.requires.room in omega (arith, length-bits_of_bytes c.args.bytes.now))

pub returns-clause-bytes : goal.returns-clause-bytes
returns-clause-bytes c = All-from_get_or IsByte c.args.bytes.now 0 (λ i below. let f = c.type_inv.bytes i in omega arith)
