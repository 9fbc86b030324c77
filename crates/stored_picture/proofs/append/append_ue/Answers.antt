use Rattle.spec_bits.specs.Golomb.{ue_bits}
use Rattle.stored_picture.proofs.Fits.{appended}
use Rattle.stored_picture.proofs.append.append_ue.Goals as goal

pub returns : goal.returns
returns c = appended c.args.out.now c.ue.new.self (ue_bits c.args.value) c.ue.result c.ue.ensures (c.requires.room)
