use Rattle.picture_coder.proofs.MemorySizes.{made_whole}
use Rattle.picture_coder.proofs.memory.blank_reference.Goals as goal

pub returns : goal.returns
returns c = made_whole c.new.result c.args.across c.args.down c.new.ensures
