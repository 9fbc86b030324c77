use Rattle.slice_coder.proofs.Going.{plain_none}
use Rattle.slice_coder.proofs.write.write_no_end.Goals as goal

pub returns-else-n-gt0 : goal.returns-else-n-gt0
returns-else-n-gt0 c = plain_none c.args.n c.args.coder.now c.if-n-gt0.false c.requires
