use Rattle.inter_coder.proofs.Alike.{vectors_alike, motion_alike}
use Rattle.inter_coder.proofs.blocks.is_same.Goals as goal

pub returns : goal.returns
returns c e = motion_alike _ vectors_alike c.args.a.now c.args.b.now c.eq.result c.eq.ensures e
