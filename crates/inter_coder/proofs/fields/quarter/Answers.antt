use Rattle.inter_coder.proofs.Around.{last_quarter}
use Rattle.inter_coder.proofs.fields.quarter.Goals as goal

pub returns : goal.returns
returns c view h = last_quarter view c.args.motion.now c.args.part c.lower_right.result c.requires c.if-part-eq0.false c.if-part-eq1.false c.if-part-eq2.false (c.lower_right.ensures view)
