use Rattle.inter_coder.proofs.Around.{last_half}
use Rattle.inter_coder.proofs.fields.part_field.Goals as goal

pub returns : goal.returns
returns c view h = last_half view c.args.motion.now c.lower_half.result c.args.shape c.args.part c.requires.shape c.requires.part c.if-shape-eq3.false c.if-part-eq0.false c.if-shape-eq2-2.false (c.lower_half.ensures view h)
