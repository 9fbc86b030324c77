use Rattle.std.proofs.Common.{arith}
use Rattle.picture_planes.proofs.Edging.{sides_more, top_more, bottom_more}
use Rattle.picture_planes.proofs.plane.Plane.pad_rows.Goals as goal

pub loop-y-preserved : goal.loop-y-preserved
loop-y-preserved c = sides_more c.args.self.now c.loop-y.self c.pad_row.new.self c.loop-y.y c.loop-y.auto.y c.loop-y-test.true c.loop-y.invariant c.pad_row.ensures

pub loop-above-preserved : goal.loop-above-preserved
loop-above-preserved c = top_more c.args.self.now c.loop-above.self c.copy_row.new.self c.loop-above.above c.loop-above-test.true c.args.self.now.size.2 c.loop-above.invariant c.copy_row.ensures

pub loop-below-preserved : goal.loop-below-preserved
loop-below-preserved c = bottom_more c.args.self.now c.loop-below.self c.copy_row-in-loop-below.new.self c.loop-below.below c.loop-below.auto.below (omega (arith, c.loop-below-test.true)) c.args.self.now.size.2 c.loop-below.invariant c.copy_row-in-loop-below.ensures
