use Rattle.std.proofs.Common.{◌<◌, arith}
use Rattle.spec_filter.specs.Macroblocks.{vertical_strength}
use Rattle.deblock.proofs.Folds.{strengths_are}
use Rattle.deblock.proofs.Intra.{intra_vertical}
use Rattle.deblock.proofs.strengths.vertical_strengths.Goals as goal

pub returns-then-is_intra : goal.returns-then-is_intra
returns-then-is_intra c = intra_vertical c.args.pictures0.now c.args.pictures1.now c.args.before.now c.args.mb.now (cc)

pub returns : goal.returns
returns c =
    strengths_are (vertical_strength c.args.pictures0.now c.args.pictures1.now c.args.before.now c.args.mb.now) c.loop-i.out c.loop-i.invariant.long
    (λ i h. let more : i < c.loop-i.i = omega arith in c.loop-i.invariant.so_far i more)
