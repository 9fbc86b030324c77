use Rattle.std.proofs.Common.{◌≡◌, ◌-◌, ◌+◌, arith}
use Rattle.picture_planes.specs.Samples.{samples_of}
use Rattle.spec_intra.specs.Near.{plane_sample}
use Rattle.plane_blocks.proofs.NearLaws.{above_is, there_is_none}
use Rattle.plane_blocks.proofs.near.above.Goals as goal

pub returns-then-there : goal.returns-then-there
returns-then-there g c =
    let k : c.args.x + g.row.N - c.args.x ≡ g.row.N = omega arith in
    above_is c.args.plane.now c.args.there g.row.N c.args.x c.args.y (c.args.x + g.row.N - c.args.x) c.row-row.result.now _ c.if-there.true
    (c.requires.row c.if-there.true) (c.requires.inside c.if-there.true) (c.requires.columns c.if-there.true) k c.row-row.ensures.value c.copy_from_slice.ensures.after

pub returns-else-there : goal.returns-else-there
returns-else-there g c = there_is_none c.args.there g.row.N (λ k. plane_sample c.args.plane.now.width (samples_of c.args.plane.now) (c.args.x + k) (c.args.y - 1)) c.if-there.false
