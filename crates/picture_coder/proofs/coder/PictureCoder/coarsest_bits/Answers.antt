use Rattle.std.proofs.Common.{false, List, length, ap, ◌∙◌}
use Rattle.spec_slice_payload.specs.Layer.{Slice}
use Rattle.picture_coder.specs.Units.{bits_for}
use Rattle.picture_coder.specs.Coders.{shape_for}
use Rattle.picture_coder.proofs.OwnSizes.{coarsest_is}
use Rattle.picture_coder.proofs.coder.PictureCoder.coarsest_bits.Goals as goal

pub returns-clause-bits : goal.returns-clause-bits
returns-clause-bits g c =
    c.count_units-bits.ensures.bits ∙ ap (λ (ss : List Slice). length (bits_for (shape_for c.args.self.now c.args.job.now) false c.args.job.now.step ss)) (coarsest_is c.args.self.now c.args.job.now c.requires.plain)
