use Rattle.std.proofs.Common.{◌∙◌}
use Rattle.picture_planes.proofs.Filling.{samples_same, filled_same}
use Rattle.picture_planes.proofs.plane.Plane.copy_from.Goals as goal

pub returns-clause-samples : goal.returns-clause-samples
returns-clause-samples c = samples_same c.args.other.now _ c.requires (c.copy_from_slice.ensures.items ∙ c.as_slice.ensures.value)

pub returns-clause-filled : goal.returns-clause-filled
returns-clause-filled c = filled_same c.args.other.now _ c.requires (c.copy_from_slice.ensures.items ∙ c.as_slice.ensures.value)
