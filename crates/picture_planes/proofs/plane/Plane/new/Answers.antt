use Rattle.picture_planes.proofs.SampleLaws.{blank_samples}
use Rattle.picture_planes.proofs.plane.Plane.new.Goals as goal

pub returns-clause-samples : goal.returns-clause-samples
returns-clause-samples c = blank_samples _ _ (c.in_ok-bytes.ensures.items_if_clones_equal (λ y same. same))
