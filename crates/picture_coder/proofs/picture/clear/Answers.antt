use Rattle.picture_planes.specs.Samples.{samples_of}
use Rattle.picture_coder.proofs.Sizes.{blank_is}
use Rattle.picture_coder.proofs.picture.clear.Goals as goal

pub returns-clause-blank : goal.returns-clause-blank
returns-clause-blank c across down wide high =
    blank_is across down c.args.picture.now (samples_of c.clear_plane.new.plane) (samples_of c.clear_plane-2.new.plane) (samples_of c.clear_plane-3.new.plane) wide high
    c.clear_plane.ensures.samples c.clear_plane-2.ensures.samples c.clear_plane-3.ensures.samples
