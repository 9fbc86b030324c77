-- Planes as buffers with margins, and the filter on them.
use Rattle.std.specs.Prelude.{◌≡◌, ℕ, ◌+◌, ◌*◌}
use Rattle.picture_planes.specs.declared.plane.Plane.{Plane}
use Rattle.picture_planes.specs.declared.picture.Picture.{Picture}
use Rattle.picture_planes.specs.Samples.{buffer}
use Rattle.picture_planes.specs.Pictures.{SameShapes}
use Rattle.spec_filter.specs.declared.Layout.{Layout}
use Rattle.spec_filter.specs.declared.MbEdges.{MbEdges}
use Rattle.spec_filter.specs.Pictures.{luma_filtered, chroma_filtered}

-- where a plane's samples stand in its buffer
abbrev pub layout_of : Plane → Layout
layout_of p = record { origin = p.pad * (p.width + 2 * p.pad) + p.pad; stride = p.width + 2 * p.pad }

-- the first n macroblocks of all planes are filtered, of which a row has `width`
pub record FilteredTo (edges : ℕ → MbEdges) (width n : ℕ) (old new : Picture) : Type 0 where
  pub shapes : SameShapes old new
  pub luma : buffer new.y ≡ luma_filtered edges width (layout_of old.y) n (buffer old.y)
  pub cb : buffer new.cb ≡ chroma_filtered edges width (layout_of old.cb) n (buffer old.cb)
  pub cr : buffer new.cr ≡ chroma_filtered edges width (layout_of old.cr) n (buffer old.cr)
