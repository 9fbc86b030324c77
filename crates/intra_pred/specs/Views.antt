-- What edges and planes have at each place.
use Rattle.std.specs.Prelude.{ℕ, slice_index}
use Rattle.intra_pred.specs.declared.directions.Edge.{Edge}
use Rattle.intra_pred.specs.declared.planes.Plane.{Plane}
use Rattle.spec_intra.specs.Slopes.{plane_at}

abbrev pub edge_of : Edge → ℕ → ℕ
edge_of e = λ j. slice_index e.samples.now j

abbrev pub plane_view : Plane → ℕ → ℕ → ℕ
plane_view p = plane_at p.h p.ends p.b p.c
