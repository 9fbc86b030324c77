-- Costs and bounds of a macroblock's sub-macroblocks over planes, at the places of the scan.
use Rattle.std.specs.Prelude.{ℕ}
use Rattle.spec_search.specs.Window.{scanned}
use Rattle.picture_planes.specs.declared.plane.Plane.{Plane}
use Rattle.motion_search.specs.Planes.{costs, bounds}
use Rattle.nine_search.specs.Partitions.{sub_macroblock}

abbrev pub sub_costs : Plane → Plane → ℕ → ℕ → ℕ → ℕ → ℕ
sub_costs source reference x y q = scanned (costs source reference (sub_macroblock x y q))

abbrev pub sub_bounds : Plane → Plane → ℕ → ℕ → ℕ → ℕ → ℕ
sub_bounds source reference x y q = scanned (bounds source reference (sub_macroblock x y q))
