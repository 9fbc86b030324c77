-- What a search has found after the first places of the scan.
use Rattle.std.specs.Prelude.{ℕ, ℤ, ◌≡◌}
use Rattle.spec_search.specs.Scan.{spot_at}
use Rattle.spec_search.specs.Least.{Searched}
use Rattle.spec_search.specs.Window.{scanned}
use Rattle.motion_search.specs.declared.candidates.Found.{Found}

-- it found the first least of the first n places, and compared those that have to be
pub record Reached (cost bound : ℤ → ℤ → ℕ) (n : ℕ) (found : Found) : Type 0 where
  pub place : ℕ
  pub stands : found.spot ≡ spot_at place
  pub known : Searched (scanned cost) (scanned bound) n place found.sad found.compared
