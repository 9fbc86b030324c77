-- What a round has found after its first turns.
use Rattle.std.specs.Prelude.{ℕ, ◌≡◌}
use Rattle.enc_tables.specs.declared.records.Vector.{Vector}
use Rattle.spec_search.specs.Least.{IsFirstLeast}
use Rattle.spec_search.specs.Refine.{turned}

pub record Round (cost : Vector → ℕ) (centre : Vector) (step n : ℕ) (best : Vector) (least : ℕ) : Type 0 where
  pub turn : ℕ
  pub first_least : IsFirstLeast (λ k. cost (turned centre step k)) n turn
  pub stands : best ≡ turned centre step turn
  pub is_cost : least ≡ cost best
