-- What the lanes of a vector hold.
use Rattle.std.specs.Prelude.{ℕ, List, ◌≤◌}
use Rattle.std.specs.Simd.Lanes.{sum_l, Each1}

-- the sum of the lanes
abbrev pub lane_sum : List ℕ → ℕ
lane_sum lanes = sum_l lanes

-- no lane is above b
abbrev pub AllAtMost : ℕ → List ℕ → Type 0
AllAtMost b lanes = Each1 (λ lane. lane ≤ b) lanes
