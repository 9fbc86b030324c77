-- The best mode of a block.
use Rattle.std.specs.Prelude.{ℕ, Bool, List, ◌^◌, map}
use Rattle.std.specs.List.{range_with_len, filter}
use Rattle.enc_tables.specs.Choice.{first_least}
use Rattle.spec_choice.specs.declared.ModeCost.{ModeCost}

abbrev pub cost_of_mode : ModeCost → ℕ
cost_of_mode m = m.cost

-- no sum of absolute differences of a macroblock is as large
abbrev pub above_all : ModeCost
above_all = record { mode = 0; cost = 2 ^ 24 }

-- the modes below n with their costs, by rising number, and those of them that are allowed
abbrev pub with_cost : (ℕ → ℕ) → ℕ → ModeCost
with_cost cost m = record { mode = m; cost = cost m }

unfoldable pub allowed_modes : ℕ → (ℕ → Bool) → (ℕ → ℕ) → List ModeCost
allowed_modes n is_allowed cost = filter (λ (m : ModeCost). is_allowed m.mode) (map (with_cost cost) (range_with_len 0 n))

-- the first of them that costs least
unfoldable pub best_mode : ℕ → (ℕ → Bool) → (ℕ → ℕ) → ModeCost
best_mode n is_allowed cost = first_least cost_of_mode above_all (allowed_modes n is_allowed cost)
