-- The first least of a list of costs, and the places that have to be compared where each cost has a bound below it.
use Rattle.std.specs.Prelude.{ℕ, zero, suc, min, nat_lt, if◌then◌else◌, ◌+◌, ◌<◌, ◌≤◌, ◌≡◌, Bool, true}

-- the least of the costs of the first n places
abbrev pub least : (ℕ → ℕ) → ℕ → ℕ
least cost zero = 0
least cost (suc zero) = cost 0
least cost (suc (suc n)) = min (least cost (suc n)) (cost (suc n))

-- of the first n places this one is the first that has the least cost
pub record IsFirstLeast (cost : ℕ → ℕ) (n place : ℕ) : Type 0 where
  pub inside : place < n
  pub is_least : (other : ℕ) → other < n → cost place ≤ cost other
  pub is_first : (other : ℕ) → other < place → cost place < cost other

-- a place is compared where it is the first or its bound is below the least cost of all places before it
abbrev pub is_compared : (ℕ → ℕ) → (ℕ → ℕ) → ℕ → Bool
is_compared cost bound zero = true
is_compared cost bound (suc n) = nat_lt (bound (suc n)) (least cost (suc n))

-- how many of the first n places are compared
abbrev pub compared_of : (ℕ → ℕ) → (ℕ → ℕ) → ℕ → ℕ
compared_of cost bound zero = 0
compared_of cost bound (suc n) = compared_of cost bound n + (if is_compared cost bound n then 1 else 0)

-- what a search by elimination knows after the first n places
pub record Searched (cost bound : ℕ → ℕ) (n place size compared : ℕ) : Type 0 where
  pub first_least : IsFirstLeast cost n place
  pub is_cost : size ≡ cost place
  pub lowest : least cost n ≡ cost place
  pub count : compared ≡ compared_of cost bound n
