-- Parts of the string of a residual block.
use Rattle.std.specs.Prelude.{◌≡◌, ℕ, zero, suc, ◌+◌, ◌<◌, Bool, true, false, List, [], ◌∷◌, ◌++◌, map, length, get_or, drop, ℤ, pos, negsuc}
use Rattle.spec_syntax.specs.declared.Bin.{Bin}
use Rattle.spec_syntax.specs.Syntax.{at}
use Rattle.spec_syntax.specs.Levels.{significant_at, last_at, first_at, others_at, minus1_string}
use Rattle.spec_syntax.specs.Blocks.{nonzero, none, IsLevel}

-- each is a level
abbrev pub AreLevels : List ℤ → Type 0
AreLevels ls = (i : ℕ) → IsLevel (get_or ls i (pos 0))

-- the flags of a place before that of the last level
abbrev pub place_string : ℕ → ℕ → Bool → List Bin
place_string category i true = at (significant_at category i) true ∷ at (last_at category i) false ∷ []
place_string category i false = at (significant_at category i) false ∷ []

-- the place of the last level that isn't 0
pub record IsLast (ls : List ℤ) (last : ℕ) : Type 0 where
  pub within : last < length ls
  pub some : nonzero (get_or ls last (pos 0)) ≡ true
  pub others : none (map nonzero (drop (last + 1) ls)) ≡ true

abbrev pub negative : ℤ → Bool
negative (pos n) = false
negative (negsuc n) = true

-- a level by its size and whether it is below 0, after others
abbrev pub sized_string : ℕ → ℕ → ℕ → ℕ → Bool → List Bin
sized_string category above ones zero sign = []
sized_string category above ones (suc m) sign = minus1_string (first_at category above ones) (others_at category above) m ++ at 1000 sign ∷ []

-- what a level of this size adds to the levels above 1, and to those that are 1
abbrev pub above_by : ℕ → ℕ
above_by zero = 0
above_by (suc zero) = 0
above_by (suc (suc n)) = 1

abbrev pub one_by : ℕ → ℕ
one_by zero = 0
one_by (suc zero) = 1
one_by (suc (suc n)) = 0
