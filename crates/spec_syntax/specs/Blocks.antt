-- A residual block (ITU-T H.264, clause 7.3.5.3.3): which places have a level, and then the levels from the last to the first.
use Rattle.std.specs.Prelude.{ℕ, zero, suc, ◌≤◌, Bool, true, false, List, [], ◌∷◌, ◌++◌, map, replicate, nat_abs, ℤ, pos, negsuc}
use Rattle.spec_syntax.specs.declared.Bin.{Bin}
use Rattle.spec_syntax.specs.Syntax.{Syntax, done, ◌>>=◌, bin, at}
use Rattle.spec_syntax.specs.Levels.{coded_at, significant_at, last_at, first_at, others_at, minus1, minus1_string}

-- a level whose size is at most 8191
abbrev pub IsLevel : ℤ → Type 0
IsLevel l = nat_abs l ≤ 8191

abbrev pub nonzero : ℤ → Bool
nonzero (pos zero) = false
nonzero (pos (suc m)) = true
nonzero (negsuc m) = true

-- how many levels are above 1 in size, and how many are 1
unfoldable pub above_one : List ℤ → ℕ
above_one [] = 0
above_one (pos zero ∷ ls) = above_one ls
above_one (pos (suc zero) ∷ ls) = above_one ls
above_one (pos (suc (suc m)) ∷ ls) = suc (above_one ls)
above_one (negsuc zero ∷ ls) = above_one ls
above_one (negsuc (suc m) ∷ ls) = suc (above_one ls)

unfoldable pub equal_one : List ℤ → ℕ
equal_one [] = 0
equal_one (pos zero ∷ ls) = equal_one ls
equal_one (pos (suc zero) ∷ ls) = suc (equal_one ls)
equal_one (pos (suc (suc m)) ∷ ls) = equal_one ls
equal_one (negsuc zero ∷ ls) = suc (equal_one ls)
equal_one (negsuc (suc m) ∷ ls) = equal_one ls

-- ---- reading

-- which of the places from i on have a level, where one of them has; so many places follow the place i
unfoldable pub significance : ℕ → ℕ → ℕ → Syntax (List Bool)
significance category i zero = done (true ∷ [])
significance category i (suc n) = do
  here ← bin (significant_at category i)
  elim here [
    | false ↦ significance category (suc i) n >>= λ rest. done (false ∷ rest)
    | true ↦ do
      last ← bin (last_at category i)
      elim last [ true ↦ done (true ∷ replicate (suc n) false) | false ↦ significance category (suc i) n >>= λ rest. done (true ∷ rest) ]
  ]

abbrev pub signed : Bool → ℕ → ℤ
signed false m = pos (suc m)
signed true m = negsuc m

-- the levels of these places, the last one first
unfoldable pub levels : ℕ → List Bool → Syntax (List ℤ)
levels category [] = done []
levels category (false ∷ flags) = levels category flags >>= λ higher. done (pos 0 ∷ higher)
levels category (true ∷ flags) = do
  higher ← levels category flags
  m ← minus1 (first_at category (above_one higher) (equal_one higher)) (others_at category (above_one higher))
  sign ← bin 1000
  done (signed sign m ∷ higher)

-- a block of suc n places that is known to have a level, as an 8x8 block has
unfoldable pub some_levels : ℕ → ℕ → Syntax (List ℤ)
some_levels category n = significance category 0 n >>= λ flags. levels category flags

-- a block of suc n places
unfoldable pub block : ℕ → ℕ → ℕ → Syntax (List ℤ)
block category inc n = do
  coded ← bin (coded_at category inc)
  elim coded [ false ↦ done (replicate (suc n) (pos 0)) | true ↦ significance category 0 n >>= λ flags. levels category flags ]

-- ---- strings

-- no flag is set
unfoldable pub none : List Bool → Bool
none [] = true
none (true ∷ fs) = false
none (false ∷ fs) = none fs

unfoldable pub significance_string : ℕ → ℕ → ℕ → List Bool → List Bin
significance_string category i zero fs = []
significance_string category i (suc n) [] = []
significance_string category i (suc n) (false ∷ fs) = at (significant_at category i) false ∷ significance_string category (suc i) n fs
significance_string category i (suc n) (true ∷ fs) = at (significant_at category i) true ∷ at (last_at category i) (none fs) ∷ elim (none fs) [ true ↦ [] | false ↦ significance_string category (suc i) n fs ]

-- a level, after those above it
unfoldable pub level_string : ℕ → List ℤ → ℤ → List Bin
level_string category higher (pos zero) = []
level_string category higher (pos (suc m)) = minus1_string (first_at category (above_one higher) (equal_one higher)) (others_at category (above_one higher)) m ++ at 1000 false ∷ []
level_string category higher (negsuc m) = minus1_string (first_at category (above_one higher) (equal_one higher)) (others_at category (above_one higher)) m ++ at 1000 true ∷ []

unfoldable pub levels_string : ℕ → List ℤ → List Bin
levels_string category [] = []
levels_string category (l ∷ ls) = levels_string category ls ++ level_string category ls l

unfoldable pub some_levels_string : ℕ → ℕ → List ℤ → List Bin
some_levels_string category n ls = significance_string category 0 n (map nonzero ls) ++ levels_string category ls

unfoldable pub block_string : ℕ → ℕ → ℕ → List ℤ → List Bin
block_string category inc n ls = elim (none (map nonzero ls)) [
  | true ↦ at (coded_at category inc) false ∷ []
  | false ↦ at (coded_at category inc) true ∷ (significance_string category 0 n (map nonzero ls) ++ levels_string category ls)
]
