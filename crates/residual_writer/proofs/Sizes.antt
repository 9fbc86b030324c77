-- The levels of a block, from the last one to the first.
use Rattle.std.proofs.Common.{◌≡◌, ℕ, zero, suc, ◌+◌, ◌-◌, ◌<◌, ◌≤◌, Bool, true, false, List, [], ◌∷◌, ◌++◌, refl, ap, arith, length, get_or, drop, map}
use Rattle.std.specs.Prelude.{ℤ, pos, negsuc, nat_abs}
use Rattle.std.proofs.lemmas.List.{drop_more}
use Rattle.spec_syntax.specs.declared.Bin.{Bin}
use Rattle.spec_syntax.specs.Syntax.{at}
use Rattle.spec_syntax.specs.Levels.{first_at, others_at, minus1_string}
use Rattle.spec_syntax.specs.Blocks.{none, nonzero, levels_string, level_string, above_one, equal_one, significance_string, block_string, some_levels_string}
use Rattle.spec_syntax.specs.Levels.{coded_at}
use Rattle.residual_writer.specs.Parts.{sized_string, negative, above_by, one_by}

level_is : (c : ℕ) (ls : List ℤ) (l : ℤ) → level_string c ls l ≡ sized_string c (above_one ls) (equal_one ls) (nat_abs l) (negative l)
unfolding level_string
level_is c ls (pos zero) = refl
level_is c ls (pos (suc m)) = refl
level_is c ls (negsuc m) = refl

above_is : (l : ℤ) (ls : List ℤ) → above_one (l ∷ ls) ≡ above_one ls + above_by (nat_abs l)
unfolding above_one
above_is (pos zero) ls = omega arith
above_is (pos (suc zero)) ls = omega arith
above_is (pos (suc (suc m))) ls = omega arith
above_is (negsuc zero) ls = omega arith
above_is (negsuc (suc m)) ls = omega arith

ones_is : (l : ℤ) (ls : List ℤ) → equal_one (l ∷ ls) ≡ equal_one ls + one_by (nat_abs l)
unfolding equal_one
ones_is (pos zero) ls = omega arith
ones_is (pos (suc zero)) ls = omega arith
ones_is (pos (suc (suc m))) ls = omega arith
ones_is (negsuc zero) ls = omega arith
ones_is (negsuc (suc m)) ls = omega arith

-- what a level adds is at most one of the two
pub few : (size : ℕ) → above_by size + one_by size ≤ 1
few zero = omega arith
few (suc zero) = omega arith
few (suc (suc n)) = omega arith

pub above_less : (ls : List ℤ) (i : ℕ) (d : ℤ) → 0 < i → i ≤ length ls → above_one (drop (i - 1) ls) ≡ above_one (drop i ls) + above_by (nat_abs (get_or ls (i - 1) d))
above_less ls i d h k = let e : i - 1 + 1 ≡ i = omega arith in rw (drop_more ls (i - 1) d (omega arith), e) (above_is (get_or ls (i - 1) d) (drop i ls))

pub ones_less : (ls : List ℤ) (i : ℕ) (d : ℤ) → 0 < i → i ≤ length ls → equal_one (drop (i - 1) ls) ≡ equal_one (drop i ls) + one_by (nat_abs (get_or ls (i - 1) d))
ones_less ls i d h k = let e : i - 1 + 1 ≡ i = omega arith in rw (drop_more ls (i - 1) d (omega arith), e) (ones_is (get_or ls (i - 1) d) (drop i ls))

pub levels_less : (c : ℕ) (ls : List ℤ) (i : ℕ) (d : ℤ) → 0 < i → i ≤ length ls
    → levels_string c (drop (i - 1) ls) ≡ levels_string c (drop i ls) ++ sized_string c (above_one (drop i ls)) (equal_one (drop i ls)) (nat_abs (get_or ls (i - 1) d)) (negative (get_or ls (i - 1) d))
unfolding levels_string
levels_less c ls i d h k = let e : i - 1 + 1 ≡ i = omega arith in rw (drop_more ls (i - 1) d (omega arith), e) (ap (λ (xs : List Bin). levels_string c (drop i ls) ++ xs) (level_is c (drop i ls) (get_or ls (i - 1) d)))

-- where no level is left
pub record Empty (c : ℕ) (ls : List ℤ) : Type 0 where
  pub string : levels_string c ls ≡ []
  pub above : above_one ls ≡ 0
  pub ones : equal_one ls ≡ 0

pub empty : (c : ℕ) (ls : List ℤ) → none (map nonzero ls) ≡ true → Empty c ls
unfolding none levels_string level_string above_one equal_one
empty c [] h = record { string = refl; above = refl; ones = refl }
empty c (pos zero ∷ ls) h = let r = empty c ls h in record { string = rw r.string refl; above = r.above; ones = r.ones }
empty c (pos (suc m) ∷ ls) h = absurd cc
empty c (negsuc m ∷ ls) h = absurd cc

pub sized_some : (c above e size : ℕ) (sign : Bool) → 0 < size → sized_string c above e size sign ≡ minus1_string (first_at c above e) (others_at c above) (size - 1) ++ at 1000 sign ∷ []
sized_some c above e zero sign h = absurd (omega arith)
sized_some c above e (suc m) sign h = let d : suc m - 1 ≡ m = omega arith in rw d refl

pub sized_none : (c above e size : ℕ) (sign : Bool) → size ≡ 0 → sized_string c above e size sign ≡ []
sized_none c above e size sign h = rw h refl

-- ---- whole blocks

pub block_some : (c inc n : ℕ) (ls : List ℤ) → none (map nonzero ls) ≡ false → block_string c inc n ls ≡ (at (coded_at c inc) true ∷ []) ++ (significance_string c 0 n (map nonzero ls) ++ levels_string c ls)
unfolding block_string
block_some c inc n ls h = rw (h, block_string) refl

pub block_none : (c inc n : ℕ) (ls : List ℤ) → none (map nonzero ls) ≡ true → block_string c inc n ls ≡ at (coded_at c inc) false ∷ []
unfolding block_string
block_none c inc n ls h = rw (h, block_string) refl

pub some_is : (c n : ℕ) (ls : List ℤ) → some_levels_string c n ls ≡ significance_string c 0 n (map nonzero ls) ++ levels_string c ls
unfolding some_levels_string
some_is c n ls = refl
