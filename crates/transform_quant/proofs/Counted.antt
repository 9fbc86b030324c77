-- One level more of a block, and of the count of those that aren't zero.
use Rattle.std.proofs.Common.{◌≡◌, ℕ, ℤ, pos, negsuc, w32, ◌+◌, ◌<◌, ◌≤◌, Bool, true, false, cond, List, length, set, take, ap, ◌∙◌, arith, inl, inr}
use Rattle.std.proofs.lemmas.Bool.{cases_lt}
use Rattle.std.proofs.lemmas.Grind.{common_steps, get_or-set_at}
use Rattle.std.proofs.lemmas.List.{get_or-set_other}
use Rattle.std.specs.List.{count_by}
use Rattle.spec_basics.specs.Bounds.{Within}
use Rattle.spec_residual.specs.Blocks.{item, is_nonzero, nonzero_levels}
use Rattle.std.proofs.lemmas.Int.{ints}
use mir.Val.{SFits}

pub levels_next : (f : ℕ → ℤ) (xs : List ℤ) (i : ℕ) (v : ℤ) → i < length xs → v ≡ f i → ((k : ℕ) → k < i → item xs k ≡ f k) → (k : ℕ) → k < i + 1 → item (set xs i v) k ≡ f k
levels_next f xs i v inside is done k h =
    elim (cases_lt k i) [
      | inl l ↦ get_or-set_other xs i k v (pos 0) (λ z. absurd (omega arith)) ∙ done k l
      | inr g ↦
          (let e : i ≡ k = omega arith in
          let e' : k ≡ i = omega arith in
          get_or-set_at xs i k v (pos 0) e' inside ∙ is ∙ ap f e)
    ]

pub count_next : (xs : List ℤ) (i : ℕ) (v : ℤ) (c o : ℕ) → i < length xs → c ≡ count_by is_nonzero (take i xs) → o ≡ cond (is_nonzero v) 1 0 → c + o ≡ count_by is_nonzero (take (i + 1) (set xs i v))
count_next xs i v c o inside counted one = grind (arith, common_steps)

pub all_counted : (xs : List ℤ) (n c i : ℕ) → length xs ≡ n → n ≤ i → c ≡ count_by is_nonzero (take i xs) → c ≡ nonzero_levels xs
unfolding nonzero_levels
all_counted xs n c i long whole counted = grind (arith, common_steps)

pub one_small : (t : Bool) (o : ℕ) → o ≡ cond t 1 0 → o ≤ 1
one_small true o h = omega arith
one_small false o h = omega arith

pub fits_from_within : (z : ℤ) → Within 65280 z → SFits w32 z
fits_from_within (pos n) w = record { sfits = omega (arith, ints) }
fits_from_within (negsuc n) w = record { sfits = omega (arith, ints) }
