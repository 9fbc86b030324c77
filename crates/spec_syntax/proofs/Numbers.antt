use Rattle.std.proofs.Common.{◌≡◌, ℕ, zero, suc, ◌+◌, ◌-◌, ◌^◌, ◌<◌, ◌≤◌, Bool, true, false, ◌∷◌, refl, arith}
use Rattle.std.specs.Prelude.{nat_lt, min}
use Rattle.std.proofs.lemmas.Bool.{ltb-false}
use borrow.Author.Tests.{ltb-true}
use Rattle.std.proofs.Math.Nat.{pow-suc}
use Rattle.spec_syntax.specs.Syntax.{at, Walks}
use Rattle.spec_syntax.specs.Numbers.{ones, ones_string, number, number_string, golomb, golomb_string, prefix, prefix_string}
use Rattle.spec_syntax.proofs.Walks.{walks_map_to}

pub walks_ones : (c n v : ℕ) → Walks (ones c n) (ones_string c n v) (min v n)
unfolding ones ones_string
walks_ones c zero v = omega arith
walks_ones c (suc n) zero = (refl, omega arith)
walks_ones c (suc n) (suc v) = (refl, walks_map_to (ones c n) (λ k. suc k) (ones_string c n v) (min v n) (min (suc v) (suc n)) (walks_ones c n v) (omega arith))

-- two powers of two make the next
pub doubled : (n : ℕ) → 2 ^ suc n ≡ 2 ^ n + 2 ^ n
doubled n = omega (arith, pow-suc 2 n)

pub walks_number : (n v : ℕ) → v < 2 ^ n → Walks (number n) (number_string n v) v
unfolding number number_string
walks_number zero v h = omega arith
walks_number (suc n) v h = go (nat_lt v (2 ^ n)) refl (λ w k. walks_number n w k)
  where
    go : (b : Bool) → nat_lt v (2 ^ n) ≡ b → ((w : ℕ) → w < 2 ^ n → Walks (number n) (number_string n w) w)
        → Walks (number (suc n)) (elim b [ true ↦ at 1000 false ∷ number_string n v | false ↦ at 1000 true ∷ number_string n (v - 2 ^ n) ]) v
    go true e ih = (refl, walks_map_to (number n) (λ v. v) (number_string n v) v v (ih v (ltb-true _ _ e)) refl)
    go false e ih =
        let le : 2 ^ n ≤ v = ltb-false _ _ e in
        (refl, walks_map_to (number n) (λ v. 2 ^ n + v) (number_string n (v - 2 ^ n)) (v - 2 ^ n) v (ih (v - 2 ^ n) (omega (arith, doubled n))) (omega arith))

below_none : (k v : ℕ) → v + 2 ^ k < 2 ^ (k + 0) → ⊥
below_none k v h = let e : k + 0 ≡ k = omega arith in let g = rw e at h in omega (arith, g)

pub walks_golomb : (n k v : ℕ) → v + 2 ^ k < 2 ^ (k + n) → Walks (golomb n k) (golomb_string n k v) v
unfolding golomb golomb_string
walks_golomb zero k v h = below_none k v h
walks_golomb (suc n) k v h = go (nat_lt v (2 ^ k)) refl (λ w m. walks_golomb n (suc k) w m)
  where
    go : (b : Bool) → nat_lt v (2 ^ k) ≡ b → ((w : ℕ) → w + 2 ^ suc k < 2 ^ (suc k + n) → Walks (golomb n (suc k)) (golomb_string n (suc k) w) w)
        → Walks (golomb (suc n) k) (elim b [ true ↦ at 1000 false ∷ number_string k v | false ↦ at 1000 true ∷ golomb_string n (suc k) (v - 2 ^ k) ]) v
    go true e ih = (refl, walks_number k v (ltb-true _ _ e))
    go false e ih =
        let le : 2 ^ k ≤ v = ltb-false _ _ e in
        let same : suc k + n ≡ k + suc n = omega arith in
        (refl, walks_map_to (golomb n (suc k)) (λ v. 2 ^ k + v) (golomb_string n (suc k) (v - 2 ^ k)) (v - 2 ^ k) v (ih (v - 2 ^ k) (rw (same, doubled k) (omega arith))) (omega arith))

pub walks_prefix_bits : (ctx : ℕ → ℕ) (i n v : ℕ) → Walks (prefix ctx i n) (prefix_string ctx i n v) (min v n)
unfolding prefix prefix_string
walks_prefix_bits ctx i zero v = omega arith
walks_prefix_bits ctx i (suc n) zero = (refl, omega arith)
walks_prefix_bits ctx i (suc n) (suc v) = (refl, walks_map_to (prefix ctx (suc i) n) (λ k. suc k) (prefix_string ctx (suc i) n v) (min v n) (min (suc v) (suc n)) (walks_prefix_bits ctx (suc i) n v) (omega arith))
