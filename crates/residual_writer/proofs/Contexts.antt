-- The contexts of residual blocks have states.
use Rattle.std.proofs.Common.{◌≡◌, ℕ, zero, suc, ◌+◌, ◌<◌, ◌≤◌, Bool, true, false, cond, ◌==◌, min, List, [], ◌∷◌, get_or, refl, subst, arith}
use Rattle.std.specs.Prelude.{◌&&◌, nat_le}
use Rattle.std.proofs.lemmas.Bool.{false≢true}
use Rattle.std.proofs.lemmas.Bool.Decides.{nat_tests}
use Rattle.enc_tables.specs.declared.significance.TheConstants.{SIGNIFICANT8, LAST8}
use Rattle.spec_syntax.specs.Levels.{coded_at, significant_at, last_at, first_at, others_at, flags_from, place_in, levels_from}

-- each number of a table is at most the first
at_most : ℕ → List ℕ → Bool
at_most b [] = true
at_most b (x ∷ xs) = nat_le x b && at_most b xs

first_of : (x b : ℕ) (q : Bool) → (nat_le x b && q) ≡ true → x ≤ b
first_of x b q h = go (nat_le x b) refl h
  where
    go : (p : Bool) → nat_le x b ≡ p → (p && q) ≡ true → x ≤ b
    go true e h = grind (arith, nat_tests)
    go false e h = absurd (false≢true h)

second_of : (p q : Bool) → (p && q) ≡ true → q ≡ true
second_of true q h = h
second_of false q h = absurd (false≢true h)

place_at_most : (b : ℕ) (xs : List ℕ) → at_most b xs ≡ true → (i : ℕ) → get_or xs i 0 ≤ b
unfolding at_most
place_at_most b [] h i = omega arith
place_at_most b (x ∷ xs) h zero = first_of x b (at_most b xs) h
place_at_most b (x ∷ xs) h (suc i) = place_at_most b xs (second_of (nat_le x b) (at_most b xs) h) i

significant8_most : (i : ℕ) → get_or SIGNIFICANT8 i 0 ≤ 14
unfolding at_most
significant8_most = place_at_most 14 SIGNIFICANT8 refl

last8_most : (i : ℕ) → get_or LAST8 i 0 ≤ 8
unfolding at_most
last8_most = place_at_most 8 LAST8 refl

flags_from_most : (category : ℕ) → flags_from category ≤ 47
unfolding at_most
flags_from_most = place_at_most 47 (0 ∷ 15 ∷ 29 ∷ 44 ∷ 47 ∷ []) refl

coded_from_most : (category : ℕ) → get_or (0 ∷ 4 ∷ 8 ∷ 12 ∷ 16 ∷ []) category 0 ≤ 16
unfolding at_most
coded_from_most = place_at_most 16 (0 ∷ 4 ∷ 8 ∷ 12 ∷ 16 ∷ []) refl

levels_table_most : (category : ℕ) → get_or (0 ∷ 10 ∷ 20 ∷ 30 ∷ 39 ∷ []) category 0 ≤ 39
unfolding at_most
levels_table_most = place_at_most 39 (0 ∷ 10 ∷ 20 ∷ 30 ∷ 39 ∷ []) refl

-- a context has a state where it is below 276, or from 399 on below 436
pub record HasState (c : ℕ) : Type 0 where
  pub below : c < 436
  pub other : c ≡ 276 → ⊥

low : {c : ℕ} → c < 276 → HasState c
low h = record { below = omega arith; other = λ e. absurd (omega arith) }

high : {c : ℕ} → 276 < c → c < 436 → HasState c
high h k = record { below = k; other = λ e. absurd (omega arith) }

place_in_most : (category place : ℕ) → place_in category place ≤ place
place_in_most category place = elim (category == 3) as (λ b. cond b (min place 2) place ≤ place) [ true ↦ omega arith | false ↦ omega arith ]

pub coded_has : (category inc : ℕ) → inc ≤ 3 → HasState (coded_at category inc)
unfolding coded_at
coded_has category inc h = low (omega (arith, coded_from_most category))

pub significant_has : (category place : ℕ) → place < 63 → HasState (significant_at category place)
unfolding significant_at
significant_has category place h =
    elim (category == 5) as (λ b. HasState (cond b (402 + get_or SIGNIFICANT8 place 0) (105 + flags_from category + place_in category place)))
    [ true ↦ high (omega arith) (omega (arith, significant8_most place)) | false ↦ low (omega (arith, flags_from_most category, place_in_most category place)) ]

pub last_has : (category place : ℕ) → place < 63 → HasState (last_at category place)
unfolding last_at
last_has category place h =
    elim (category == 5) as (λ b. HasState (cond b (417 + get_or LAST8 place 0) (166 + flags_from category + place_in category place)))
    [ true ↦ high (omega arith) (omega (arith, last8_most place)) | false ↦ low (omega (arith, flags_from_most category, place_in_most category place)) ]

-- from the first level's context at most nine on
levels_has : (category more : ℕ) → more ≤ 9 → HasState (levels_from category + more)
levels_has category more h =
    elim (category == 5) as (λ b. HasState (cond b 426 (227 + get_or (0 ∷ 10 ∷ 20 ∷ 30 ∷ 39 ∷ []) category 0) + more))
    [ true ↦ high (omega arith) (omega arith) | false ↦ low (omega (arith, levels_table_most category)) ]

pub first_has : (category above ones : ℕ) → HasState (first_at category above ones)
unfolding first_at
first_has category above ones =
    levels_has category (cond (above == 0) (min 4 (1 + ones)) 0)
    (elim (above == 0) as (λ b. cond b (min 4 (1 + ones)) 0 ≤ 9) [ true ↦ omega arith | false ↦ omega arith ])

pub others_has : (category above : ℕ) → HasState (others_at category above)
unfolding others_at
others_has category above =
    let m : min above (cond (category == 3) 3 4) ≤ 4 = elim (category == 3) as (λ b. min above (cond b 3 4) ≤ 4) [ true ↦ omega arith | false ↦ omega arith ] in
    let e : levels_from category + (5 + min above (cond (category == 3) 3 4)) ≡ levels_from category + 5 + min above (cond (category == 3) 3 4) = omega arith in
    subst HasState e (levels_has category (5 + min above (cond (category == 3) 3 4)) (omega arith))
