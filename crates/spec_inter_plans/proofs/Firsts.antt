-- The first of least cost of a run of items stands at the first least place, of which there is one.
use Rattle.std.proofs.Common.{◌≡◌, ◌≤◌, ◌+◌, ℕ, zero, suc, Bool, true, false, cond, map, refl, subst, arith, inl, inr}
use Rattle.std.specs.Prelude.{nat_lt}
use Rattle.std.specs.List.{range_with_len}
use Rattle.std.proofs.lemmas.Bool.{cases_lt, ltb-true, ltb-false}
use Rattle.enc_tables.specs.Choice.{lesser, first_least}
use Rattle.spec_search.specs.Least.{IsFirstLeast}
use Rattle.spec_search.proofs.Places.{keep, move}

-- what was found among the first n items
pub record FirstOf (A : Type 0) (cost : A → ℕ) (f : ℕ → A) (n : ℕ) (found : A) : Type 0 where
  pub place : ℕ
  pub first : IsFirstLeast (λ k. cost (f k)) n place
  pub stands : found ≡ f place

one_past : (g : ℕ → ℕ) (n p : ℕ) → IsFirstLeast g (suc n) p → IsFirstLeast g (n + 1) p
one_past g n p h = let same : suc n ≡ n + 1 = omega arith in subst (λ (m : ℕ). IsFirstLeast g m p) same h

first_of : {A : Type 0} (cost : A → ℕ) (f : ℕ → A) (n a k : ℕ) → IsFirstLeast (λ i. cost (f i)) a k → FirstOf A cost f (a + n) (first_least cost (f k) (map f (range_with_len a n)))
unfolding lesser
first_of cost f zero a k h =
    let same : a ≡ a + zero = omega arith in
    record { place = k; first = subst (λ (m : ℕ). IsFirstLeast (λ i. cost (f i)) m k) same h; stands = refl }
first_of {A} cost f (suc n) a k h = go (nat_lt (cost (f a)) (cost (f k))) refl (λ j g. first_of cost f n (a + 1) j g)
  where
    go : (b : Bool) → nat_lt (cost (f a)) (cost (f k)) ≡ b
        → ((j : ℕ) → IsFirstLeast (λ i. cost (f i)) (a + 1) j → FirstOf A cost f (a + 1 + n) (first_least cost (f j) (map f (range_with_len (a + 1) n))))
        → FirstOf A cost f (a + suc n) (first_least cost (cond b (f a) (f k)) (map f (range_with_len (a + 1) n)))
    go true e rest =
        let same : a + 1 + n ≡ a + suc n = omega arith in
        subst (λ (m : ℕ). FirstOf A cost f m (first_least cost (f a) (map f (range_with_len (a + 1) n)))) same (rest a (one_past (λ i. cost (f i)) a a (move (λ i. cost (f i)) a k h (ltb-true _ _ e))))
    go false e rest =
        let same : a + 1 + n ≡ a + suc n = omega arith in
        subst (λ (m : ℕ). FirstOf A cost f m (first_least cost (f k) (map f (range_with_len (a + 1) n)))) same (rest k (one_past (λ i. cost (f i)) a k (keep (λ i. cost (f i)) a k h (ltb-false _ _ e))))

only_one : (cost : ℕ → ℕ) → IsFirstLeast cost 1 0
only_one cost = record {
  inside = omega arith;
  is_least = λ other lt. (let e : 0 ≡ other = omega arith in subst (λ k. cost 0 ≤ cost k) e (omega arith));
  is_first = λ other lt. absurd (omega arith);
}

-- of the items from 0 on
pub found_first : {A : Type 0} (cost : A → ℕ) (f : ℕ → A) (n : ℕ) → FirstOf A cost f (1 + n) (first_least cost (f 0) (map f (range_with_len 1 n)))
found_first cost f n = first_of cost f n 1 0 (only_one (λ i. cost (f i)))

-- there is one first least place
pub same_first : (cost : ℕ → ℕ) (n p q : ℕ) → IsFirstLeast cost n p → IsFirstLeast cost n q → p ≡ q
same_first cost n p q g h = elim (cases_lt p q) [
  | inl lt ↦ (let a = h.is_first p lt in let b = g.is_least q h.inside in absurd (omega arith))
  | inr ge ↦ elim (cases_lt q p) [
    | inl lt ↦ (let a = g.is_first q lt in let b = h.is_least p g.inside in absurd (omega arith))
    | inr le ↦ omega arith
  ]
]
