-- One place more of a search.
use Rattle.std.proofs.Common.{◌≡◌, ℕ, zero, suc, ◌+◌, ◌<◌, ◌≤◌, refl, subst, arith, inl, inr}
use Rattle.std.proofs.lemmas.Bool.Decides.{nat_tests}
use Rattle.std.proofs.lemmas.Bool.{cases_lt}
use Rattle.spec_search.specs.Least.{IsFirstLeast, Searched}

pub keep : (f : ℕ → ℕ) (i b : ℕ) → IsFirstLeast f i b → f b ≤ f i → IsFirstLeast f (suc i) b
keep f i b h le = record {
  inside = omega (arith, h.inside);
  is_least = λ j p. elim (cases_lt j i) [ inl q ↦ h.is_least j q | inr q ↦ (let e : i ≡ j = omega arith in subst (λ k. f b ≤ f k) e le) ];
  is_first = h.is_first;
}

pub move : (f : ℕ → ℕ) (i b : ℕ) → IsFirstLeast f i b → f i < f b → IsFirstLeast f (suc i) i
move f i b h lt = record {
  inside = omega arith;
  is_least = λ j p. elim (cases_lt j i) [ inl q ↦ (let k = h.is_least j q in omega arith) | inr q ↦ (let e : i ≡ j = omega arith in subst (λ k. f i ≤ f k) e (omega arith)) ];
  is_first = λ j p. (let k = h.is_least j p in omega arith);
}

-- a place whose bound is not below the least so far changes nothing
pub passed_over : (f g : ℕ → ℕ) (i b s k : ℕ) → 0 < i → Searched f g i b s k → g i ≤ f i → s ≤ g i → Searched f g (suc i) b s k
passed_over f g zero b s k p h low over = absurd (omega arith)
passed_over f g (suc i) b s k p h low over =
    let c = h.is_cost in
    let m = h.lowest in
    record {
      first_least = keep f (suc i) b h.first_least (omega arith);
      is_cost = c;
      lowest = omega arith;
      count = (let n = h.count in grind (arith, nat_tests));
    }

pub compared_kept : (f g : ℕ → ℕ) (i b s k : ℕ) → 0 < i → Searched f g i b s k → g i < s → s ≤ f i → Searched f g (suc i) b s (k + 1)
compared_kept f g zero b s k p h low over = absurd (omega arith)
compared_kept f g (suc i) b s k p h low over =
    let c = h.is_cost in
    let m = h.lowest in
    record {
      first_least = keep f (suc i) b h.first_least (omega arith);
      is_cost = c;
      lowest = omega arith;
      count = (let n = h.count in grind (arith, nat_tests));
    }

pub compared_moved : (f g : ℕ → ℕ) (i b s k : ℕ) → 0 < i → Searched f g i b s k → g i < s → f i < s → Searched f g (suc i) i (f i) (k + 1)
compared_moved f g zero b s k p h low lt = absurd (omega arith)
compared_moved f g (suc i) b s k p h low lt =
    let c = h.is_cost in
    let m = h.lowest in
    record {
      first_least = move f (suc i) b h.first_least (omega arith);
      is_cost = refl;
      lowest = omega arith;
      count = (let n = h.count in grind (arith, nat_tests));
    }

pub started : (f g : ℕ → ℕ) → Searched f g 1 0 (f 0) 1
started f g = record {
  first_least = record {
    inside = omega arith;
    is_least = λ j p. (let e : 0 ≡ j = omega arith in subst (λ k. f 0 ≤ f k) e (omega arith));
    is_first = λ j p. absurd (omega arith);
  };
  is_cost = refl;
  lowest = refl;
  count = refl;
}

pub first_alone : (f : ℕ → ℕ) → IsFirstLeast f 1 0
first_alone f = (started f (λ n. 0)).first_least
