-- Decimal digits are read from the left.
use Rattle.std.proofs.Common.{ℕ, zero, suc, ◌+◌, ◌-◌, ◌*◌, ◌^◌, ◌≡◌, ◌<◌, ◌≤◌, List, length, take, get_or, Bool, true, false, refl, ap, sym, ◌∙◌, arith}
use Rattle.std.specs.Prelude.{IsTrue}
use Rattle.std.specs.List.{list_all}
use Rattle.std.specs.Char.{is_ascii_digit}
use Rattle.std.proofs.lemmas.List.Sums.{fold_more}
use Rattle.std.proofs.lemmas.List.Folds.{list_all_at}
use Rattle.std.proofs.lemmas.Bool.Decides.{nat_tests}
use native.Mathlib.Numerals.{unary_clauses}
use Rattle.spec_basics.specs.Decimals.{value_of_digits}

-- the value of the first i digits
pub record Valued (digits : List ℕ) (i value : ℕ) : Type 0 where
  pub is : value ≡ value_of_digits (take i digits)
  pub small : value < 10 ^ i

digit_in : (d : ℕ) → is_ascii_digit d ≡ true → (48 ≤ d) × (d ≤ 57)
digit_in d h = (grind (arith, nat_tests), grind (arith, nat_tests))

each : (digits : List ℕ) (i : ℕ) → IsTrue (list_all is_ascii_digit digits) → i < length digits → is_ascii_digit (get_or digits i 0) ≡ true
each digits i all h = go (is_ascii_digit (get_or digits i 0)) refl
  where
    contra : (b : Bool) → IsTrue b → b ≡ false → ⊥
    contra true t e = cc
    contra false t e = cc

    go : (b : Bool) → is_ascii_digit (get_or digits i 0) ≡ b → is_ascii_digit (get_or digits i 0) ≡ true
    go true e = e
    go false e = absurd (contra (list_all is_ascii_digit digits) all (list_all_at is_ascii_digit digits i 0 h e))

digit_at : (digits : List ℕ) (i : ℕ) → IsTrue (list_all is_ascii_digit digits) → i < length digits → (48 ≤ get_or digits i 0) × (get_or digits i 0 ≤ 57)
digit_at digits i all h = digit_in (get_or digits i 0) (each digits i all h)

turn : (n : ℕ) → n * 10 ≡ 10 * n
turn n = grind arith

power_more : (i : ℕ) → 10 ^ (i + 1) ≡ 10 * 10 ^ i
power_more i = simp unary_clauses (turn (10 ^ i))

some_power : (n : ℕ) → 1 ≤ 10 ^ n
some_power zero = omega arith
some_power (suc n) = let rest = some_power n in omega (arith, rest, power_more n)

pow_le : (n i : ℕ) → i ≤ n → 10 ^ i ≤ 10 ^ n
pow_le n zero h = some_power n
pow_le zero (suc i) h = absurd (omega arith)
pow_le (suc n) (suc i) h = let rest = pow_le n i (omega arith) in omega (arith, rest, power_more n, power_more i)

-- the power of the first digit of at most four, and of at most ten
pub power_of_4 : (i : ℕ) → i < 4 → 10 ^ i ≤ 1000
power_of_4 i h = pow_le 3 i (omega arith)

pub power_of_10 : (i : ℕ) → i < 10 → 10 ^ i ≤ 1000000000
power_of_10 i h = pow_le 9 i (omega arith)

pub valued_none : (digits : List ℕ) → Valued digits 0 0
valued_none digits = record { is = refl; small = omega arith }

pub valued_more : (digits : List ℕ) (i value : ℕ) → IsTrue (list_all is_ascii_digit digits) → i < length digits → Valued digits i value → Valued digits (i + 1) (10 * value + (get_or digits i 0 - 48))
valued_more digits i value all h v =
    let d = digit_at digits i all h in
    record {
      is = ap (λ (n : ℕ). 10 * n + (get_or digits i 0 - 48)) v.is ∙ sym (fold_more (λ (n d : ℕ). 10 * n + (d - 48)) 0 digits i 0 h);
      small = omega (arith, d, v.small, power_more i);
    }
