-- The last digit of an odd number.
use Rattle.std.proofs.Common.{ℕ, zero, suc, ◌≡◌, ◌+◌, ◌*◌, ◌/◌, ◌%◌, ◌^◌, ◌==◌, true, [], ◌∷◌, ◌++◌, refl, sym, ap, ap₂, ◌∙◌, arith}
use Rattle.std.proofs.lemmas.Nat.{shr-shr}
use Rattle.spec_bits.specs.Bits.{digits}

half-odd : (v n : ℕ) → (2 * v + 1) / 2 ^ suc n ≡ v / 2 ^ n
half-odd v n =
    let e : suc n ≡ 1 + n = omega arith in
    let h : (2 * v + 1) / 2 ≡ v = omega arith in
    ap (λ k. (2 * v + 1) / 2 ^ k) e ∙ sym (shr-shr (2 * v + 1) 1 n) ∙ ap (λ x. x / 2 ^ n) h

pub digits-odd : (n v : ℕ) → digits (suc n) (2 * v + 1) ≡ digits n v ++ true ∷ []
unfolding digits
digits-odd zero v = let e : (2 * v + 1) / 1 % 2 ≡ 1 = omega arith in rw e refl
digits-odd (suc n) v = ap₂ (λ x t. ((x % 2) == 1) ∷ t) (half-odd v n) (digits-odd n v)
