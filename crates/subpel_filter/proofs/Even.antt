-- Fractions at which the two samples are one.
use Rattle.std.proofs.Common.{◌≡◌, ℕ, zero, suc, ◌%◌, ◌<◌, refl, arith}
use Rattle.spec_inter.specs.Luma.{firsts, seconds, first_of, second_of}

pub even_pair : (x y : ℕ) → x < 4 → y < 4 → x % 2 ≡ 0 → y % 2 ≡ 0 → first_of x y ≡ second_of x y
unfolding firsts seconds
even_pair zero zero p q e f = refl
even_pair (suc (suc zero)) zero p q e f = refl
even_pair zero (suc (suc zero)) p q e f = refl
even_pair (suc (suc zero)) (suc (suc zero)) p q e f = refl
even_pair (suc zero) y p q e f = absurd (omega (arith, e))
even_pair (suc (suc (suc x))) y p q e f = absurd (omega (arith, e))
even_pair zero (suc zero) p q e f = absurd (omega (arith, f))
even_pair zero (suc (suc (suc y))) p q e f = absurd (omega (arith, f))
even_pair (suc (suc zero)) (suc zero) p q e f = absurd (omega (arith, f))
even_pair (suc (suc zero)) (suc (suc (suc y))) p q e f = absurd (omega (arith, f))
