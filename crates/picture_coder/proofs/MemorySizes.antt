-- Sizes in whole macroblocks are not rounded.
use Rattle.std.proofs.Common.{◌≡◌, ◌*◌, ◌/◌, ℕ, subst, arith}
use Rattle.std.specs.Prelude.{Result, IfOk}
use Rattle.picture_planes.specs.Clamped.{rounded}
use Rattle.ref_lists.specs.declared.held.Reference.{Reference}
use Rattle.ref_lists.specs.Held.{IsMade}

pub whole : (n : ℕ) → rounded (16 * n) ≡ 16 * n
whole n = omega arith

pub sixteenth : (w a : ℕ) → w ≡ 16 * a → w / 16 ≡ a
sixteenth w a e = omega (arith, e)

pub made_whole : {E : Type 0} (r : Result Reference E) (across down : ℕ) → IfOk r (λ x. IsMade (rounded (16 * across)) (rounded (16 * down)) x) → IfOk r (λ x. IsMade (16 * across) (16 * down) x)
made_whole r across down is =
    subst (λ (k : ℕ). IfOk r (λ x. IsMade (16 * across) k x)) (whole down)
    (subst (λ (k : ℕ). IfOk r (λ x. IsMade k (rounded (16 * down)) x)) (whole across) is)
