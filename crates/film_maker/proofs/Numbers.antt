-- Remainders of sums.
use Rattle.std.proofs.Common.{◌≡◌, ℕ, ◌+◌, ◌*◌, ◌/◌, ◌%◌, ap, sym, ◌∙◌, arith}
use Rattle.std.proofs.Math.Nat.{mod-add-div, add-mul-mod_self_left}

pub mod_first : (a c m : ℕ) → (a % m + c) % m ≡ (a + c) % m
mod_first a c m =
    let whole : a % m + c + m * (a / m) ≡ a + c = omega (arith, mod-add-div a m) in
    sym (add-mul-mod_self_left (a % m + c) m (a / m)) ∙ ap (λ n. n % m) whole
