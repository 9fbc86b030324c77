-- The parts of a head line.
use Rattle.std.proofs.Common.{ℕ, ◌-◌, ◌≡◌, ◌<◌, List, length, take, drop, get_or, Bool, true, false, sym, ◌∙◌, arith}
use Rattle.std.specs.List.{position_or_len}
use Rattle.std.proofs.lemmas.List.Sums.{position_or_len_is}
use Rattle.std.proofs.lemmas.Grind.{common_steps}

-- what stands from a place to the end
pub to_end : (xs : List ℕ) (i : ℕ) → take (length xs - i) (drop i xs) ≡ drop i xs
to_end xs i = grind (arith, common_steps)

-- no byte of this kind stands before the place i
abbrev pub NoneBefore : (ℕ → Bool) → ℕ → List ℕ → Type 0
NoneBefore p i text = (k : ℕ) → k < i → p (get_or text k 0) ≡ false

pub found_at : (p : ℕ → Bool) (text : List ℕ) (i : ℕ) → i < length text → NoneBefore p i text → p (get_or text i 0) ≡ true → i ≡ position_or_len p text
found_at p text i h before here = sym (position_or_len_is p text i 0 (omega arith) before (λ _. here))

pub none_at : (p : ℕ → Bool) (text : List ℕ) (i : ℕ) → i ≡ length text → NoneBefore p i text → length text ≡ position_or_len p text
none_at p text i end before = sym end ∙ sym (position_or_len_is p text i 0 (omega arith) before (λ h. absurd (omega arith)))
