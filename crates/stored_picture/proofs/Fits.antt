-- What is appended where the room is known.
use Rattle.std.proofs.Common.{ℕ, ◌≡◌, ◌+◌, ◌≤◌, List, [], ◌++◌, length, replicate, Result, Ok, Err, Bool, false, ap, ◌∙◌, arith}
use Rattle.std.proofs.lemmas.Grind.{common_steps}
use Rattle.spec_bits.specs.Golomb.{align_bits, to_byte}
use Rattle.bit_strings.specs.BitText.{BitText, Appends}

pub appended : {E : Type 0} (old new : BitText) (more : List Bool) (r : Result (Unit {0}) E) → Appends old new more r → length old.text + length more ≤ old.room → new ≡ record old { text = old.text ++ more }
appended old new more (Ok u) a h = a.1
appended old new more (Err e) a h = let full = a.0 in absurd (omega arith)

pub length-align_bits : (n : ℕ) → length (align_bits n) ≡ to_byte n
unfolding align_bits
length-align_bits n = zeros (to_byte n)
  where
    zeros : (k : ℕ) → length (replicate k false) ≡ k
    zeros k = grind (arith, common_steps)

-- the first bits of an empty buffer
pub appended_first : {E : Type 0} (old new : BitText) (more : List Bool) (r : Result (Unit {0}) E) → old.text ≡ [] → Appends old new more r → length more ≤ old.room → new ≡ record old { text = more }
appended_first old new more r empty a h =
    let none : length old.text ≡ 0 = ap length empty in
    appended old new more r a (omega arith) ∙ ap (λ (xs : List Bool). let b : BitText = record old { text = xs ++ more } in b) empty
