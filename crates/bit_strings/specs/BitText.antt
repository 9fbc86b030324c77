-- What a buffer of bits holds.
use Rattle.std.specs.Prelude.{ℕ, ◌+◌, ◌≤◌, ◌<◌, ◌≡◌, Bool, List, ◌++◌, length, Result}
use Rattle.std.specs.Result.{MatchResult}
use Rattle.spec_bits.specs.Bits.{digits, bits_of_bytes}

-- the bits, the room, and how many bits were made
pub record BitText : Type 0 where
  pub text : List Bool
  pub room : ℕ
  pub made : ℕ

-- the bits stand at the end where they fit the room; else nothing changed
abbrev pub Appends : {E : Type 0} → BitText → BitText → List Bool → Result (Unit {0}) E → Type 0
Appends old new more result = MatchResult result
    (λ _. (length old.text + length more ≤ old.room) × (new ≡ record old { text = old.text ++ more }))
    (λ _. (old.room < length old.text + length more) × (new ≡ old))

-- whole bytes, and then the digits of the byte that is begun
unfoldable pub filled : List ℕ → ℕ → ℕ → List Bool
filled bytes used begun = bits_of_bytes bytes ++ digits used begun
