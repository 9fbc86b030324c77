-- How a unit is written piece by piece.
use Rattle.std.specs.Prelude.{ℕ, ◌+◌, ◌≤◌, ◌<◌, ◌≡◌, Bool, List, ◌++◌, ◌∷◌, length, take, drop, Result}
use Rattle.std.specs.Result.{MatchResult}
use Rattle.spec_bits.specs.Units.{escape}
use Rattle.bit_strings.specs.BitText.{BitText}

-- the first n bytes of a payload stand as they are, and then, where bytes are left, a byte 03 is put in
pub record IsRun (bytes : List ℕ) (n : ℕ) : Type 0 where
  pub within : n ≤ length bytes
  pub whole : n ≡ length bytes → escape 0 bytes ≡ bytes
  pub parted : n < length bytes → (2 ≤ n) × (escape 0 bytes ≡ take n bytes ++ (3 ∷ escape 0 (drop n bytes)))

-- bits stand behind the old ones, and nothing else changed
pub record IsLonger (old new : BitText) : Type 0 where
  pub bits : List Bool
  pub same : new ≡ record old { text = old.text ++ bits }

-- the bits stand at the end where they fit the room; else maybe some bits
abbrev pub Grows : {E : Type 0} → BitText → BitText → List Bool → Result (Unit {0}) E → Type 0
Grows old new more result = MatchResult result
    (λ _. (length old.text + length more ≤ old.room) × (new ≡ record old { text = old.text ++ more }))
    (λ _. (old.room < length old.text + length more) × IsLonger old new)
