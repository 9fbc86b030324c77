-- How a head is written piece by piece.
use Rattle.std.specs.Prelude.{◌+◌, ◌≤◌, ◌<◌, ◌≡◌, Bool, List, ◌++◌, length, Result}
use Rattle.std.specs.Result.{MatchResult}
use Rattle.bit_strings.specs.BitText.{BitText}

-- bits stand behind the old ones, and nothing else changed
pub record IsLonger (old new : BitText) : Type 0 where
  pub bits : List Bool
  pub same : new ≡ record old { text = old.text ++ bits }

-- the bits stand at the end where they fit the room; else maybe some bits
abbrev pub Grows : {E : Type 0} → BitText → BitText → List Bool → Result (Unit {0}) E → Type 0
Grows old new more result = MatchResult result
    (λ _. (length old.text + length more ≤ old.room) × (new ≡ record old { text = old.text ++ more }))
    (λ _. (old.room < length old.text + length more) × IsLonger old new)
