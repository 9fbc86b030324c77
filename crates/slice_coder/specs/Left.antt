-- What a slice's coding leaves in the buffer.
use Rattle.std.specs.Prelude.{◌≡◌, ℕ, ◌<◌, ◌↔◌, Result, IsErr, OnOk, OnErr, Bool, false, List, [], ◌++◌, length}
use Rattle.spec_bits.specs.Golomb.{align_bits}
use Rattle.bit_strings.specs.BitText.{BitText}
use Rattle.cabac_coder.specs.State.{CoderState}

-- with zeros to the byte
abbrev pub padded : List Bool → List Bool
padded bits = bits ++ align_bits (length bits)

abbrev pub buffer : ℕ → ℕ → List Bool → BitText
buffer room made bits = record { text = bits; room = room; made = made }

-- these bits with zeros to the byte where they fit the room, and else no bits
pub record Leaves {A E : Type 0} (answer : Result A E) (room made : ℕ) (bits : List Bool) (new : BitText) : Type 0 where
  pub full : IsErr answer ↔ room < length (padded bits)
  pub ok : OnOk answer (new ≡ buffer room made (padded bits))
  pub err : OnErr answer (new ≡ buffer room made [])

-- the coder before the first bin, behind a buffer's bits
abbrev pub started_at : BitText → CoderState
started_at b = record { start = b.text; room = b.room; made = b.made; low = 0; shifts = 0; range = 510; ended = false; full = false }
