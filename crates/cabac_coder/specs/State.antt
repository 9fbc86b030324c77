-- What contracts see of the coder.
use Rattle.std.specs.Prelude.{ℕ, ◌≡◌, ◌+◌, ◌-◌, ◌<◌, ◌≤◌, ◌*◌, ◌^◌, ◌⊎◌, Bool, true, false, List, length}
use Rattle.spec_cabac.specs.Code.{Coded}
use Rattle.spec_cabac.proofs.Ranges.{IsBounded}
use Rattle.cabac_coder.specs.Emitted.{Emitted}
use Rattle.cabac_coder.specs.Whole.{whole}

-- the buffer's bits at the start, its room and the bits that were made for it; the whole number, its doublings and the range;
-- whether a terminate 1 was coded, and whether a bin did not fit
pub record CoderState : Type 0 where
  pub start : List Bool
  pub room : ℕ
  pub made : ℕ
  pub low : ℕ
  pub shifts : ℕ
  pub range : ℕ
  pub ended : Bool
  pub full : Bool

abbrev pub coded_of : CoderState → Coded
coded_of s = record { low = s.low; shifts = s.shifts; range = s.range }

-- the coder after a bin that leads to f
abbrev pub stepped : CoderState → Coded → Bool → CoderState
stepped s f ended = record { start = s.start; room = s.room; made = s.made; low = f.low; shifts = f.shifts; range = f.range; ended = ended; full = false }

-- a bin did not fit before, or the bits of a code that ends at f pass the room
abbrev pub FullAt : CoderState → Coded → Type 0
FullAt s f = (s.full ≡ true) ⊎ (s.room < length s.start + (f.shifts + 9))

abbrev pub state_of : Emitted → ℕ → ℕ → ℕ → Bool → Bool → CoderState
state_of b low range queued ended full = record { start = b.start; room = b.room; made = b.made; low = 512 * (2 ^ queued * b.number) + low; shifts = b.count + queued; range = range; ended = ended; full = full }

pub record CoderHolds (bytes : Emitted) (low range queued shifts bound : ℕ) (ended full : Bool) : Type 0 where
  pub register : low + range ≤ 1024 * 2 ^ queued
  pub bounded : IsBounded (whole bytes low range queued)
  pub counted : shifts ≡ bytes.count + queued
  pub few : queued < 8
  pub least : 2 ≤ range
  pub wide : ended ≡ false → 256 ≤ range
  pub most : range < 512
  pub limited : full ≡ false → bound ≡ bytes.room - (length bytes.start + 8)
  pub stopped : full ≡ true → bound ≡ 0
  pub kept : full ≡ false → 0 < shifts → shifts < bound
  pub last : ended ≡ true → full ≡ false → shifts < bound
  pub far : shifts + 9 < 2 ^ 64
  pub small : bytes.room < 2 ^ 64
