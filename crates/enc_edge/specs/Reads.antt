-- What calls that read on do to what a studio shows.
use Rattle.std.specs.Prelude.{ℕ, ◌≡◌, ◌<◌, ◌≤◌, List, length, IfSome}
use Rattle.enc_edge.specs.declared.studio.Place.TheVariants.{Input}
use Rattle.enc_edge.specs.Seen.{Seen}
use Rattle.enc_edge.specs.Calls.{took, LaterFailed}

-- n bytes of the input were taken, and those left before have P, where the studio tells them
pub record Took (n : ℕ) (P : List ℕ → Type 0) (old new : Seen) : Type 0 where
  pub change : new ≡ took Input n old
  pub content : IfSome old.input.bytes P

-- some bytes of the input were taken, and those left before have P, where the studio tells them
abbrev pub TookSome : (List ℕ → Type 0) → Seen → Seen → Type 0
TookSome P old new = (n : ℕ) × Took n P old new

-- some bytes of the input were taken, and then a read failed
abbrev pub ReadFailed : Seen → Seen → Type 0
ReadFailed old new = (n : ℕ) × LaterFailed Input (took Input n old) new

-- fewer than `most` bytes of the input were taken, which were all there, where the studio tells it, and then a read failed
pub record ReadFailedWithin (most : ℕ) (old new : Seen) : Type 0 where
  pub count : ℕ
  pub few : count < most
  pub there : IfSome old.input.bytes (λ left. count ≤ length left)
  pub failed : LaterFailed Input (took Input count old) new
