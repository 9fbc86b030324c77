-- What calls that write on do to what a studio shows.
use Rattle.std.specs.Prelude.{ℕ, ◌≤◌, List, length, take}
use Rattle.enc_edge.specs.declared.studio.Out.{Out}
use Rattle.enc_edge.specs.declared.studio.Place.TheVariants.{Output}
use Rattle.enc_edge.specs.Seen.{Seen}
use Rattle.enc_edge.specs.Calls.{wrote, LaterFailed}

-- a front of the bytes was written there, and then a write failed
pub record FrontWritten (out : Out) (bytes : List ℕ) (old new : Seen) : Type 0 where
  pub count : ℕ
  pub within : count ≤ length bytes
  pub failed : LaterFailed (Output out) (wrote (Output out) (take count bytes) old) new
