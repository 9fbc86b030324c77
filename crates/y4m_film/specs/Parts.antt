-- Samples that are read part by part.
use Rattle.std.specs.Prelude.{ℕ, ◌≡◌, ◌≤◌, ◌<◌, List, length, IfSome}
use Rattle.enc_edge.specs.declared.studio.Place.TheVariants.{Input}
use Rattle.enc_edge.specs.Seen.{Seen}
use Rattle.enc_edge.specs.Calls.{took}

-- n of `all` bytes were taken: all of them, and those left before have P; or fewer, which were all that there were. It is told where the
-- studio tells the bytes
pub record PartRead (all n : ℕ) (P : List ℕ → Type 0) (old new : Seen) : Type 0 where
  pub within : n ≤ all
  pub change : new ≡ took Input n old
  pub whole : n ≡ all → IfSome old.input.bytes (λ left. (all ≤ length left) × P left)
  pub few : n < all → IfSome old.input.bytes (λ left. length left ≡ n)
