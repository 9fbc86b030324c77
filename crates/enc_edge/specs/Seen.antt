-- What a studio shows: bytes, standings and counts of faults.
use Rattle.std.specs.Prelude.{ℕ, List, Option}
use Rattle.std.specs.Borrow.{GName}
use Rattle.enc_edge.specs.declared.studio.Out.TheVariants.{Stream, Recon, Report}
use Rattle.enc_edge.specs.declared.studio.Place.{Place}
use Rattle.enc_edge.specs.declared.studio.Place.TheVariants.{Input, Output}

-- a place has not been opened, stands open under a name, or was closed under it
pub data Stand : Type 0 where
  Unopened : Stand
  Open : List ℕ → Stand
  Closed : List ℕ → Stand

-- one place: its bytes (those left of the input, those written to an output) and its standing, where the studio
-- tells them, and its two counts of faults, of opening it and of the later calls
pub record Spot : Type 0 where
  pub bytes : Option (List ℕ)
  pub standing : Option Stand
  pub opening : ℕ
  pub later : ℕ

-- a studio behind another one: its input, and the reference, by its name in proofs, that the other one keeps of it
pub record Behind : Type 0 where
  pub input : Spot
  pub lender : GName

-- the four places; and aside, where one studio stands before another, the other's input and what is aside there
pub record Seen : Type 0 where
  pub input : Spot
  pub stream : Spot
  pub recon : Spot
  pub report : Spot
  pub aside : List Behind

-- the spot of one place
abbrev pub spot_at : Place → Seen → Spot
spot_at Input s = s.input
spot_at (Output Stream) s = s.stream
spot_at (Output Recon) s = s.recon
spot_at (Output Report) s = s.report

-- the same, but for the spot of one place
abbrev pub with_spot : Place → Spot → Seen → Seen
with_spot Input p s = record s { input = p }
with_spot (Output Stream) p s = record s { stream = p }
with_spot (Output Recon) p s = record s { recon = p }
with_spot (Output Report) p s = record s { report = p }
