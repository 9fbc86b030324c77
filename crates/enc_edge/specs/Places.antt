-- The places by number.
use Rattle.std.specs.Prelude.{ℕ}
use Rattle.enc_edge.specs.declared.studio.Out.{Out}
use Rattle.enc_edge.specs.declared.studio.Out.TheVariants.{Stream, Recon, Report}
use Rattle.enc_edge.specs.declared.studio.Place.{Place}
use Rattle.enc_edge.specs.declared.studio.Place.TheVariants.{Input, Output}

-- the outputs in order
abbrev pub output_index : Out → ℕ
output_index Stream = 0
output_index Recon = 1
output_index Report = 2

-- the input first, then the outputs in order
abbrev pub place_index : Place → ℕ
place_index Input = 0
place_index (Output Stream) = 1
place_index (Output Recon) = 2
place_index (Output Report) = 3
