-- What places are called in printed lines.
use Rattle.std.specs.Prelude.{ℕ, List, codes}
use Rattle.enc_edge.specs.declared.studio.Out.{Out}
use Rattle.enc_edge.specs.declared.studio.Out.TheVariants.{Stream, Recon, Report}
use Rattle.enc_edge.specs.declared.studio.Place.{Place}
use Rattle.enc_edge.specs.declared.studio.Place.TheVariants.{Input, Output}

abbrev pub out_name : Out → List ℕ
out_name Stream = codes "stream"
out_name Recon = codes "recon"
out_name Report = codes "report"

abbrev pub place_name : Place → List ℕ
place_name Input = codes "input"
place_name (Output out) = out_name out
