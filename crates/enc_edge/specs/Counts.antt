-- A studio that tells its counts of faults alone.
use Rattle.std.specs.Prelude.{ℕ, ◌+◌, ◌*◌, List, [], None, slice_index}
use Rattle.enc_edge.specs.declared.studio.Out.TheVariants.{Stream, Recon, Report}
use Rattle.enc_edge.specs.declared.studio.Place.{Place}
use Rattle.enc_edge.specs.declared.studio.Place.TheVariants.{Input, Output}
use Rattle.enc_edge.specs.Places.{place_index}
use Rattle.enc_edge.specs.Seen.{Seen, Spot}

-- a place of which nothing but its two counts is told
abbrev pub untold : Place → List ℕ → Spot
untold place counters = record {
  bytes = None;
  standing = None;
  opening = slice_index counters (2 * place_index place);
  later = slice_index counters (2 * place_index place + 1);
}

-- four such places
abbrev pub counts_seen : List ℕ → Seen
counts_seen counters = record {
  input = untold Input counters;
  stream = untold (Output Stream) counters;
  recon = untold (Output Recon) counters;
  report = untold (Output Report) counters;
  aside = [];
}
