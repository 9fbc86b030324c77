-- A studio whose input is a film in memory, and whose outputs are those of another studio.
use Rattle.std.specs.Prelude.{ℕ, List, [], ◌∷◌, Some, None}
use Rattle.std.specs.Borrow.{GName}
use Rattle.enc_edge.specs.Seen.{Seen, Behind}

-- the bytes left of the film; its standing isn't told, and it has no faults; the input of the studio behind stands aside
abbrev pub filmed : List ℕ → GName → Seen → Seen
filmed left lender s = record {
  input = record { bytes = Some left; standing = None; opening = 0; later = 0 };
  stream = s.stream;
  recon = s.recon;
  report = s.report;
  aside = record { input = s.input; lender = lender } ∷ s.aside;
}

abbrev pub behind_from : Seen → List Behind → Seen
behind_from s [] = s
behind_from s (b ∷ more) = record s { input = b.input; aside = more }

-- what the studio behind shows
abbrev pub behind : Seen → Seen
behind s = behind_from s s.aside
