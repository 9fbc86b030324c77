-- A line of the report.
use Rattle.std.specs.Prelude.{ℕ, List, []}
use Rattle.spec_session.specs.Outputs.{Outputs}

-- written alone
abbrev pub line_alone : List ℕ → Outputs
line_alone line = record { stream = []; recon = []; report = line }
