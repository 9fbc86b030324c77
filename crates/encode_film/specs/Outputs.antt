-- What is written for a film, and what the outside shows then.
use Rattle.std.specs.Prelude.{ℕ, List}
use Rattle.enc_edge.specs.declared.studio.Out.TheVariants.{Stream, Recon, Report}
use Rattle.enc_edge.specs.declared.studio.Place.TheVariants.{Input, Output}
use Rattle.enc_edge.specs.Seen.{Seen}
use Rattle.enc_edge.specs.Calls.{opened, shut, took}
use Rattle.spec_film.specs.Films.{Planes, FilmEnd}
use Rattle.spec_words.specs.declared.command.Outputs.{Outputs as OutputNames}
use Rattle.spec_session.specs.Settings.{SessionSettings}
use Rattle.spec_session.specs.Encodings.{encoding}
use Rattle.spec_session.specs.Groups.{coded_by}
use Rattle.spec_session.specs.Outputs.{Outputs, written_by}
use Rattle.enc_session.specs.Left.{added}

-- the names of the film and of what is written
pub record Names : Type 0 where
  pub input : List ℕ
  pub stream : List ℕ
  pub recon : List ℕ
  pub report : List ℕ

abbrev pub named : List ℕ → OutputNames → Names
named input outputs = record { input = input; stream = outputs.stream; recon = outputs.recon; report = outputs.report }

-- the outside once n more bytes of the input were taken, and this was written
abbrev pub put : Outputs → ℕ → Seen → Seen
put o n s = added o (took Input n s)

-- the outside once the input stands open under its name and n of its bytes were taken
abbrev pub reading : Names → ℕ → Seen → Seen
reading names n old = took Input n (opened Input names.input old)

-- the outside once, further, the outputs stand open under their names
abbrev pub all_open : Names → Seen → Seen
all_open names s = opened (Output Report) names.report (opened (Output Recon) names.recon (opened (Output Stream) names.stream s))

-- the outside once the outputs were closed
abbrev pub all_shut : Seen → Seen
all_shut s = shut (Output Report) (shut (Output Recon) (shut (Output Stream) s))

-- the outside once all places stand open under their names, n bytes of the input were taken, and this was written
abbrev pub encoded_to : Names → Outputs → ℕ → Seen → Seen
encoded_to names o n old = added o (all_open names (reading names n old))

-- what these settings give of a film with these pictures and this end, where nothing outside fails
abbrev pub outputs_by : SessionSettings → List Planes × FilmEnd → Outputs
outputs_by f film = written_by f (encoding f (coded_by f film.1 film.0)).refused film.1 (encoding f (coded_by f film.1 film.0)).done
