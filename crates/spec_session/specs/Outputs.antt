-- What stands in the three outputs of an encoding: at its end, behind a refusal, and where a write failed.
use Rattle.std.specs.Prelude.{ℕ, ◌≡◌, ◌≤◌, List, ◌++◌, length, take, Option, Some, None}
use Rattle.std.specs.List.{flat_map}
use Rattle.spec_film.specs.Films.{Planes, Film, FilmEnd, Ended, Faulty}
use Rattle.spec_film.specs.Written.{picture_text, film_text}
use Rattle.spec_decoder.specs.Macroblocks.{Slice as Read}
use Rattle.spec_coding.specs.Encoding.{Coded, Refusal, in_order}
use Rattle.spec_coding.specs.Report.{picture_lines, report_to, whole_report}
use Rattle.spec_session.specs.Settings.{SessionSettings}
use Rattle.spec_session.specs.Encodings.{encoding, report_head, sequence_of, stream_of}
use Rattle.spec_session.specs.Groups.{coded_pictures, place_after}

pub record Outputs : Type 0 where
  pub stream : List ℕ
  pub recon : List ℕ
  pub report : List ℕ

-- of the pictures coded so far: their access units, the head and what is shown of them in display order, the report without its last line
abbrev pub written_to : SessionSettings → List (Coded Read) → Outputs
written_to f ds = record {
  stream = stream_of f ds;
  recon = film_text f.head (in_order (sequence_of f) ds);
  report = report_to (report_head f) ds;
}

-- of all pictures of a film: the report with its last line
abbrev pub written_whole : SessionSettings → List (Coded Read) → Outputs
written_whole f ds = record (written_to f ds) { report = whole_report (report_head f) ds }

-- what a group adds, where so many pictures were coded before
abbrev pub group_text : SessionSettings → ℕ → List (Coded Read) → Outputs
group_text f coded ds = record {
  stream = stream_of f ds;
  recon = flat_map picture_text (in_order (sequence_of f) ds);
  report = picture_lines coded ds;
}

abbrev pub joined : Outputs → Outputs → Outputs
joined a b = record { stream = a.stream ++ b.stream; recon = a.recon ++ b.recon; report = a.report ++ b.report }

-- ---- at the end of a run

abbrev pub written_by : SessionSettings → Option Refusal → FilmEnd → List (Coded Read) → Outputs
written_by f None Ended ds = written_whole f ds
written_by f None (Faulty fault) ds = written_to f ds
written_by f (Some refusal) end ds = written_to f ds

-- what these settings give of a film, where nothing outside fails: also where a picture is refused, or the film has a fault
abbrev pub outputs_of : SessionSettings → Film → Outputs
outputs_of f film = written_by f (encoding f (coded_pictures f film)).refused film.end (encoding f (coded_pictures f film)).done

-- ---- where something fails

-- a read: the outputs are those of so many whole groups, none of whose pictures was refused
pub record AreReadTo (f : SessionSettings) (pictures : List Planes) (groups : ℕ) (written : Outputs) : Type 0 where
  pub there : (place_after f groups).display ≤ length pictures
  pub none_refused : (encoding f (take (place_after f groups).display pictures)).refused ≡ None
  pub written_is : written ≡ written_to f (encoding f (take (place_after f groups).display pictures)).done

-- a write: each output is a front of what it would have been
abbrev pub IsFront : List ℕ → List ℕ → Type 0
IsFront xs ys = (rest : List ℕ) × (xs ++ rest ≡ ys)

pub record AreFronts (written given : Outputs) : Type 0 where
  pub stream : IsFront written.stream given.stream
  pub recon : IsFront written.recon given.recon
  pub report : IsFront written.report given.report
