-- What a run of `encode` does to the outside.
use Rattle.std.specs.Prelude.{ℕ, ◌≡◌, ◌≤◌, List, [], length, drop, Some, None, IfSome, Ok, Err}
use Rattle.enc_edge.specs.declared.studio.Out.{Out}
use Rattle.enc_edge.specs.declared.studio.Out.TheVariants.{Stream, Recon, Report}
use Rattle.enc_edge.specs.declared.studio.Place.{Place}
use Rattle.enc_edge.specs.declared.studio.Place.TheVariants.{Input, Output}
use Rattle.enc_edge.specs.Seen.{Seen, spot_at}
use Rattle.enc_edge.specs.Calls.{Rose, OpeningFailed, LaterFailed, opened}
use Rattle.spec_film.specs.declared.FilmHead.{FilmHead}
use Rattle.spec_film.specs.declared.InputFault.{InputFault}
use Rattle.spec_film.specs.Films.{Planes, Ended, Faulty, film_of}
use Rattle.spec_words.specs.declared.command.Settings.{Settings}
use Rattle.spec_words.specs.declared.command.SettingFault.{SettingFault}
use Rattle.spec_buffer.specs.Buffer.{BufferHolds}
use Rattle.spec_buffer.specs.Ledger.{sizes_of}
use Rattle.spec_coding.specs.Encoding.{Refusal}
use Rattle.spec_coding.specs.Laws.{spendings}
use Rattle.spec_session.specs.Settings.{SessionSettings, setting_of}
use Rattle.spec_session.specs.Encodings.{encoding, rate_of, IsEncoding}
use Rattle.spec_session.specs.Groups.{coded_pictures, place_after}
use Rattle.spec_session.specs.Outputs.{Outputs, AreFronts, outputs_of, written_to, written_whole}
use Rattle.y4m_film.specs.Taken.{HeadIs, FilmTaken, IsFilm}
use Rattle.encode_film.specs.Outputs.{Names, reading, all_shut, encoded_to}
use Rattle.encode_film.specs.Calls.{shut_before}

-- ---- a film that was encoded to its end

-- The run is closed: each count of faults is as before, the outputs stand shut under their names, the input open under its name, and all else
-- is as before. What was written keeps all that is promised of an encoding. Where the input's bytes are told, none is left of them, and they
-- are the film of these pictures.
pub record Encoded (names : Names) (s : Settings) (old new : Seen) : Type 0 where
  pub count : ℕ
  pub head : FilmHead
  pub settings : SessionSettings
  pub pictures : List Planes
  pub setting_is : setting_of s head ≡ Ok settings
  pub keeps : IsEncoding settings pictures (written_whole settings (encoding settings pictures).done).stream
      (written_whole settings (encoding settings pictures).done).recon (written_whole settings (encoding settings pictures).done).report
  pub closed : new ≡ all_shut (encoded_to names (written_whole settings (encoding settings pictures).done) count old)
  pub whole : IfSome old.input.bytes (λ left. (drop count left ≡ []) × IsFilm left head pictures Ended)

-- the same before the outputs are closed
pub record AllEncoded (names : Names) (s : Settings) (old new : Seen) : Type 0 where
  pub count : ℕ
  pub head : FilmHead
  pub settings : SessionSettings
  pub pictures : List Planes
  pub setting_is : setting_of s head ≡ Ok settings
  pub keeps : IsEncoding settings pictures (written_whole settings (encoding settings pictures).done).stream
      (written_whole settings (encoding settings pictures).done).recon (written_whole settings (encoding settings pictures).done).report
  pub now : new ≡ encoded_to names (written_whole settings (encoding settings pictures).done) count old
  pub whole : IfSome old.input.bytes (λ left. (drop count left ≡ []) × IsFilm left head pictures Ended)

-- ---- before an output is opened

-- the input stands open under its name, its head was read and no byte behind it
pub record HeadRead (names : Names) (old new : Seen) : Type 0 where
  pub count : ℕ
  pub head : FilmHead
  pub now : new ≡ reading names count old
  pub told : IfSome old.input.bytes (HeadIs head count)

-- and the settings fit the head
pub record SettingsFit (names : Names) (s : Settings) (old new : Seen) : Type 0 where
  pub count : ℕ
  pub head : FilmHead
  pub settings : SessionSettings
  pub setting_is : setting_of s head ≡ Ok settings
  pub now : new ≡ reading names count old
  pub told : IfSome old.input.bytes (HeadIs head count)

-- or they don't: no output was opened
pub record SettingRefused (names : Names) (s : Settings) (fault : SettingFault) (old new : Seen) : Type 0 where
  pub count : ℕ
  pub head : FilmHead
  pub refused : setting_of s head ≡ Err fault
  pub now : new ≡ reading names count old
  pub told : IfSome old.input.bytes (HeadIs head count)

-- the outputs that stand before one were opened
abbrev pub opened_before : Names → Out → Seen → Seen
opened_before names Stream s = s
opened_before names Recon s = opened (Output Stream) names.stream s
opened_before names Report s = opened (Output Recon) names.recon (opened (Output Stream) names.stream s)

-- a place couldn't be opened: nothing was written, and where it is the input, nothing was read
abbrev pub OpenFailed : Names → Settings → Seen → Seen → Place → Type 0
OpenFailed names s old new Input = OpeningFailed Input old new
OpenFailed names s old new (Output out) = (mid : Seen) × SettingsFit names s old mid × OpeningFailed (Output out) (opened_before names out mid) new

-- ---- while pictures are encoded

-- The outside once so many whole groups were encoded, none of whose pictures was refused: each has its access unit, its line in the report, and
-- the picture that is shown; the report has no last line. Of the n bytes that were taken the first `whole` are the head and these pictures.
pub record GroupsEncoded (names : Names) (s : Settings) (n groups : ℕ) (old new : Seen) : Type 0 where
  pub head : FilmHead
  pub settings : SessionSettings
  pub pictures : List Planes
  pub setting_is : setting_of s head ≡ Ok settings
  pub size : length pictures ≡ (place_after settings groups).display
  pub none_refused : (encoding settings pictures).refused ≡ None
  pub now : new ≡ encoded_to names (written_to settings (encoding settings pictures).done) n old
  pub buffer : BufferHolds (rate_of settings) (sizes_of (spendings (encoding settings pictures).done))
  pub whole : ℕ
  pub within : whole ≤ n
  pub told : IfSome old.input.bytes (λ left. FilmTaken left whole head pictures)

-- a read failed: before an output was opened, or behind whole groups
pub data ReadFault (names : Names) (s : Settings) (old new : Seen) : Type 0 where
  in_head : (n : ℕ) → LaterFailed Input (reading names n old) new → ReadFault names s old new
  in_group : (n groups : ℕ) (mid : Seen) → GroupsEncoded names s n groups old mid → LaterFailed Input mid new → ReadFault names s old new

-- the film has a fault: the whole groups before it were encoded
pub record FilmCut (names : Names) (s : Settings) (fault : InputFault) (old new : Seen) : Type 0 where
  pub count : ℕ
  pub head : FilmHead
  pub settings : SessionSettings
  pub groups : ℕ
  pub pictures : List Planes
  pub setting_is : setting_of s head ≡ Ok settings
  pub size : length pictures ≡ (place_after settings groups).display
  pub none_refused : (encoding settings pictures).refused ≡ None
  pub now : new ≡ encoded_to names (written_to settings (encoding settings pictures).done) count old
  pub buffer : BufferHolds (rate_of settings) (sizes_of (spendings (encoding settings pictures).done))
  pub told : IfSome old.input.bytes (λ left. ((film_of left).head ≡ Some head) × ((film_of left).end ≡ Faulty fault) × (coded_pictures settings (film_of left) ≡ pictures))

-- the input isn't a film: its head is none, and nothing was written; or one of its pictures
pub data NoFilm (names : Names) (s : Settings) (fault : InputFault) (old new : Seen) : Type 0 where
  no_head : (n : ℕ) → new ≡ reading names n old
      → IfSome old.input.bytes (λ left. ((film_of left).head ≡ None) × ((film_of left).end ≡ Faulty fault)) → NoFilm names s fault old new
  cut_short : FilmCut names s fault old new → NoFilm names s fault old new

-- A picture was refused: the pictures that were coded before it are written. Where the input's bytes are told, so the encoding of the film ends.
pub record Refused (names : Names) (s : Settings) (refusal : Refusal) (old new : Seen) : Type 0 where
  pub count : ℕ
  pub head : FilmHead
  pub settings : SessionSettings
  pub pictures : List Planes
  pub setting_is : setting_of s head ≡ Ok settings
  pub refused : (encoding settings pictures).refused ≡ Some refusal
  pub now : new ≡ encoded_to names (written_to settings (encoding settings pictures).done) count old
  pub buffer : BufferHolds (rate_of settings) (sizes_of (spendings (encoding settings pictures).done))
  pub told : IfSome old.input.bytes (λ left. ((film_of left).head ≡ Some head) × (encoding settings (coded_pictures settings (film_of left)) ≡ encoding settings pictures))

-- A write failed: each output is a front of what the encoding of these pictures gives. Where the input's bytes are told, it is a front of what
-- the film gives.
pub record OutputsCut (names : Names) (s : Settings) (out : Out) (old new : Seen) : Type 0 where
  pub count : ℕ
  pub head : FilmHead
  pub settings : SessionSettings
  pub pictures : List Planes
  pub setting_is : setting_of s head ≡ Ok settings
  pub written : Outputs
  pub fronts : AreFronts written (written_whole settings (encoding settings pictures).done)
  pub buffer : BufferHolds (rate_of settings) (sizes_of (spendings (encoding settings pictures).done))
  pub failed : LaterFailed (Output out) (encoded_to names written count old) new
  pub told : IfSome old.input.bytes (λ left. ((film_of left).head ≡ Some head) × AreFronts written (outputs_of settings (film_of left)))

-- a write to an output failed, or its closing, when all was written
pub data WriteFault (names : Names) (s : Settings) (out : Out) (old new : Seen) : Type 0 where
  cut : OutputsCut names s out old new → WriteFault names s out old new
  closing : (mid : Seen) → AllEncoded names s old mid → LaterFailed (Output out) (shut_before out mid) new → WriteFault names s out old new

-- nothing outside failed: no count of faults rose
pub record NoFault (old new : Seen) : Type 0 where
  pub opening : (place : Place) → ¬ Rose (spot_at place old).opening (spot_at place new).opening
  pub later : (place : Place) → ¬ Rose (spot_at place old).later (spot_at place new).later
