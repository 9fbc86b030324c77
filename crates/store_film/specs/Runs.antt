-- What a run of `store` does to the outside.
use Rattle.std.specs.Prelude.{ℕ, ◌≡◌, ◌≤◌, ◌++◌, List, [], take, drop, map, Some, None, IfSome}
use Rattle.enc_edge.specs.declared.studio.Out.TheVariants.{Stream, Recon, Report}
use Rattle.enc_edge.specs.declared.studio.Place.{Place}
use Rattle.enc_edge.specs.declared.studio.Place.TheVariants.{Input, Output}
use Rattle.enc_edge.specs.Seen.{Seen}
use Rattle.enc_edge.specs.Calls.{OpeningFailed, LaterFailed, opened, shut, wrote, took}
use Rattle.y4m_film.specs.Taken.{HeadIs, FilmTaken, IsFilm}
use Rattle.spec_film.specs.declared.FilmHead.{FilmHead}
use Rattle.spec_film.specs.declared.InputFault.{InputFault}
use Rattle.spec_film.specs.Films.{Planes, FilmEnd, Ended, Faulty, film_of}
use Rattle.spec_film.specs.Cropping.{shown}
use Rattle.spec_decoder.specs.Frames.{decode}
use Rattle.spec_stream.specs.Stored.{stored_stream}

-- the outside once the input stands open under its name and n of its bytes were taken
abbrev pub reading : List ℕ → ℕ → Seen → Seen
reading input n old = took Input n (opened Input input old)

-- the outside once, further, the stream stands open under its name and this text was written to it
abbrev pub storing : List ℕ → List ℕ → ℕ → List ℕ → Seen → Seen
storing input output n text old = wrote (Output Stream) text (opened (Output Stream) output (reading input n old))

-- the run is closed: each fault number is as before, the stream stands shut under its name, the input open under its name, all else is as before.
-- What was written is the stream that stores the padded pictures, and every decoder shows it as these pictures, cropped to the head's sizes. Where the
-- input's bytes are told, none is left of them, and they are the film of these pictures.
pub record Stored (input output : List ℕ) (old new : Seen) : Type 0 where
  pub count : ℕ
  pub head : FilmHead
  pub pictures : List Planes
  pub closed : new ≡ shut (Output Stream) (storing input output count (stored_stream head pictures) old)
  pub shows : decode (stored_stream head pictures) ≡ Some (map (shown head) pictures)
  pub whole : IfSome old.input.bytes (λ left. (drop count left ≡ []) × IsFilm left head pictures Ended)

-- the input stands open under its name, its head was read and no byte behind it
pub record HeadRead (input : List ℕ) (old new : Seen) : Type 0 where
  pub count : ℕ
  pub head : FilmHead
  pub now : new ≡ reading input count old
  pub told : IfSome old.input.bytes (HeadIs head count)

-- a place couldn't be opened: nothing was written, and where it is the input, nothing was read. `store` opens no other output than the stream
abbrev pub OpenFailed : List ℕ → Seen → Seen → Place → Type 0
OpenFailed input old new Input = OpeningFailed Input old new
OpenFailed input old new (Output Stream) = (mid : Seen) × HeadRead input old mid × OpeningFailed (Output Stream) mid new
OpenFailed input old new (Output Recon) = ⊥
OpenFailed input old new (Output Report) = ⊥

-- the outside once these pictures of the film were stored, and n bytes of the input were taken: the first `whole` of them are the head and the pictures
pub record StoredSoFar (input output : List ℕ) (n : ℕ) (head : FilmHead) (pictures : List Planes) (old new : Seen) : Type 0 where
  pub now : new ≡ storing input output n (stored_stream head pictures) old
  pub whole : ℕ
  pub within : whole ≤ n
  pub told : IfSome old.input.bytes (λ left. FilmTaken left whole head pictures)

-- a read failed: before the stream was opened, or after some pictures were stored
pub data ReadFault (input output : List ℕ) (old new : Seen) : Type 0 where
  in_head : (n : ℕ) → LaterFailed Input (reading input n old) new → ReadFault input output old new
  in_pictures : (n : ℕ) (head : FilmHead) (pictures : List Planes) (mid : Seen)
      → StoredSoFar input output n head pictures old mid → LaterFailed Input mid new → ReadFault input output old new

-- a write to the stream or its closing failed: what was written is a front of the stream that stores the film's first pictures, and no picture
-- behind these was read
pub record WriteFault (input output : List ℕ) (old new : Seen) : Type 0 where
  pub count : ℕ
  pub size : ℕ
  pub head : FilmHead
  pub pictures : List Planes
  pub failed : LaterFailed (Output Stream) (storing input output count (take size (stored_stream head pictures)) old) new
  pub told : IfSome old.input.bytes (λ left. FilmTaken left count head pictures)

-- the input isn't a film: its head is none, and nothing was written; or the film ends so, and its pictures before that were stored
pub data NoFilm (input output : List ℕ) (fault : InputFault) (old new : Seen) : Type 0 where
  no_head : (n : ℕ) → new ≡ reading input n old
      → IfSome old.input.bytes (λ left. ((film_of left).head ≡ None) × ((film_of left).end ≡ Faulty fault)) → NoFilm input output fault old new
  cut_short : (n : ℕ) (head : FilmHead) (pictures : List Planes) → new ≡ storing input output n (stored_stream head pictures) old
      → IfSome old.input.bytes (λ left. IsFilm left head pictures (Faulty fault)) → NoFilm input output fault old new
