-- What each answer to the command `store` leaves behind, and which answer a film has where nothing outside fails.
use Rattle.std.specs.Prelude.{ℕ, ◌≡◌, ◌⊎◌, List}
use Rattle.enc_edge.specs.declared.studio.Out.TheVariants.{Stream}
use Rattle.enc_edge.specs.Seen.{Seen}
use Rattle.spec_film.specs.Films.{FilmEnd, Ended, Faulty}
use Rattle.store_film.specs.Runs.{Stored, OpenFailed, ReadFault, WriteFault, NoFilm, HeadRead}
use Rattle.encode_cli.specs.declared.outcome.Outcome.{Outcome}
use Rattle.encode_cli.specs.declared.outcome.Outcome.TheVariants.{Done, Words, Open, Read, Write, Input, Setting, Buffer, OutOfMemory}

-- by the names of input and stream, and what the outside shows before and after; memory may be wanting for the words too, and nothing was touched then
abbrev pub StoreLeaves : List ℕ → List ℕ → Seen → Seen → Outcome → Type 0
StoreLeaves input output old new Done = Stored input output old new
StoreLeaves input output old new (Words fault) = ⊥
StoreLeaves input output old new (Open place) = OpenFailed input old new place
StoreLeaves input output old new Read = ReadFault input output old new
StoreLeaves input output old new (Write out) = (out ≡ Stream) × WriteFault input output old new
StoreLeaves input output old new (Input fault) = NoFilm input output fault old new
StoreLeaves input output old new (Setting fault) = ⊥
StoreLeaves input output old new (Buffer picture need have) = ⊥
StoreLeaves input output old new OutOfMemory = (new ≡ old) ⊎ HeadRead input old new

-- a film that ends is done with, another is refused for its fault
abbrev pub stored_answer : FilmEnd → Outcome
stored_answer Ended = Done
stored_answer (Faulty fault) = Input fault

-- that answer, or memory was wanting
abbrev pub StoreAnswers : FilmEnd → Outcome → Type 0
StoreAnswers end outcome = (outcome ≡ stored_answer end) ⊎ (outcome ≡ OutOfMemory)
