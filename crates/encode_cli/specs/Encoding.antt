-- What each answer to the command `encode` leaves behind, and which answer a film has where nothing outside fails.
use Rattle.std.specs.Prelude.{◌≡◌, ◌⊎◌, Some, None}
use Rattle.enc_edge.specs.Seen.{Seen}
use Rattle.spec_film.specs.Films.{Film}
use Rattle.spec_words.specs.declared.command.Settings.{Settings}
use Rattle.spec_words.specs.declared.command.SettingFault.{SettingFault}
use Rattle.spec_words.specs.Choices.{early_of}
use Rattle.spec_session.specs.Answers.{ending_of}
use Rattle.encode_film.specs.Answering.{end_of}
use Rattle.encode_film.specs.Outputs.{Names}
use Rattle.encode_film.specs.Runs.{Encoded, OpenFailed, ReadFault, WriteFault, NoFilm, SettingRefused, Refused, HeadRead}
use Rattle.encode_cli.specs.declared.outcome.Outcome.{Outcome}
use Rattle.encode_cli.specs.declared.outcome.Outcome.TheVariants.{Done, Words, Open, Read, Write, Input, Setting, Buffer, OutOfMemory}
use Rattle.encode_cli.specs.Told.{outcome_of}

-- by the names of the film and of the outputs, the settings, and what the outside shows before and after the film's encoding
abbrev pub FilmLeaves : Names → Settings → Seen → Seen → Outcome → Type 0
FilmLeaves names s old new Done = Encoded names s old new
FilmLeaves names s old new (Words fault) = ⊥
FilmLeaves names s old new (Open place) = OpenFailed names s old new place
FilmLeaves names s old new Read = ReadFault names s old new
FilmLeaves names s old new (Write out) = WriteFault names s out old new
FilmLeaves names s old new (Input fault) = NoFilm names s fault old new
FilmLeaves names s old new (Setting fault) = SettingRefused names s fault old new
FilmLeaves names s old new (Buffer picture need have) = Refused names s (record { picture = picture; need = need; have = have }) old new
FilmLeaves names s old new OutOfMemory = HeadRead names old new

-- before a film is opened: memory for the words, then the settings that need no film
pub data EncodeLeaves (names : Names) (s : Settings) (old new : Seen) (outcome : Outcome) : Type 0 where
  -- memory was wanting for the words; nothing was touched
  words_unread : outcome ≡ OutOfMemory → new ≡ old → EncodeLeaves names s old new outcome
  -- the settings are refused whatever the film is; nothing was touched
  refused_early : (fault : SettingFault) → early_of s ≡ Some fault → outcome ≡ Setting fault → new ≡ old → EncodeLeaves names s old new outcome
  -- they aren't, and this came of the film
  went : early_of s ≡ None → FilmLeaves names s old new outcome → EncodeLeaves names s old new outcome

-- the answer that the film and the settings alone decide, or memory was wanting
abbrev pub EncodeAnswers : Settings → Film → Outcome → Type 0
EncodeAnswers s film outcome = (outcome ≡ outcome_of (end_of (ending_of s film))) ⊎ (outcome ≡ OutOfMemory)
