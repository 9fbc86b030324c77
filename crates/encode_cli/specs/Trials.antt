-- What each answer to the command `trial` leaves behind: an encoding of a film that is made in memory.
use Rattle.std.specs.Prelude.{ℕ, ◌≡◌, List, [], Some, None, Ok}
use Rattle.std.specs.Borrow.{GName}
use Rattle.enc_edge.specs.Seen.{Seen}
use Rattle.enc_edge.specs.Filmed.{filmed}
use Rattle.enc_session.specs.Left.{added}
use Rattle.film_maker.specs.Made.{made_film}
use Rattle.spec_film.specs.declared.FilmHead.{FilmHead}
use Rattle.spec_film.specs.Films.{Planes, Ended}
use Rattle.spec_session.specs.Encodings.{encoding, IsEncoding}
use Rattle.spec_session.specs.Outputs.{written_whole}
use Rattle.spec_session.specs.Settings.{SessionSettings, setting_of}
use Rattle.spec_words.specs.declared.command.Made.{Made}
use Rattle.spec_words.specs.declared.command.Outputs.{Outputs}
use Rattle.spec_words.specs.declared.command.Settings.{Settings}
use Rattle.spec_words.specs.declared.command.SettingFault.{SettingFault}
use Rattle.spec_words.specs.Choices.{early_of}
use Rattle.y4m_film.specs.Taken.{IsFilm}
use Rattle.encode_film.specs.Outputs.{all_open, all_shut, named}
use Rattle.encode_cli.specs.declared.outcome.Outcome.{Outcome}
use Rattle.encode_cli.specs.declared.outcome.Outcome.TheVariants.{Setting, OutOfMemory}
use Rattle.encode_cli.specs.Encoding.{FilmLeaves}

-- the bytes of the film
abbrev pub film_made : Made → List ℕ
film_made made = made_film made.seed made.width made.height made.count

-- This happened to a studio whose input is a film in memory, and whose outputs are those of the outside: it is told all of the film, and then what
-- is left of it. The outside's own input is as it was, in all that is told of it.
pub record InFilm (Happened : Seen → Seen → Type 0) (film : List ℕ) (old new : Seen) : Type 0 where
  pub lender : GName
  pub left : List ℕ
  pub happened : Happened (filmed film lender old) (filmed left lender new)
  pub input_same : new.input ≡ old.input
  pub aside_same : new.aside ≡ old.aside

-- before the film is encoded: memory for the words, the settings that need no film, memory for the film; the film has no name
pub data TrialLeaves (made : Made) (outputs : Outputs) (s : Settings) (old new : Seen) (outcome : Outcome) : Type 0 where
  -- memory was wanting for the words or for the film; nothing was touched
  film_unmade : outcome ≡ OutOfMemory → new ≡ old → TrialLeaves made outputs s old new outcome
  -- the settings are refused whatever the film is; nothing was touched
  refused_untried : (fault : SettingFault) → early_of s ≡ Some fault → outcome ≡ Setting fault → new ≡ old → TrialLeaves made outputs s old new outcome
  -- they aren't, and this came of the film
  tried : early_of s ≡ None → InFilm (λ before after. FilmLeaves (named [] outputs) s before after outcome) (film_made made) old new → TrialLeaves made outputs s old new outcome

-- A trial that came to its end is closed: each count of faults is as before, the outputs stand shut under their names, and all else is as before, the
-- input too. What was written keeps all that is promised of an encoding of the film that was made.
pub record TrialEncoded (made : Made) (outputs : Outputs) (s : Settings) (old new : Seen) : Type 0 where
  pub head : FilmHead
  pub settings : SessionSettings
  pub pictures : List Planes
  pub setting_is : setting_of s head ≡ Ok settings
  pub keeps : IsEncoding settings pictures (written_whole settings (encoding settings pictures).done).stream
      (written_whole settings (encoding settings pictures).done).recon (written_whole settings (encoding settings pictures).done).report
  pub closed : new ≡ all_shut (added (written_whole settings (encoding settings pictures).done) (all_open (named [] outputs) old))
  pub whole : IsFilm (film_made made) head pictures Ended
