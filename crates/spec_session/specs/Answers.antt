-- What the settings and the film alone decide: how an encoding ends where nothing outside fails and memory is there.
use Rattle.std.specs.Prelude.{◌≡◌, Option, Some, None, Result, Ok, Err}
use Rattle.spec_film.specs.declared.FilmHead.{FilmHead}
use Rattle.spec_film.specs.declared.InputFault.{InputFault}
use Rattle.spec_film.specs.Films.{Film, FilmEnd, Ended, Faulty}
use Rattle.spec_words.specs.declared.command.Settings.{Settings}
use Rattle.spec_words.specs.declared.command.SettingFault.{SettingFault}
use Rattle.spec_words.specs.Choices.{early_of}
use Rattle.spec_coding.specs.Encoding.{Refusal}
use Rattle.spec_session.specs.Settings.{SessionSettings, completed, setting_of}
use Rattle.spec_session.specs.Encodings.{encoding, IsEncoding}
use Rattle.spec_session.specs.Groups.{coded_pictures}
use Rattle.spec_session.specs.Outputs.{outputs_of}

pub data Ending : Type 0 where
  -- the film was encoded to its end
  Done : Ending
  -- a setting was refused; nothing was written
  Setting : SettingFault → Ending
  -- the input isn't a film, or ceases to be one
  Input : InputFault → Ending
  -- a picture was refused: its place in display order, the bits of its coarsest coding, and those that were there
  Buffer : Refusal → Ending

-- Groups are read before they are coded, so a picture that is refused comes before any fault of the film behind its group.
abbrev pub ending_by : Option Refusal → FilmEnd → Ending
ending_by (Some refusal) end = Buffer refusal
ending_by None Ended = Done
ending_by None (Faulty fault) = Input fault

abbrev pub with_setting : Film → Result SessionSettings SettingFault → Ending
with_setting film (Err fault) = Setting fault
with_setting film (Ok f) = ending_by (encoding f (coded_pictures f film)).refused film.end

-- a film without a head has a fault
abbrev pub with_head : Settings → Film → Option FilmHead → Ending
with_head s film None = ending_by None film.end
with_head s film (Some h) = with_setting film (completed s h)

abbrev pub behind_early : Option SettingFault → Ending → Ending
behind_early (Some fault) ending = Setting fault
behind_early None ending = ending

-- the order of refusals: settings that need no film, the film's head, settings against the head, groups
unfoldable pub ending_of : Settings → Film → Ending
ending_of s film = behind_early (early_of s) (with_head s film film.head)

-- A film that was encoded to its end by these settings: its outputs keep what is promised of them.
pub record Encodes (s : Settings) (film : Film) : Type 0 where
  pub head : FilmHead
  pub settings : SessionSettings
  pub head_is : film.head ≡ Some head
  pub ended : film.end ≡ Ended
  pub setting_is : setting_of s head ≡ Ok settings
  pub is_encoding : IsEncoding settings film.pictures (outputs_of settings film).stream (outputs_of settings film).recon (outputs_of settings film).report
