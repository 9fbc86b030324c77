-- What contracts see of a session.
use Rattle.std.specs.Prelude.{ℕ, ◌≡◌, List, length}
use Rattle.std.specs.List.{AllByRecursion}
use Rattle.spec_film.specs.declared.FilmHead.{FilmHead}
use Rattle.picture_planes.specs.declared.picture.Picture.{Picture}
use Rattle.spec_coding.specs.Encoding.{State}
use Rattle.picture_coder.specs.Sizes.{HasSizes}
use Rattle.spec_session.specs.Settings.{SessionSettings}
use Rattle.spec_session.specs.Groups.{Place}
use Rattle.enc_session.specs.declared.session.Session.{Session}
use Rattle.enc_session.specs.Ready.{settings_in, state_in, place_in, Keeps}

-- the completed settings with the film's head, which never change, and by how many threads a picture is planned
abbrev pub settings_of : Session → SessionSettings
settings_of s = settings_in s.engine

abbrev pub workers_of : Session → ℕ
workers_of s = s.engine.settings.workers

-- what is kept between two groups
abbrev pub state_of : Session → State
state_of s = state_in s.engine

-- where the next group begins
abbrev pub place_of : Session → Place
place_of s = place_in s.engine

-- the pictures of the group that is to be coded, in display order
abbrev pub slots_of : Session → List Picture
slots_of s = s.slots.items

-- there are five, with the film's sizes, rounded up, and the margins of new pictures
pub record HasSlots (h : FilmHead) (slots : List Picture) : Type 0 where
  pub five : length slots ≡ 5
  pub sizes : AllByRecursion (HasSizes h.width h.height) slots

-- A session may code a group: its memory has the film's sizes, and what it keeps fits what was coded. It doesn't ask anything of the slots.
abbrev pub IsReady : Session → Type 0
IsReady s = Keeps s.engine
