-- What a session is made of before its first group.
use Rattle.std.specs.Prelude.{ℕ, ◌≡◌, ◌≤◌}
use Rattle.spec_film.specs.declared.FilmHead.{FilmHead}
use Rattle.spec_words.specs.declared.command.Settings.{Settings}
use Rattle.picture_coder.specs.declared.coder.PictureCoder.{PictureCoder}
use Rattle.picture_coder.specs.Coders.{IsMadeFor, HasOwnSizes, payload_room}
use Rattle.spec_session.specs.Encodings.{start}
use Rattle.spec_session.specs.Groups.{first_place}
use Rattle.enc_session.specs.declared.engine.Engine.{Engine}
use Rattle.enc_session.specs.Ready.{settings_in, state_in, place_in, Keeps}

-- a coder for pictures of this head, with room for a slice that fills the buffer of a receiver
pub record HasCoder (s : Settings) (h : FilmHead) (c : PictureCoder) : Type 0 where
  pub made : IsMadeFor c h.width h.height s.slices s.workers
  pub sizes : HasOwnSizes c
  pub room : s.cpb ≤ payload_room c

-- by these settings with this level, before the first picture
pub record Begins (s : Settings) (h : FilmHead) (level : ℕ) (e : Engine) : Type 0 where
  pub settings : e.settings ≡ s
  pub head : e.head ≡ h
  pub level_is : e.level ≡ level
  pub state : state_in e ≡ start (settings_in e)
  pub place : place_in e ≡ first_place
  pub keeps : Keeps e
