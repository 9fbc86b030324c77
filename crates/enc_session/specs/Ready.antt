-- What a session keeps between two pictures, and between two groups.
use Rattle.std.specs.Prelude.{ℕ, ◌≡◌, ◌≤◌, ◌<◌, ◌≤ℤ◌, ◌+◌, ◌*◌, ◌^◌, ◌%◌, ◌==◌, pos, max, false, [], length, None, Ok}
use Rattle.std.specs.List.{AllByRecursion}
use Rattle.spec_film.specs.Films.{AllowedHead}
use Rattle.spec_words.specs.Choices.{early_of}
use Rattle.picture_planes.specs.Clamped.{rounded}
use Rattle.spec_lists.specs.Heads.{newest_number}
use Rattle.ref_lists.specs.Stored.{references_of, held_of, places_of, width_of, height_of}
use Rattle.buffer_control.specs.Seen.{rate_of as rate_in, spent_of}
use Rattle.picture_coder.specs.Coders.{IsMadeFor, HasOwnSizes, payload_room}
use Rattle.spec_coding.specs.Encoding.{State}
use Rattle.spec_session.specs.Settings.{SessionSettings, AreInRange, completed, settled}
use Rattle.spec_session.specs.Encodings.{rate_of}
use Rattle.spec_session.specs.Groups.{Place}
use Rattle.enc_session.specs.declared.engine.Engine.{Engine}

abbrev pub settings_in : Engine → SessionSettings
settings_in e = settled e.settings e.head e.level

abbrev pub state_in : Engine → State
state_in e = record { held = held_of e.store; ledger = spent_of e.ledger; idrs = e.idrs; last_idr = e.last_idr; compared = e.compared }

abbrev pub place_in : Engine → Place
place_in e = record { display = e.display; number = e.number }

-- units so far
abbrev pub units_in : Engine → ℕ
units_in e = (spent_of e.ledger).units

-- room for access units of as many bits as the buffer of a receiver holds, and for the units before the slices whatever that is
abbrev pub unit_room : ℕ → ℕ
unit_room cpb = max cpb 65536

-- ---- between two pictures: memory is of the film's sizes, and the numbers are those of the pictures that were coded

pub record Holds (e : Engine) : Type 0 where
  pub range : AreInRange e.settings
  pub early : early_of e.settings ≡ None
  pub head : AllowedHead e.head
  pub complete : completed e.settings e.head ≡ Ok (settings_in e)
  pub coder : IsMadeFor e.coder e.head.width e.head.height e.settings.slices e.settings.workers
  pub sizes : HasOwnSizes e.coder
  pub coder_room : e.settings.cpb ≤ payload_room e.coder
  pub width : width_of e.store ≡ rounded e.head.width
  pub height : height_of e.store ≡ rounded e.head.height
  pub places : places_of e.store ≡ e.settings.refs
  pub rate : rate_in e.ledger ≡ rate_of (settings_in e)
  pub payload : e.payload ≡ record { text = []; room = 8192; made = 8192 }
  pub unit : e.unit.made ≡ unit_room e.settings.cpb
  pub idrs : e.idrs ≤ units_in e
  pub last_idr : e.last_idr ≤ units_in e
  pub compared : e.compared ≤ units_in e * 2 ^ 34
  pub origin : AllByRecursion (λ r. pos 0 ≤ℤ r.poc) (references_of e.store)

-- ---- between two groups

-- where the next one doesn't begin with an IDR picture: the newest reference has the number before the next one, and all are shown before it
pub record GoesOn (e : Engine) : Type 0 where
  pub some : 1 ≤ length (held_of e.store)
  pub newest : newest_number (held_of e.store) + 1 ≡ e.number
  pub small : e.number ≤ e.display % e.settings.idr
  pub before : AllByRecursion (λ r. r.poc < 2 * (e.display % e.settings.idr)) (held_of e.store)

pub record Keeps (e : Engine) : Type 0 where
  pub holds : Holds e
  pub counted : units_in e ≡ e.display
  pub goes_on : (e.display % e.settings.idr == 0) ≡ false → GoesOn e
