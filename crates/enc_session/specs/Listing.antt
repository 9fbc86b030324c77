-- The lists of a picture, with the command that it has.
use Rattle.std.specs.Prelude.{ℕ, ◌≡◌, [], length, Option, Some, None}
use Rattle.enc_tables.specs.declared.records.SliceKind.{SliceKind}
use Rattle.enc_tables.specs.declared.records.SliceKind.TheVariants.{I, P, B}
use Rattle.spec_film.specs.Films.{Planes}
use Rattle.spec_headers.specs.declared.heads.SliceHead.{SliceHead}
use Rattle.spec_lists.specs.Lists.{lists_of}
use Rattle.spec_tasks.specs.Entries.{command_of}
use Rattle.ref_lists.specs.declared.naming.Lists.{Lists}
use Rattle.ref_lists.specs.Held.{all_seen}
use Rattle.ref_lists.specs.Entries.{next_number, ArePlaces}
use Rattle.ref_lists.specs.Named.{named}

-- the lists of a P picture have the command of its source, and are those that a decoder makes of its headers
pub record IsReordered (source : Planes) (old new : Lists) (command : Option ℕ) : Type 0 where
  pub held : new.held ≡ old.held
  pub command_is : command ≡ command_of P (next_number (all_seen old.held.now)) source (all_seen old.held.now)
  pub lists : (h : SliceHead) → h.kind ≡ P → h.frame_num ≡ next_number (all_seen old.held.now) → h.refs0 ≡ length (all_seen old.held.now) → h.refs1 ≡ 0 → h.moved ≡ command → lists_of h (all_seen old.held.now) ≡ Some (named new)
  pub first : ArePlaces (length new.held.now) new.list0.items
  pub second : new.list1.items ≡ []
  pub long : length new.list0.items ≡ length (all_seen old.held.now)

abbrev pub MovedLeft : SliceKind → Planes → Lists → Lists → Option ℕ → Type 0
MovedLeft I source old new command = (new ≡ old) × (command ≡ None)
MovedLeft P source old new command = IsReordered source old new command
MovedLeft B source old new command = (new ≡ old) × (command ≡ None)
