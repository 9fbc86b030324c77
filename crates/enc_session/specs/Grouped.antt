-- All pictures of a group.
use Rattle.std.specs.Prelude.{ℕ, ◌≡◌, ◌≤◌, ◌<◌, ◌+◌, ◌*◌, ◌%◌, ◌==◌, false, List, [], ◌∷◌, length, map, Result}
use Rattle.std.specs.List.{AllByRecursion}
use Rattle.enc_edge.specs.Seen.{Seen}
use Rattle.enc_tables.specs.declared.records.PlanStep.{PlanStep}
use Rattle.spec_film.specs.Films.{Planes}
use Rattle.spec_film.specs.Cropping.{shown}
use Rattle.spec_lists.specs.Heads.{newest_number}
use Rattle.spec_decoder.specs.Macroblocks.{Slice as Read}
use Rattle.spec_coding.specs.Encoding.{State, Coded, in_order}
use Rattle.spec_session.specs.Settings.{SessionSettings}
use Rattle.spec_session.specs.Encodings.{sequence_of}
use Rattle.spec_session.specs.Groups.{place_behind}
use Rattle.ref_lists.specs.Stored.{held_of}
use Rattle.enc_session.specs.declared.engine.Engine.{Engine}
use Rattle.enc_session.specs.declared.ends.GroupEnd.{GroupEnd}
use Rattle.enc_session.specs.Going.{EndedBy}
use Rattle.enc_session.specs.Ready.{settings_in, place_in, units_in}
use Rattle.enc_session.specs.Showing.{coded_planes}

-- so many were coded; in display order these are their pictures
pub record StepsLeft (f : SessionSettings) (s0 : State) (xs : List (PlanStep × Planes)) (old new : Seen) (s : State) (slots newest : List Planes) (n : ℕ) (r : Result (Unit {0}) GroupEnd) : Type 0 where
  pub done : List (Coded Read)
  pub order : in_order (sequence_of f) done ≡ map (shown f.head) (coded_planes n slots newest)
  pub ended : EndedBy f s0 xs done old new s r

-- behind a whole group of so many pictures the next one may follow
pub record GoneOn (old new : Engine) (n : ℕ) : Type 0 where
  pub units : units_in new ≡ units_in old + n
  pub some : 1 ≤ length (held_of new.store)
  pub newest : newest_number (held_of new.store) + 1 ≡ (place_behind (settings_in old) (place_in old) n).number
  pub small : ((old.display + n) % old.settings.idr == 0) ≡ false → newest_number (held_of new.store) + 1 ≤ (old.display + n) % old.settings.idr
  pub before : ((old.display + n) % old.settings.idr == 0) ≡ false → AllByRecursion (λ r. r.poc < 2 * ((old.display + n) % old.settings.idr)) (held_of new.store)

-- the place behind these steps
abbrev pub first_number : List PlanStep → ℕ
first_number [] = 0
first_number (st ∷ sts) = st.frame_num

abbrev pub Passed : List PlanStep → Engine → Engine → Type 0
Passed steps old new = new ≡ record old { display = old.display + length steps; number = first_number steps + 1 }
