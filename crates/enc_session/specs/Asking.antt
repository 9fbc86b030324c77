-- What a picture is coded from, by the references in the store.
use Rattle.std.specs.Prelude.{ℕ, ◌≡◌, ◌≤◌, ◌*◌, ◌%◌, ◌^◌, ◌≤ℤ◌, pos, true, false, List, [], map, Result, Ok, Err}
use Rattle.std.specs.List.{AllByRecursion}
use Rattle.enc_tables.specs.declared.records.PlanStep.{PlanStep}
use Rattle.bit_strings.specs.BitText.{BitText}
use Rattle.picture_planes.specs.declared.picture.Picture.{Picture}
use Rattle.picture_planes.specs.Pictures.{AreFilled}
use Rattle.spec_film.specs.Films.{Planes}
use Rattle.spec_lists.specs.References.{Reference as Shown}
use Rattle.spec_words.specs.declared.command.Settings.{Settings}
use Rattle.spec_plan.specs.Marks.{mark, KindFits}
use Rattle.spec_film_coder.specs.Pictures.{compared_at}
use Rattle.spec_film_coder.specs.Sound.{StepFits}
use Rattle.ref_lists.specs.declared.held.Reference.{Reference}
use Rattle.ref_lists.specs.declared.store.RefStore.{RefStore}
use Rattle.ref_lists.specs.Entries.{next_number}
use Rattle.ref_lists.specs.Stored.{references_of, held_of, width_of, height_of}
use Rattle.picture_coder.specs.declared.coder.PictureCoder.{PictureCoder}
use Rattle.picture_coder.specs.Coders.{mbs_across, mbs_down, slice_count, worker_count, payload_room}
use Rattle.picture_coder.specs.Sizes.{HasSizes}
use Rattle.enc_session.specs.declared.trials.Pick.{Pick}
use Rattle.enc_session.specs.Trying.{Asked, PickLeft}

-- of a picture before which so many IDR pictures were coded
abbrev pub asked_of : PictureCoder → Settings → ℕ → PlanStep → List Shown → Planes → Asked
asked_of c s idrs st held source = record {
  shape = record { across = mbs_across c; down = mbs_down c; slices = slice_count c; t8x8 = s.t8x8; range = s.range };
  held = held;
  step = st;
  idr_id = idrs % 2;
  source = source;
}

-- how many vectors are compared for it
abbrev pub compared_of : Asked → ℕ
compared_of a = compared_at a.shape a.held a.step a.source

-- the coder is that of these settings, and the store has pictures of its size
pub record GoesWith (c : PictureCoder) (s : Settings) (store : RefStore) : Type 0 where
  pub slices : slice_count c ≡ s.slices
  pub workers : worker_count c ≡ s.workers
  pub range_some : 1 ≤ s.range
  pub range_fits : s.range ≤ 32
  pub width : width_of store ≡ 16 * mbs_across c
  pub height : height_of store ≡ 16 * mbs_down c

-- a step of the plan may be coded by what the store holds
pub record MayFollow (store : RefStore) (st : PlanStep) : Type 0 where
  pub step : StepFits st.idr st.kind st
  pub origin : AllByRecursion (λ r. pos 0 ≤ℤ r.poc) (references_of store)
  pub marks : KindFits st.kind st.poc st.frame_num (map mark (held_of store))
  pub none : st.idr ≡ true → held_of store ≡ []
  pub number : st.idr ≡ false → st.frame_num ≡ next_number (held_of store)

-- a source of the coder's size, with filled margins
pub record IsSource (c : PictureCoder) (p : Picture) : Type 0 where
  pub sizes : HasSizes (16 * mbs_across c) (16 * mbs_down c) p
  pub filled : AreFilled p

abbrev pub SlicesLeft : Asked → ℕ → ℕ → BitText → BitText → Reference → Result (Pick × ℕ) ℕ → Type 0
SlicesLeft a start have old new kept (Ok x) = PickLeft a start have old new kept (Ok x.0) × (x.1 ≡ compared_of a) × (x.1 ≤ 2 ^ 34)
SlicesLeft a start have old new kept (Err need) = PickLeft a start have old new kept (Err need)

-- a coder of the same sizes, with the same room
pub record SameCoder (old new : PictureCoder) : Type 0 where
  pub across : mbs_across new ≡ mbs_across old
  pub down : mbs_down new ≡ mbs_down old
  pub slices : slice_count new ≡ slice_count old
  pub workers : worker_count new ≡ worker_count old
  pub room : payload_room new ≡ payload_room old
