-- How the reading of a picture ends where there is none.
use Rattle.std.specs.Prelude.{ℕ, ◌≡◌, ◌≤◌, ◌<◌, ◌+◌, ◌-◌, true, false, Bool, List, [], length, IfSome, Option, Some, None, Result, Ok, Err}
use Rattle.enc_edge.specs.declared.studio.Place.TheVariants.{Input}
use Rattle.enc_edge.specs.Seen.{Seen}
use Rattle.enc_edge.specs.Calls.{took, LaterFailed}
use Rattle.enc_edge.specs.Reads.{Took, TookSome, ReadFailedWithin}
use Rattle.spec_film.specs.declared.FilmHead.{FilmHead}
use Rattle.spec_film.specs.declared.InputFault.{InputFault}
use Rattle.spec_film.specs.declared.InputFault.TheVariants as faults
use Rattle.spec_film.specs.Films.{Planes, Broken, frame_step, frame_count, most_line, most_pictures, planes_count, planes_at, padded, is_unlike_frame}
use Rattle.y4m_film.specs.declared.pictures.FrameFault.{FrameFault}
use Rattle.y4m_film.specs.declared.pictures.FrameFault.TheVariants.{NotFrame, CutFrame, TooLong, ReadFault}

-- a read failed within a picture: some of its bytes were taken, but not all
pub record FrameUnread (head : FilmHead) (old new : Seen) : Type 0 where
  pub count : ℕ
  pub few : count < most_line + planes_count head
  pub told : IfSome old.input.bytes (λ left. (count ≤ length left) × (count < frame_count head left))
  pub failed : LaterFailed Input (took Input count old) new

-- what each fault says of the bytes left, where so many pictures were read before, and what was taken of them
abbrev pub FrameEnd : FilmHead → ℕ → Seen → Seen → FrameFault → Type 0
FrameEnd head number old new (NotFrame picture) =
    (picture ≡ number) × TookSome (λ left. frame_step (most_pictures - number) head left ≡ Broken (faults.NotFrame picture)) old new
FrameEnd head number old new (CutFrame picture got) =
    (picture ≡ number) × Took got (λ left. frame_step (most_pictures - number) head left ≡ Broken (faults.CutFrame picture got)) old new
FrameEnd head number old new TooLong = (number ≡ most_pictures) × Took 1 (λ left. frame_step (most_pictures - number) head left ≡ Broken faults.TooLong) old new
FrameEnd head number old new ReadFault = FrameUnread head old new

-- what is answered where these bytes, which have no line feed and are fewer than a line may have, were all that were left
abbrev pub CutEnd : ℕ → List ℕ → Result Bool FrameFault → Type 0
CutEnd number bytes (Ok more) = (more ≡ false) × (bytes ≡ [])
CutEnd number bytes (Err (NotFrame picture)) = (0 < length bytes) × (is_unlike_frame bytes ≡ true) × (picture ≡ number)
CutEnd number bytes (Err (CutFrame picture got)) = (0 < length bytes) × (is_unlike_frame bytes ≡ false) × (picture ≡ number) × (got ≡ length bytes)
CutEnd number bytes (Err TooLong) = ⊥
CutEnd number bytes (Err ReadFault) = ⊥

-- what is answered behind the line of a picture, which has so many bytes
abbrev pub PlanesEnd : FilmHead → ℕ → ℕ → Planes → Seen → Seen → Result Bool FrameFault → Type 0
PlanesEnd head number line planes old new (Ok more) =
    (more ≡ true) × Took (planes_count head) (λ left. (planes_count head ≤ length left) × (planes ≡ padded head (planes_at head left))) old new
PlanesEnd head number line planes old new (Err (CutFrame picture got)) =
    (picture ≡ number) × (n : ℕ) × (got ≡ line + n) × (n < planes_count head) × Took n (λ left. length left ≡ n) old new
PlanesEnd head number line planes old new (Err (NotFrame picture)) = ⊥
PlanesEnd head number line planes old new (Err TooLong) = ⊥
PlanesEnd head number line planes old new (Err ReadFault) = ReadFailedWithin (planes_count head) old new

-- the fault of the input
abbrev pub input_fault : FrameFault → Option InputFault
input_fault (NotFrame picture) = Some (faults.NotFrame picture)
input_fault (CutFrame picture got) = Some (faults.CutFrame picture got)
input_fault TooLong = Some faults.TooLong
input_fault ReadFault = None
