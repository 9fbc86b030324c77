-- How the pictures of a group are read.
use Rattle.std.specs.Prelude.{ℕ, ◌≡◌, ◌<◌, ◌≤◌, ◌+◌, ◌-◌, true, false, Bool, List, [], ◌++◌, length, take, drop, map, IfSome, Result, Ok, Err}
use Rattle.std.specs.List.{All}
use Rattle.enc_edge.specs.declared.studio.Place.TheVariants as places
use Rattle.enc_edge.specs.Seen.{Seen}
use Rattle.enc_edge.specs.Calls.{took}
use Rattle.enc_edge.specs.Reads.{Took, TookSome, ReadFailed}
use Rattle.spec_film.specs.declared.FilmHead.{FilmHead}
use Rattle.spec_film.specs.declared.InputFault.{InputFault}
use Rattle.spec_film.specs.Films.{Planes, Faulty, Next, Broken, most_pictures, frame_step, pictures_of}
use Rattle.spec_stream.specs.Pictures.{IsPicture}
use Rattle.picture_planes.specs.declared.picture.Picture.{Picture}
use Rattle.picture_planes.specs.Pictures.{planes_of}
use Rattle.encode_film.specs.declared.ends.EncodeEnd.{EncodeEnd}
use Rattle.encode_film.specs.declared.ends.EncodeEnd.TheVariants.{Open, Read, Write, Input, Setting, Buffer, OutOfMemory}

-- ---- one picture

-- by how the reading of the picture of this number ended: it was read; the film ended before it; or there is none
abbrev pub PictureRead : FilmHead → ℕ → Planes → Seen → Seen → Result Bool EncodeEnd → Type 0
PictureRead head number planes old new (Ok true) =
    (number < 1000000) × (n : ℕ) × Took n (λ left. (n ≤ length left) × (frame_step (most_pictures - number) head left ≡ Next planes (drop n left))) old new
PictureRead head number planes old new (Ok false) = Took 0 (λ left. left ≡ []) old new
PictureRead head number planes old new (Err Read) = ReadFailed old new
PictureRead head number planes old new (Err (Input fault)) = TookSome (λ left. frame_step (most_pictures - number) head left ≡ Broken fault) old new
PictureRead head number planes old new (Err (Open place)) = ⊥
PictureRead head number planes old new (Err (Write out)) = ⊥
PictureRead head number planes old new (Err (Setting fault)) = ⊥
PictureRead head number planes old new (Err (Buffer picture need have)) = ⊥
PictureRead head number planes old new (Err OutOfMemory) = ⊥

-- ---- a group

-- The first n bytes are these pictures, where at most so many may come: the other pictures are those of the bytes behind, and both end alike.
pub record AreRead (head : FilmHead) (most n : ℕ) (pictures : List Planes) (left : List ℕ) : Type 0 where
  pub all : pictures ++ (pictures_of (most - length pictures) head (drop n left)).0 ≡ (pictures_of most head left).0
  pub end : (pictures_of (most - length pictures) head (drop n left)).1 ≡ (pictures_of most head left).1

-- so many pictures were read from this place on, of at most so many; where they are fewer, the film ended
pub record GroupTaken (head : FilmHead) (place most got : ℕ) (pictures : List Planes) (old new : Seen) : Type 0 where
  pub within : got ≤ most
  pub few : place + got ≤ 1000000
  pub size : length pictures ≡ got
  pub are : All (IsPicture head) pictures
  pub count : ℕ
  pub change : new ≡ took places.Input count old
  pub told : IfSome old.input.bytes (AreRead head (most_pictures - place) count pictures)
  pub last : got < most → IfSome old.input.bytes (λ left. drop count left ≡ [])

-- the film has this fault in its next pictures, of which at most so many were to be read
pub record GroupBroken (head : FilmHead) (place most : ℕ) (fault : InputFault) (left : List ℕ) : Type 0 where
  pub pictures : List Planes
  pub few : length pictures < most
  pub are_all : pictures_of (most_pictures - place) head left ≡ (pictures, Faulty fault)

-- by how the reading of a group ended, with what stands in the slots then
abbrev pub GroupRead : FilmHead → ℕ → ℕ → List Picture → Seen → Seen → Result ℕ EncodeEnd → Type 0
GroupRead head place most slots old new (Ok got) = GroupTaken head place most got (take got (map planes_of slots)) old new
GroupRead head place most slots old new (Err Read) = ReadFailed old new
GroupRead head place most slots old new (Err (Input fault)) = TookSome (GroupBroken head place most fault) old new
GroupRead head place most slots old new (Err (Open place_of)) = ⊥
GroupRead head place most slots old new (Err (Write out)) = ⊥
GroupRead head place most slots old new (Err (Setting fault)) = ⊥
GroupRead head place most slots old new (Err (Buffer picture need have)) = ⊥
GroupRead head place most slots old new (Err OutOfMemory) = ⊥
