-- What the loop over the groups does to the outside, once all places stand open.
use Rattle.std.specs.Prelude.{ℕ, ◌≡◌, ◌≤◌, List, [], length, drop, Some, None, IfSome, Result, Ok, Err}
use Rattle.std.specs.List.{All}
use Rattle.enc_edge.specs.declared.studio.Out.{Out}
use Rattle.enc_edge.specs.declared.studio.Place.TheVariants as places
use Rattle.enc_edge.specs.Seen.{Seen}
use Rattle.enc_edge.specs.Calls.{LaterFailed}
use Rattle.spec_film.specs.declared.FilmHead.{FilmHead}
use Rattle.spec_film.specs.declared.InputFault.{InputFault}
use Rattle.spec_film.specs.Films.{Planes, Ended, Faulty, most_pictures, pictures_of}
use Rattle.spec_stream.specs.Pictures.{IsPicture}
use Rattle.spec_coding.specs.Encoding.{State, Refusal}
use Rattle.spec_session.specs.Settings.{SessionSettings}
use Rattle.spec_session.specs.Encodings.{encoding}
use Rattle.spec_session.specs.Groups.{coded_by, place_after}
use Rattle.spec_session.specs.Outputs.{Outputs, AreFronts, written_to, written_whole}
use Rattle.y4m_film.specs.Taken.{PicturesTaken}
use Rattle.encode_film.specs.declared.ends.EncodeEnd.{EncodeEnd}
use Rattle.encode_film.specs.declared.ends.EncodeEnd.TheVariants.{Open, Read, Write, Input, Setting, Buffer, OutOfMemory}
use Rattle.encode_film.specs.Outputs.{put, outputs_by}

-- these are pictures of a film
pub record ArePictures (head : FilmHead) (pictures : List Planes) : Type 0 where
  pub are : All (IsPicture head) pictures
  pub few : length pictures ≤ 1000000

-- so many whole groups were read and coded: they are the first `whole` of the n bytes that were taken
pub record GroupsCoded (head : FilmHead) (f : SessionSettings) (n groups : ℕ) (pictures : List Planes) (old new : Seen) : Type 0 where
  pub are : ArePictures head pictures
  pub size : length pictures ≡ (place_after f groups).display
  pub none_refused : (encoding f pictures).refused ≡ None
  pub change : new ≡ put (written_to f (encoding f pictures).done) n old
  pub whole : ℕ
  pub within : whole ≤ n
  pub told : IfSome old.input.bytes (PicturesTaken head whole pictures)

-- all pictures of the film were coded, and this is kept behind them
pub record AllCoded (head : FilmHead) (f : SessionSettings) (old new : Seen) (state : State) : Type 0 where
  pub count : ℕ
  pub pictures : List Planes
  pub are : ArePictures head pictures
  pub none_refused : (encoding f pictures).refused ≡ None
  pub state_is : state ≡ (encoding f pictures).end
  pub change : new ≡ put (written_to f (encoding f pictures).done) count old
  pub told : IfSome old.input.bytes (λ left. (pictures_of most_pictures head left ≡ (pictures, Ended)) × (drop count left ≡ []))

-- the same, with the last line of the report
pub record AllWritten (head : FilmHead) (f : SessionSettings) (old new : Seen) : Type 0 where
  pub count : ℕ
  pub pictures : List Planes
  pub are : ArePictures head pictures
  pub none_refused : (encoding f pictures).refused ≡ None
  pub change : new ≡ put (written_whole f (encoding f pictures).done) count old
  pub told : IfSome old.input.bytes (λ left. (pictures_of most_pictures head left ≡ (pictures, Ended)) × (drop count left ≡ []))

-- whole groups were coded, and then a read failed
pub record GroupUnread (head : FilmHead) (f : SessionSettings) (old new : Seen) : Type 0 where
  pub count : ℕ
  pub groups : ℕ
  pub pictures : List Planes
  pub between : Seen
  pub coded : GroupsCoded head f count groups pictures old between
  pub failed : LaterFailed places.Input between new

-- whole groups were coded, and the film has this fault in the next one
pub record FilmBroken (head : FilmHead) (f : SessionSettings) (fault : InputFault) (old new : Seen) : Type 0 where
  pub count : ℕ
  pub groups : ℕ
  pub pictures : List Planes
  pub are : ArePictures head pictures
  pub size : length pictures ≡ (place_after f groups).display
  pub none_refused : (encoding f pictures).refused ≡ None
  pub change : new ≡ put (written_to f (encoding f pictures).done) count old
  pub told : IfSome old.input.bytes (λ left. ((pictures_of most_pictures head left).1 ≡ Faulty fault) × (coded_by f (Faulty fault) (pictures_of most_pictures head left).0 ≡ pictures))

-- a picture was refused; those coded before it are written
pub record PictureRefused (head : FilmHead) (f : SessionSettings) (refusal : Refusal) (old new : Seen) : Type 0 where
  pub count : ℕ
  pub pictures : List Planes
  pub are : ArePictures head pictures
  pub refused : (encoding f pictures).refused ≡ Some refusal
  pub change : new ≡ put (written_to f (encoding f pictures).done) count old
  pub told : IfSome old.input.bytes (λ left. encoding f (coded_by f (pictures_of most_pictures head left).1 (pictures_of most_pictures head left).0) ≡ encoding f pictures)

-- a write to `out` failed: of each output a front was written
pub record OutputCut (head : FilmHead) (f : SessionSettings) (out : Out) (old new : Seen) : Type 0 where
  pub count : ℕ
  pub pictures : List Planes
  pub are : ArePictures head pictures
  pub written : Outputs
  pub fronts : AreFronts written (written_whole f (encoding f pictures).done)
  pub failed : LaterFailed (places.Output out) (put written count old) new
  pub told : IfSome old.input.bytes (λ left. AreFronts written (outputs_by f (pictures_of most_pictures head left)))

-- not all was encoded
abbrev pub Stopped : FilmHead → SessionSettings → Seen → Seen → EncodeEnd → Type 0
Stopped head f old new Read = GroupUnread head f old new
Stopped head f old new (Write out) = OutputCut head f out old new
Stopped head f old new (Input fault) = FilmBroken head f fault old new
Stopped head f old new (Buffer picture need have) = PictureRefused head f (record { picture = picture; need = need; have = have }) old new
Stopped head f old new (Open place) = ⊥
Stopped head f old new (Setting fault) = ⊥
Stopped head f old new OutOfMemory = ⊥

-- by how the loop ended
abbrev pub GroupsLeft : FilmHead → SessionSettings → Seen → Seen → State → Result (Unit {0}) EncodeEnd → Type 0
GroupsLeft head f old new state (Ok done) = AllCoded head f old new state
GroupsLeft head f old new state (Err end) = Stopped head f old new end

-- the same, with the last line of the report
abbrev pub PicturesLeft : FilmHead → SessionSettings → Seen → Seen → Result (Unit {0}) EncodeEnd → Type 0
PicturesLeft head f old new (Ok done) = AllWritten head f old new
PicturesLeft head f old new (Err end) = Stopped head f old new end
