-- What the loop that stores the pictures does to the outside, from behind the film's head on.
use Rattle.std.specs.Prelude.{ℕ, ◌≡◌, ◌≤◌, ◌++◌, List, [], take, drop, IfSome, Result, Ok, Err}
use Rattle.enc_edge.specs.declared.studio.Out.TheVariants.{Stream}
use Rattle.enc_edge.specs.declared.studio.Place.TheVariants as places
use Rattle.enc_edge.specs.Seen.{Seen}
use Rattle.enc_edge.specs.Calls.{LaterFailed, wrote, took}
use Rattle.enc_edge.specs.Reads.{Took, TookSome, ReadFailed}
use Rattle.spec_film.specs.declared.FilmHead.{FilmHead}
use Rattle.spec_film.specs.Films.{Planes, FilmEnd, Ended, Faulty, Broken, most_pictures, frame_step, pictures_of}
use Rattle.std.specs.List.{All}
use Rattle.spec_stream.specs.Pictures.{IsPicture}
use Rattle.spec_stream.specs.Stored.{stored_stream}
use Rattle.y4m_film.specs.Taken.{PicturesTaken}
use Rattle.store_film.specs.declared.ends.StoreEnd.{StoreEnd}
use Rattle.store_film.specs.declared.ends.StoreEnd.TheVariants.{Open, Read, Write, Input, OutOfMemory}

-- n bytes were taken and these pictures stored, which are the first `whole` of the bytes
pub record PicturesStored (head : FilmHead) (n : ℕ) (pictures : List Planes) (old new : Seen) : Type 0 where
  pub change : new ≡ wrote (places.Output Stream) (stored_stream head pictures) (took places.Input n old)
  pub whole : ℕ
  pub within : whole ≤ n
  pub told : IfSome old.input.bytes (PicturesTaken head whole pictures)

-- all pictures of the bytes were stored, and the bytes end so
pub record PicturesEnd (head : FilmHead) (end : FilmEnd) (old new : Seen) : Type 0 where
  pub count : ℕ
  pub pictures : List Planes
  pub change : new ≡ wrote (places.Output Stream) (stored_stream head pictures) (took places.Input count old)
  pub are : All (IsPicture head) pictures
  pub told : IfSome old.input.bytes (λ left. pictures_of most_pictures head left ≡ (pictures, end))
  pub taken : end ≡ Ended → IfSome old.input.bytes (λ left. drop count left ≡ [])

-- pictures were stored, and then a read failed
pub record PictureUnread (head : FilmHead) (old new : Seen) : Type 0 where
  pub count : ℕ
  pub pictures : List Planes
  pub between : Seen
  pub stored : PicturesStored head count pictures old between
  pub failed : LaterFailed places.Input between new

-- a write failed when a front of what stores the pictures was written, and no picture behind them was read
pub record PictureUnwritten (head : FilmHead) (old new : Seen) : Type 0 where
  pub count : ℕ
  pub size : ℕ
  pub pictures : List Planes
  pub failed : LaterFailed (places.Output Stream) (wrote (places.Output Stream) (take size (stored_stream head pictures)) (took places.Input count old)) new
  pub told : IfSome old.input.bytes (PicturesTaken head count pictures)

-- what is left after each end of the loop
abbrev pub PicturesLeft : FilmHead → Seen → Seen → Result (Unit {0}) StoreEnd → Type 0
PicturesLeft head old new (Ok done) = PicturesEnd head Ended old new
PicturesLeft head old new (Err Read) = PictureUnread head old new
PicturesLeft head old new (Err Write) = PictureUnwritten head old new
PicturesLeft head old new (Err (Input fault)) = PicturesEnd head (Faulty fault) old new
PicturesLeft head old new (Err (Open place)) = ⊥
PicturesLeft head old new (Err OutOfMemory) = ⊥

-- the same of the read behind the last picture that a film may have
abbrev pub EndLeft : FilmHead → Seen → Seen → Result (Unit {0}) StoreEnd → Type 0
EndLeft head old new (Ok done) = Took 0 (λ left. left ≡ []) old new
EndLeft head old new (Err Read) = ReadFailed old new
EndLeft head old new (Err (Input fault)) = TookSome (λ left. frame_step 0 head left ≡ Broken fault) old new
EndLeft head old new (Err Write) = ⊥
EndLeft head old new (Err (Open place)) = ⊥
EndLeft head old new (Err OutOfMemory) = ⊥
