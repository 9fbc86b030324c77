-- A picture that is read into a slot.
use Rattle.std.specs.Prelude.{ℕ, ◌≡◌, Bool, List, set, Result}
use Rattle.enc_edge.specs.Seen.{Seen}
use Rattle.spec_film.specs.declared.FilmHead.{FilmHead}
use Rattle.spec_stream.specs.Pictures.{IsPicture}
use Rattle.picture_planes.specs.declared.picture.Picture.{Picture}
use Rattle.picture_planes.specs.Pictures.{planes_of}
use Rattle.enc_session.specs.Sessions.{HasSlots}
use Rattle.encode_film.specs.declared.ends.EncodeEnd.{EncodeEnd}
use Rattle.encode_film.specs.Reading.{PictureRead}

-- slot k was written, and no other
pub record SlotRead (head : FilmHead) (number k : ℕ) (before after : List Picture) (old new : Seen) (result : Result Bool EncodeEnd) : Type 0 where
  pub picture : Picture
  pub change : after ≡ set before k picture
  pub fits : HasSlots head after
  pub is : IsPicture head (planes_of picture)
  pub read : PictureRead head number (planes_of picture) old new result
