-- The loop that stores pictures.
use Rattle.std.proofs.Common.{ℕ, zero, suc, ◌+◌, ◌-◌, ◌*◌, ◌%◌, ◌≡◌, ◌<◌, ◌≤◌, List, [], ◌∷◌, ◌++◌, length, take, drop, Option, Some, None, refl, ap, sym, ◌∙◌, subst, arith, append_assoc, append-nil, length-append}
use Rattle.std.specs.Prelude.{IfSome, Bool, All, Result, Ok, Err}
use Rattle.spec_bits.specs.Bits.{bits_of_bytes, bytes_of_bits, IsByte}
use Rattle.spec_bits.proofs.Digits.{bytes_of_bits-bits_of_bytes, length-bits_of_bytes}
use Rattle.bit_strings.specs.BitText.{BitText}
use Rattle.std.specs.Option.{option_map}
use Rattle.std.specs.Result.{IsErrAnd}
use Rattle.std.proofs.Math.Seq.{take-append-add}
use Rattle.enc_edge.specs.declared.studio.Out.TheVariants.{Stream}
use Rattle.enc_edge.specs.declared.studio.Place.TheVariants as places
use Rattle.enc_edge.specs.Seen.{Seen}
use Rattle.enc_edge.specs.Calls.{took, wrote, LaterFailed}
use Rattle.enc_edge.specs.Reads.{Took, TookSome, ReadFailed}
use Rattle.enc_edge.proofs.Spots.{took_more, took_none, wrote_none, wrote_more}
use Rattle.spec_film.specs.declared.FilmHead.{FilmHead}
use Rattle.spec_film.specs.declared.InputFault.{InputFault}
use Rattle.spec_film.specs.declared.InputFault.TheVariants as faults
use Rattle.spec_film.specs.Films.{Planes, Ended, Faulty, Next, Broken, most_pictures, frame_step}
use Rattle.spec_stream.specs.Stored.{stored_picture, stored_pictures, stored_stream}
use Rattle.std.proofs.lemmas.List.Elements.{All-nil, All-cons, All-append}
use Rattle.spec_stream.specs.Pictures.{IsPicture}
use Rattle.spec_stream.proofs.StoredLaws.{stored_pictures-push}
use Rattle.picture_planes.specs.declared.picture.Picture.{Picture}
use Rattle.picture_planes.specs.Pictures.{SameShapes}
use Rattle.y4m_film.specs.declared.pictures.FrameFault.{FrameFault}
use Rattle.y4m_film.specs.declared.pictures.FrameFault.TheVariants.{NotFrame, CutFrame, TooLong, ReadFault}
use Rattle.y4m_film.specs.FrameEnds.{FrameEnd}
use Rattle.y4m_film.specs.Sizes.{FitsHead}
use Rattle.y4m_film.proofs.Remaining.{Remains, remains_none, remains_more, remains_over, remains_broken, none_left, none_more, taken_of}
use Rattle.store_film.specs.declared.ends.StoreEnd.{StoreEnd}
use Rattle.store_film.specs.declared.ends.StoreEnd.TheVariants.{Open, Read, Write, Input, OutOfMemory}
use Rattle.store_film.specs.Faults.{frame_end}
use Rattle.store_film.specs.Pictures.{PicturesEnd, PictureUnread, PictureUnwritten, PicturesLeft, EndLeft}

-- so many pictures were stored
pub record Going (head : FilmHead) (number : ℕ) (old new : Seen) : Type 0 where
  pub count : ℕ
  pub pictures : List Planes
  pub size : length pictures ≡ number
  pub are : All (IsPicture head) pictures
  pub change : new ≡ wrote (places.Output Stream) (stored_stream head pictures) (took places.Input count old)
  pub told : IfSome old.input.bytes (Remains head number count pictures)

stored_none : (head : FilmHead) → stored_stream head [] ≡ []
unfolding stored_pictures
stored_none head = refl

pub going_none : (head : FilmHead) (old : Seen) → Going head 0 old old
going_none head old = record {
  count = 0;
  pictures = [];
  size = refl;
  are = All-nil (IsPicture head);
  change = sym (ap (λ text. wrote (places.Output Stream) text (took places.Input 0 old)) (stored_none head) ∙ wrote_none (places.Output Stream) (took places.Input 0 old) ∙ took_none old);
  told = remains_none head old.input.bytes;
}

-- more bytes are taken behind what was written
took_wrote : (n m : ℕ) (text : List ℕ) (s : Seen) → took places.Input m (wrote (places.Output Stream) text (took places.Input n s)) ≡ wrote (places.Output Stream) text (took places.Input (n + m) s)
took_wrote n m text s = ap (wrote (places.Output Stream) text) (took_more n m s)

-- what the next step of the film says of the bytes that were left at the start
along : (old mid : Seen) (count : ℕ) (text : List ℕ) (P : List ℕ → Type 0) → mid ≡ wrote (places.Output Stream) text (took places.Input count old) → IfSome mid.input.bytes P → IfSome (option_map (drop count) old.input.bytes) P
along old mid count text P change told = subst (λ (s : Seen). IfSome s.input.bytes P) change told

pub going_more : (head : FilmHead) (number m : ℕ) (planes : Planes) (old mid read new : Seen) → number < most_pictures → Going head number old mid
    → read ≡ took places.Input m mid → IfSome mid.input.bytes (λ left. frame_step (most_pictures - number) head left ≡ Next planes (drop m left))
    → new ≡ wrote (places.Output Stream) (stored_picture head number planes) read → IsPicture head planes → Going head (number + 1) old new
going_more head number m planes old mid read new below g was next did is_picture = record {
  count = g.count + m;
  pictures = g.pictures ++ planes ∷ [];
  size = length-append g.pictures (planes ∷ []) ∙ ap (λ n. n + 1) g.size;
  are = All-append (IsPicture head) g.pictures (planes ∷ []) g.are (All-cons (IsPicture head) planes [] is_picture (All-nil (IsPicture head)));
  change = did
      ∙ ap (wrote (places.Output Stream) (stored_picture head number planes)) (was ∙ ap (took places.Input m) g.change ∙ took_wrote g.count m (stored_stream head g.pictures) old)
      ∙ wrote_more (places.Output Stream) (stored_stream head g.pictures) (stored_picture head number planes) (took places.Input (g.count + m) old)
      ∙ ap (λ text. wrote (places.Output Stream) text (took places.Input (g.count + m) old)) (sym (stored_pictures-push head 0 number g.pictures planes (zero_before (length g.pictures) ∙ g.size)));
  told = remains_more head number g.count m g.pictures planes old.input.bytes below g.told
      (along old mid g.count (stored_stream head g.pictures) (λ left. frame_step (most_pictures - number) head left ≡ Next planes (drop m left)) g.change next);
}
  where
    zero_before : (n : ℕ) → 0 + n ≡ n
    zero_before n = omega arith

pub going_end : (head : FilmHead) (number : ℕ) (old mid new : Seen) → Going head number old mid → Took 0 (λ left. left ≡ []) mid new → PicturesEnd head Ended old new
going_end head number old mid new g t = record {
  count = g.count;
  pictures = g.pictures;
  change = t.change ∙ took_none mid ∙ g.change;
  are = g.are;
  told = remains_over head number g.count g.pictures old.input.bytes g.told none;
  taken = λ _. none_left g.count old.input.bytes none;
}
  where
    none : IfSome (option_map (drop g.count) old.input.bytes) (λ left. left ≡ [])
    none = along old mid g.count (stored_stream head g.pictures) (λ left. left ≡ []) g.change t.content

going_broken : (head : FilmHead) (number : ℕ) (fault : InputFault) (old mid new : Seen) → Going head number old mid
    → TookSome (λ left. frame_step (most_pictures - number) head left ≡ Broken fault) mid new → PicturesEnd head (Faulty fault) old new
going_broken head number fault old mid new g t = record {
  count = g.count + t.0;
  pictures = g.pictures;
  change = t.1.change ∙ ap (took places.Input t.0) g.change ∙ took_wrote g.count t.0 (stored_stream head g.pictures) old;
  are = g.are;
  told = remains_broken head number g.count g.pictures fault old.input.bytes g.told
      (along old mid g.count (stored_stream head g.pictures) (λ left. frame_step (most_pictures - number) head left ≡ Broken fault) g.change t.1.content);
  taken = λ e. absurd (cc);
}

going_unread : (head : FilmHead) (number : ℕ) (old mid new : Seen) → Going head number old mid → ReadFailed mid new → PictureUnread head old new
going_unread head number old mid new g failed =
    let m = failed.0 in
    record {
      count = g.count + m;
      pictures = g.pictures;
      between = took places.Input m mid;
      stored = record {
        change = ap (took places.Input m) g.change ∙ took_wrote g.count m (stored_stream head g.pictures) old;
        whole = g.count;
        within = at_least g.count m;
        told = taken_of head number g.count g.pictures old.input.bytes g.size g.told;
      };
      failed = failed.1;
    }
  where
    at_least : (n m : ℕ) → n ≤ n + m
    at_least n m = omega arith

front_of : (e : ℕ) (text unit all : List ℕ) → e ≤ length unit → all ≡ text ++ unit → text ++ take e unit ≡ take (length text + e) all
front_of e text unit all h is =
    sym (ap (take (length text + e)) is ∙ take-append-add text unit e)

pub going_unwritten : (head : FilmHead) (number m e : ℕ) (planes : Planes) (unit : List ℕ) (old mid read new : Seen) → number < most_pictures → Going head number old mid
    → read ≡ took places.Input m mid → IfSome mid.input.bytes (λ left. frame_step (most_pictures - number) head left ≡ Next planes (drop m left))
    → unit ≡ stored_picture head number planes → e ≤ length unit → LaterFailed (places.Output Stream) (wrote (places.Output Stream) (take e unit) read) new → IsPicture head planes → PictureUnwritten head old new
unfolding going_more
going_unwritten head number m e planes unit old mid read new below g was next is short failed is_picture =
    let text = stored_stream head g.pictures in
    let after = going_more head number m planes old mid read (wrote (places.Output Stream) (stored_picture head number planes) read) below g was next refl is_picture in
    let reached : wrote (places.Output Stream) (take e unit) read ≡ wrote (places.Output Stream) (text ++ take e unit) (took places.Input (g.count + m) old)
    = ap (wrote (places.Output Stream) (take e unit)) (was ∙ ap (took places.Input m) g.change ∙ took_wrote g.count m text old) ∙ wrote_more (places.Output Stream) text (take e unit) (took places.Input (g.count + m) old) in
    let front : text ++ take e unit ≡ take (length text + e) (stored_stream head (g.pictures ++ planes ∷ []))
    = front_of e text unit (stored_stream head (g.pictures ++ planes ∷ [])) short
    (stored_pictures-push head 0 number g.pictures planes (zero_before (length g.pictures) ∙ g.size) ∙ ap (λ u. text ++ u) (sym is)) in
    record {
      count = g.count + m;
      size = length text + e;
      pictures = g.pictures ++ planes ∷ [];
      failed = subst (λ (s : Seen). LaterFailed (places.Output Stream) s new) (reached ∙ ap (λ t. wrote (places.Output Stream) t (took places.Input (g.count + m) old)) front) failed;
      told = taken_of head (number + 1) (g.count + m) (g.pictures ++ planes ∷ []) old.input.bytes after.size after.told;
    }
  where
    zero_before : (n : ℕ) → 0 + n ≡ n
    zero_before n = omega arith

-- the picture keeps the sizes of the film
pub fits_still : (head : FilmHead) (old new : Picture) → SameShapes old new → FitsHead head old → FitsHead head new
fits_still head old new same fits = record {
  luma_width = same.0.0 ∙ fits.luma_width;
  luma_height = same.0.1 ∙ fits.luma_height;
  cb_width = same.1.0 ∙ fits.cb_width;
  cb_height = same.1.1 ∙ fits.cb_height;
  cr_width = same.2.0 ∙ fits.cr_width;
  cr_height = same.2.1 ∙ fits.cr_height;
}

-- the next picture wasn't read
pub going_fault : (head : FilmHead) (number : ℕ) (old mid new : Seen) (end : StoreEnd) → Going head number old mid → (fault : FrameFault) → end ≡ frame_end fault → FrameEnd head number mid new fault
    → PicturesLeft head old new (Err end)
going_fault head number old mid new end g fault is left = subst (λ (e : StoreEnd). PicturesLeft head old new (Err e)) (sym is) (by fault left)
  where
    by : (f : FrameFault) → FrameEnd head number mid new f → PicturesLeft head old new (Err (frame_end f))
    by (NotFrame picture) left = going_broken head number (faults.NotFrame picture) old mid new g left.1
    by (CutFrame picture got) left = going_broken head number (faults.CutFrame picture got) old mid new g (got, left.1)
    by TooLong left = going_broken head number faults.TooLong old mid new g (1, left.1)
    by ReadFault left = going_unread head number old mid new g (left.count, left.failed)

-- so of the read behind the last picture that a film may have
pub last_fault : (head : FilmHead) (old new : Seen) (end : StoreEnd) (fault : FrameFault) → end ≡ frame_end fault → FrameEnd head 1000000 old new fault → EndLeft head old new (Err end)
last_fault head old new end fault is left = subst (λ (e : StoreEnd). EndLeft head old new (Err e)) (sym is) (by fault left)
  where
    by : (f : FrameFault) → FrameEnd head 1000000 old new f → EndLeft head old new (Err (frame_end f))
    by (NotFrame picture) left = left.1
    by (CutFrame picture got) left = (got, left.1)
    by TooLong left = (1, left.1)
    by ReadFault left = (left.count, left.failed)

-- what is written is the picture's access unit
pub units_are : (unit written : List ℕ) (text : List Bool) → text ≡ bits_of_bytes unit → All IsByte unit → written ≡ bytes_of_bits text → written ≡ unit
units_are unit written text is small shown = shown ∙ ap bytes_of_bits is ∙ bytes_of_bits-bits_of_bytes unit small

-- the read behind the last picture that a film may have
pub going_last : (head : FilmHead) (number : ℕ) (old mid new : Seen) → number ≡ 1000000 → Going head number old mid → (r : Result (Unit {0}) StoreEnd) → EndLeft head mid new r → PicturesLeft head old new r
going_last head number old mid new last g (Ok done) t = going_end head number old mid new g t
going_last head number old mid new last g (Err Read) t = going_unread head number old mid new g t
going_last head number old mid new last g (Err (Input fault)) t =
    going_broken head number fault old mid new g (subst (λ k. TookSome (λ left. frame_step k head left ≡ Broken fault) mid new) (none_more number last) t)
going_last head number old mid new last g (Err Write) t = absurd t
going_last head number old mid new last g (Err (Open place)) t = absurd t
going_last head number old mid new last g (Err OutOfMemory) t = absurd t

-- what is handed on by `?` is the end that was met
pub handed_on : (P : Result (Unit {0}) StoreEnd → Type 0) (r : Result (Unit {0}) StoreEnd) (end : StoreEnd) → IsErrAnd r (λ e. e ≡ end) → P (Err end) → P r
handed_on P (Ok done) end is p = absurd is
handed_on P (Err e) end is p = subst (λ x. P (Err x)) (sym is) p

pub bytes_whole : (b c : BitText) (unit : List ℕ) → c ≡ record b { text = bits_of_bytes unit } → length c.text % 8 ≡ 0
bytes_whole b c unit is = ap (λ (x : BitText). length x.text % 8) is ∙ ap (λ n. n % 8) (length-bits_of_bytes unit) ∙ whole (length unit)
  where
    whole : (n : ℕ) → 8 * n % 8 ≡ 0
    whole n = omega arith
