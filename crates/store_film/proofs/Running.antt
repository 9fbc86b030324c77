-- What the calls of a run make together.
use Rattle.std.proofs.Common.{ℕ, ◌+◌, ◌≤◌, ◌≡◌, List, [], length, take, drop, Option, Some, None, refl, ap, sym, ◌∙◌, subst, arith}
use Rattle.std.proofs.lemmas.Grind.{common_steps}
use Rattle.std.specs.Prelude.{◌≢◌, IfSome, Result, Err}
use Rattle.std.specs.Option.{option_map}
use Rattle.enc_edge.specs.declared.studio.Out.TheVariants.{Stream}
use Rattle.enc_edge.specs.declared.studio.Place.TheVariants as places
use Rattle.enc_edge.specs.Seen.{Seen}
use Rattle.enc_edge.specs.Calls.{took, wrote, opened, shut, LaterFailed}
use Rattle.enc_edge.specs.Reads.{Took, TookSome, ReadFailed}
use Rattle.enc_edge.proofs.Spots.{took_more}
use Rattle.spec_film.specs.declared.FilmHead.{FilmHead}
use Rattle.spec_film.specs.declared.InputFault.{InputFault}
use Rattle.spec_film.specs.declared.InputFault.TheVariants as faults
use Rattle.spec_film.specs.declared.HeadFault.{HeadFault}
use Rattle.spec_film.specs.declared.HeadFault.TheVariants as heads
use Rattle.spec_film.specs.Films.{AllowedHead, Planes, FilmEnd, Ended, Faulty, most_pictures, pictures_of, read_head}
use Rattle.spec_stream.specs.Stored.{stored_stream}
use Rattle.spec_decoding.proofs.Stored.{stored_stream_decodes}
use Rattle.y4m_film.specs.LineReads.{LineUnread}
use Rattle.y4m_film.specs.Taken.{HeadIs, FilmTaken, IsFilm, PicturesTaken}
use Rattle.y4m_film.proofs.Remaining.{of_both, taken_all}
use Rattle.y4m_film.proofs.Behind.{told_both, told_taken, told_film, told_none, told_no_head}
use Rattle.store_film.specs.declared.ends.StoreEnd.{StoreEnd}
use Rattle.store_film.specs.declared.ends.StoreEnd.TheVariants.{Open, Read, Write, Input, OutOfMemory}
use Rattle.store_film.specs.Faults.{head_end}
use Rattle.store_film.specs.Leaving.{Leaves}
use Rattle.store_film.specs.Pictures.{PicturesEnd, PictureUnread, PictureUnwritten, PicturesLeft}
use Rattle.store_film.specs.Runs.{reading, storing, Stored, HeadRead, ReadFault, in_head, in_pictures, WriteFault, NoFilm, no_head, cut_short}

-- the stream stands open, the head was read from the first n bytes
pub record Begun (input output : List ℕ) (head : FilmHead) (n : ℕ) (old mid : Seen) : Type 0 where
  pub change : mid ≡ opened (places.Output Stream) output (reading input n old)
  pub told : IfSome old.input.bytes (HeadIs head n)

pub begun : (input output : List ℕ) (head : FilmHead) (n : ℕ) (old first second third : Seen) → first ≡ opened places.Input input old → Took n (HeadIs head n) first second
    → third ≡ opened (places.Output Stream) output second → Begun input output head n old third
begun input output head n old first second third is_first is_second is_third = record {
  change = is_third ∙ ap (opened (places.Output Stream) output) (is_second.change ∙ ap (took places.Input n) is_first);
  told = subst (λ (s : Seen). IfSome s.input.bytes (HeadIs head n)) is_first is_second.content;
}

-- what is told of the bytes behind the head
behind : (input output : List ℕ) (head : FilmHead) (n : ℕ) (old mid : Seen) (P : List ℕ → Type 0) → Begun input output head n old mid → IfSome mid.input.bytes P → IfSome (option_map (drop n) old.input.bytes) P
behind input output head n old mid P b told = subst (λ (s : Seen). IfSome s.input.bytes P) b.change told

-- more bytes were taken and text was written from there on
further : (input output text : List ℕ) (n m : ℕ) (old : Seen) → wrote (places.Output Stream) text (took places.Input m (opened (places.Output Stream) output (reading input n old))) ≡ storing input output (n + m) text old
further input output text n m old = ap (λ (s : Seen). wrote (places.Output Stream) text (opened (places.Output Stream) output s)) (took_both n m)
  where
    took_both : (n m : ℕ) → took places.Input m (took places.Input n (opened places.Input input old)) ≡ took places.Input (n + m) (opened places.Input input old)
    took_both n m = took_more n m (opened places.Input input old)

-- the pictures behind the head
taken : (input output : List ℕ) (head : FilmHead) (n m : ℕ) (pictures : List Planes) (old mid : Seen) → Begun input output head n old mid → IfSome mid.input.bytes (PicturesTaken head m pictures)
    → IfSome old.input.bytes (λ left. FilmTaken left (n + m) head pictures)
taken input output head n m pictures old mid b told = told_taken head n m pictures old.input.bytes b.told (behind input output head n old mid (PicturesTaken head m pictures) b told)

ended : (input output : List ℕ) (head : FilmHead) (n : ℕ) (pictures : List Planes) (end : FilmEnd) (old mid : Seen) → Begun input output head n old mid
    → IfSome mid.input.bytes (λ left. pictures_of most_pictures head left ≡ (pictures, end)) → IfSome old.input.bytes (λ left. IsFilm left head pictures end)
ended input output head n pictures end old mid b told =
    told_film head n pictures end old.input.bytes b.told (behind input output head n old mid (λ left. pictures_of most_pictures head left ≡ (pictures, end)) b told)

pub stored : (input output : List ℕ) (head : FilmHead) (n : ℕ) (old mid last new : Seen) → AllowedHead head → Begun input output head n old mid → PicturesEnd head Ended mid last → new ≡ shut (places.Output Stream) last → Stored input output old new
stored input output head n old mid last new allowed b e is = record {
  count = n + e.count;
  head = head;
  pictures = e.pictures;
  closed = is ∙ ap (shut (places.Output Stream)) (e.change ∙ ap (λ (s : Seen). wrote (places.Output Stream) (stored_stream head e.pictures) (took places.Input e.count s)) b.change ∙ further input output (stored_stream head e.pictures) n e.count old);
  shows = stored_stream_decodes head e.pictures allowed e.are;
  whole = told_both (λ left. drop (n + e.count) left ≡ []) (λ left. IsFilm left head e.pictures Ended) old.input.bytes
      (told_none head n e.count old.input.bytes b.told (behind input output head n old mid (λ left. drop e.count left ≡ []) b (e.taken refl)))
      (ended input output head n e.pictures Ended old mid b e.told);
}

cut : (input output : List ℕ) (head : FilmHead) (n : ℕ) (fault : InputFault) (old mid new : Seen) → Begun input output head n old mid → PicturesEnd head (Faulty fault) mid new → NoFilm input output fault old new
cut input output head n fault old mid new b e =
    cut_short (n + e.count) head e.pictures
    (e.change ∙ ap (λ (s : Seen). wrote (places.Output Stream) (stored_stream head e.pictures) (took places.Input e.count s)) b.change ∙ further input output (stored_stream head e.pictures) n e.count old)
    (ended input output head n e.pictures (Faulty fault) old mid b e.told)

unread : (input output : List ℕ) (head : FilmHead) (n : ℕ) (old mid new : Seen) → Begun input output head n old mid → PictureUnread head mid new → ReadFault input output old new
unread input output head n old mid new b u =
    in_pictures (n + u.count) head u.pictures u.between
    (record {
      now = u.stored.change ∙ ap (λ (s : Seen). wrote (places.Output Stream) (stored_stream head u.pictures) (took places.Input u.count s)) b.change ∙ further input output (stored_stream head u.pictures) n u.count old;
      whole = n + u.stored.whole;
      within = also n u.stored.whole u.count u.stored.within;
      told = taken input output head n u.stored.whole u.pictures old mid b u.stored.told;
    })
    u.failed
  where
    also : (n a b : ℕ) → a ≤ b → n + a ≤ n + b
    also n a b h = omega arith

unwritten : (input output : List ℕ) (head : FilmHead) (n : ℕ) (old mid new : Seen) → Begun input output head n old mid → PictureUnwritten head mid new → WriteFault input output old new
unwritten input output head n old mid new b u = record {
  count = n + u.count;
  size = u.size;
  head = head;
  pictures = u.pictures;
  failed = subst (λ (s : Seen). LaterFailed (places.Output Stream) s new)
      (ap (λ (s : Seen). wrote (places.Output Stream) (take u.size (stored_stream head u.pictures)) (took places.Input u.count s)) b.change ∙ further input output (take u.size (stored_stream head u.pictures)) n u.count old) u.failed;
  told = taken input output head n u.count u.pictures old mid b u.told;
}

-- the closing failed
pub unclosed : (input output : List ℕ) (head : FilmHead) (n : ℕ) (old mid last new : Seen) → Begun input output head n old mid → PicturesEnd head Ended mid last → LaterFailed (places.Output Stream) last new → WriteFault input output old new
unclosed input output head n old mid last new b e failed =
    let text = stored_stream head e.pictures in
    record {
      count = n + e.count;
      size = length text;
      head = head;
      pictures = e.pictures;
      failed = subst (λ (s : Seen). LaterFailed (places.Output Stream) s new)
          (e.change ∙ ap (λ (s : Seen). wrote (places.Output Stream) text (took places.Input e.count s)) b.change ∙ further input output text n e.count old
          ∙ ap (λ t. storing input output (n + e.count) t old) (sym (take_all text))) failed;
      told = taken input output head n e.count e.pictures old mid b (taken_all head e.count e.pictures mid.input.bytes e.told (e.taken refl));
    }
  where
    take_all : (xs : List ℕ) → take (length xs) xs ≡ xs
    take_all xs = grind (arith, common_steps)

-- reading the head failed
head_unread : (input output : List ℕ) (old first new : Seen) → first ≡ opened places.Input input old → ReadFailed first new → ReadFault input output old new
head_unread input output old first new is failed = in_head failed.0 (subst (λ (s : Seen). LaterFailed places.Input (took places.Input failed.0 s) new) is failed.1)

-- there is no head
no_head_there : (input output : List ℕ) (fault : HeadFault) (old first new : Seen) → first ≡ opened places.Input input old → TookSome (λ left. read_head left ≡ Err fault) first new → NoFilm input output (faults.Head fault) old new
no_head_there input output fault old first new is t =
    no_head t.0 (t.1.change ∙ ap (took places.Input t.0) is) (told_no_head fault old.input.bytes (subst (λ (s : Seen). IfSome s.input.bytes (λ left. read_head left ≡ Err fault)) is t.1.content))

-- one of the two
pub head_stopped : (input output : List ℕ) (old first new : Seen) (end : StoreEnd) → first ≡ opened places.Input input old → (fault : HeadFault) → end ≡ head_end fault
    → (fault ≡ heads.ReadFault → LineUnread first new) → (fault ≢ heads.ReadFault → TookSome (λ left. read_head left ≡ Err fault) first new) → Leaves input output old new (Err end)
head_stopped input output old first new end is fault ends unread broken = subst (λ (e : StoreEnd). Leaves input output old new (Err e)) (sym ends) (by fault unread broken)
  where
    by : (f : HeadFault) → (f ≡ heads.ReadFault → LineUnread first new) → (f ≢ heads.ReadFault → TookSome (λ left. read_head left ≡ Err f) first new) → Leaves input output old new (Err (head_end f))
    by heads.ReadFault unread broken = let u = unread refl in head_unread input output old first new is (u.count, u.failed)
    by heads.NotY4m unread broken = no_head_there input output heads.NotY4m old first new is (broken (λ e. cc))
    by heads.LongLine unread broken = no_head_there input output heads.LongLine old first new is (broken (λ e. cc))
    by heads.BadNumber unread broken = no_head_there input output heads.BadNumber old first new is (broken (λ e. cc))
    by heads.Chroma unread broken = no_head_there input output heads.Chroma old first new is (broken (λ e. cc))
    by heads.Interlace unread broken = no_head_there input output heads.Interlace old first new is (broken (λ e. cc))
    by heads.Missing unread broken = no_head_there input output heads.Missing old first new is (broken (λ e. cc))
    by heads.Size unread broken = no_head_there input output heads.Size old first new is (broken (λ e. cc))
    by heads.OddSize unread broken = no_head_there input output heads.OddSize old first new is (broken (λ e. cc))

-- memory was wanting behind the head, or the stream couldn't be opened
pub head_read : (input : List ℕ) (head : FilmHead) (n : ℕ) (old first second : Seen) → first ≡ opened places.Input input old → Took n (λ left. (n ≤ length left) × HeadIs head n left) first second → HeadRead input old second
head_read input head n old first second is t = record {
  count = n;
  head = head;
  now = t.change ∙ ap (took places.Input n) is;
  told = subst (λ (s : Seen). IfSome s.input.bytes (HeadIs head n)) is (of_both (λ left. n ≤ length left) (HeadIs head n) first.input.bytes t.content);
}

pub head_begun : (input output : List ℕ) (head : FilmHead) (n : ℕ) (old first second third : Seen) → first ≡ opened places.Input input old → Took n (λ left. (n ≤ length left) × HeadIs head n left) first second
    → third ≡ opened (places.Output Stream) output second → Begun input output head n old third
head_begun input output head n old first second third is_first is_second is_third =
    begun input output head n old first second third is_first (record { change = is_second.change; content = of_both (λ left. n ≤ length left) (HeadIs head n) first.input.bytes is_second.content }) is_third

-- not all pictures were stored
pub stopped : (input output : List ℕ) (head : FilmHead) (n : ℕ) (old mid new : Seen) → Begun input output head n old mid → (end : StoreEnd) → PicturesLeft head mid new (Err end) → Leaves input output old new (Err end)
stopped input output head n old mid new b (Open place) l = absurd l
stopped input output head n old mid new b Read l = unread input output head n old mid new b l
stopped input output head n old mid new b Write l = unwritten input output head n old mid new b l
stopped input output head n old mid new b (Input fault) l = cut input output head n fault old mid new b l
stopped input output head n old mid new b OutOfMemory l = absurd l
