-- One group more.
use Rattle.std.proofs.Common.{ℕ, ◌+◌, ◌-◌, ◌≡◌, ◌<◌, ◌≤◌, List, [], ◌∷◌, ◌++◌, length, drop, Option, Some, None, Result, Ok, Err, ◌⊎◌, inl, inr, refl, ap, sym, ◌∙◌, subst, arith, length-append, append-nil}
use Rattle.std.specs.Prelude.{IfSome}
use Rattle.std.specs.Option.{option_map}
use Rattle.std.proofs.lemmas.List.Elements.{All-append}
use Rattle.std.proofs.lemmas.Bool.{cases_lt}
use Rattle.enc_edge.specs.declared.studio.Out.{Out}
use Rattle.enc_edge.specs.declared.studio.Place.TheVariants as places
use Rattle.enc_edge.specs.Seen.{Seen}
use Rattle.enc_edge.specs.Calls.{LaterFailed, took}
use Rattle.enc_edge.specs.Reads.{TookSome, ReadFailed}
use Rattle.enc_edge.proofs.Spots.{drop_more, took_none}
use Rattle.spec_film.specs.declared.FilmHead.{FilmHead}
use Rattle.spec_film.specs.declared.InputFault.{InputFault}
use Rattle.spec_film.specs.Films.{Planes, FilmEnd, Ended, Faulty, Broken, most_pictures, frame_step, pictures_of}
use Rattle.spec_film.proofs.FilmLaws.{pictures_broken}
use Rattle.picture_planes.specs.declared.picture.Picture.{Picture}
use Rattle.spec_stream.specs.Pictures.{IsPicture}
use Rattle.spec_decoder.specs.Macroblocks.{Slice as Slice}
use Rattle.spec_coding.specs.Encoding.{State, Refusal, Went, behind}
use Rattle.spec_plan.specs.Plan.{next_number}
use Rattle.spec_session.specs.Settings.{SessionSettings}
use Rattle.spec_session.specs.Encodings.{encoding, encoding_from}
use Rattle.spec_session.specs.Groups.{Place, first_place, full_at, group_steps, steps_from, place_after, place_behind, coded_by}
use Rattle.spec_session.specs.Outputs.{Outputs, AreFronts, group_text, joined, written_to, written_whole}
use Rattle.spec_session.proofs.Cutting.{numbers_fit}
use Rattle.spec_session.proofs.Grouping.{last_group, place_behind_all}
use Rattle.spec_session.proofs.Growing.{grows_so, outputs_grow, fronts_then}
use Rattle.enc_session.specs.Left.{added, CutShort}
use Rattle.y4m_film.specs.Taken.{PicturesTaken}
use Rattle.encode_film.specs.declared.ends.EncodeEnd.{EncodeEnd}
use Rattle.encode_film.specs.declared.ends.EncodeEnd.TheVariants.{Open, Read, Write, Input, Setting, Buffer, OutOfMemory}
use Rattle.encode_film.specs.Calls.{EndRead, GroupCoded}
use Rattle.encode_film.specs.Groups.{ArePictures, AllCoded, GroupUnread, FilmBroken, PictureRefused, OutputCut, GroupsLeft}
use Rattle.encode_film.specs.Outputs.{put}
use Rattle.encode_film.specs.Reading.{AreRead, GroupBroken, GroupRead, GroupTaken}
use Rattle.y4m_film.proofs.Remaining.{none_more}
use Rattle.encode_film.proofs.Wholes.{some_at}
use Rattle.encode_film.proofs.Firsts.{AreFirst, first_all, first_whole, cut_whole}
use Rattle.encode_film.proofs.Taking.{read_both, read_over}
use Rattle.encode_film.proofs.Writing.{put_then, put_more, fronts_joined}
use Rattle.encode_film.proofs.Going.{Going, told_fronts, told_refused, fronts_whole}

-- what a read says of the bytes that were left at the start
along : (o : Outputs) (old mid : Seen) (count : ℕ) (P : List ℕ → Type 0) → mid ≡ put o count old → IfSome mid.input.bytes P → IfSome (option_map (drop count) old.input.bytes) P
along o old mid count P change told = subst (λ (s : Seen). IfSome s.input.bytes P) change told

size_at_place : (head : FilmHead) (f : SessionSettings) (place number : ℕ) (old mid : Seen) (state : State) (g : Going head f place number old mid state) → length g.pictures ≡ (place_after f g.groups).display
size_at_place head f place number old mid state g = g.size ∙ sym (ap (λ (p : Place). p.display) g.place_is)

pub number_few : (head : FilmHead) (f : SessionSettings) (place number idr : ℕ) (old mid : Seen) (state : State) → Going head f place number old mid state → f.idr ≡ idr → 1 ≤ idr → idr ≤ 600 → number ≤ 600
number_few head f place number idr old mid state g same some most =
    let few = numbers_fit f g.groups (subst (λ n. 1 ≤ n) (sym same) some) in
    let is : (place_after f g.groups).number ≡ number = ap (λ (p : Place). p.number) g.place_is in
    omega (arith, few, is, same, most)

-- ---- a group was read

-- what was written before it, and more of the input was taken
read_on : (head : FilmHead) (f : SessionSettings) (place number m : ℕ) (old mid read : Seen) (state : State) (g : Going head f place number old mid state) → read ≡ took places.Input m mid
    → read ≡ put (written_to f (encoding f g.pictures).done) (g.count + m) old
read_on head f place number m old mid read state g was = was ∙ ap (took places.Input m) g.change ∙ put_then (written_to f (encoding f g.pictures).done) g.count m old

told_on : (head : FilmHead) (place n m : ℕ) (xs ys : List Planes) (o : Option (List ℕ)) → length xs ≡ place → IfSome o (PicturesTaken head n xs) → IfSome (option_map (drop n) o) (AreRead head (most_pictures - place) m ys)
    → IfSome o (PicturesTaken head (n + m) (xs ++ ys))
told_on head place n m xs ys None size first second = tt
told_on head place n m xs ys (Some left) size first second = read_both head n m xs ys left first (subst (λ k. AreRead head (most_pictures - k) m ys (drop n left)) (sym size) second)

-- the pictures so far with those of the group
pub record GroupBehind (head : FilmHead) (f : SessionSettings) (count : ℕ) (pictures all : List Planes) (old read : Seen) : Type 0 where
  pub are : ArePictures head all
  pub change : read ≡ put (written_to f (encoding f pictures).done) count old
  pub told : IfSome old.input.bytes (PicturesTaken head count all)

read_group : (head : FilmHead) (f : SessionSettings) (place number most got : ℕ) (qs : List Planes) (old mid read : Seen) (state : State) (g : Going head f place number old mid state) (t : GroupTaken head place most got qs mid read)
    → GroupBehind head f (g.count + t.count) g.pictures (g.pictures ++ qs) old read
read_group head f place number most got qs old mid read state g t =
    let o = written_to f (encoding f g.pictures).done in
    let long = length-append g.pictures qs in
    let size = g.size in
    let few = t.few in
    let got_size = t.size in
    record {
      are = record { are = All-append (IsPicture head) g.pictures qs g.are.are t.are; few = omega (arith, long, size, few, got_size) };
      change = read_on head f place number t.count old mid read state g t.change;
      told = told_on head place g.count t.count g.pictures qs old.input.bytes g.size g.told (along o old mid g.count (AreRead head (most_pictures - place) t.count qs) g.change t.told);
    }

-- where a group is short, the film ended
told_end : (head : FilmHead) (n : ℕ) (pictures : List Planes) (o : Option (List ℕ)) → IfSome o (PicturesTaken head n pictures) → IfSome o (λ left. drop n left ≡ []) → IfSome o (λ left. (pictures_of most_pictures head left ≡ (pictures, Ended)) × (drop n left ≡ []))
told_end head n pictures None taken none = tt
told_end head n pictures (Some left) taken none = (read_over head most_pictures n pictures left (record { all = taken.all; end = taken.end }) none, none)

told_none : (n m : ℕ) (o : Option (List ℕ)) → IfSome (option_map (drop n) o) (λ left. drop m left ≡ []) → IfSome o (λ left. drop (n + m) left ≡ [])
told_none n m None none = tt
told_none n m (Some left) none = sym (drop_more n m left) ∙ none

group_end_told : (head : FilmHead) (f : SessionSettings) (place number most got : ℕ) (qs : List Planes) (old mid read : Seen) (state : State) (g : Going head f place number old mid state) (t : GroupTaken head place most got qs mid read) → got < most
    → IfSome old.input.bytes (λ left. (pictures_of most_pictures head left ≡ (g.pictures ++ qs, Ended)) × (drop (g.count + t.count) left ≡ []))
group_end_told head f place number most got qs old mid read state g t short =
    told_end head (g.count + t.count) (g.pictures ++ qs) old.input.bytes (read_group head f place number most got qs old mid read state g t).told
    (told_none g.count t.count old.input.bytes (along (written_to f (encoding f g.pictures).done) old mid g.count (λ left. drop t.count left ≡ []) g.change (t.last short)))

-- ---- where no picture comes

pub none_came : (head : FilmHead) (f : SessionSettings) (place number most : ℕ) (qs : List Planes) (old mid read : Seen) (state : State) → Going head f place number old mid state → 1 ≤ most → GroupTaken head place most 0 qs mid read → AllCoded head f old read state
none_came head f place number most qs old mid read state g some t = record {
  count = g.count + t.count;
  pictures = g.pictures;
  are = g.are;
  none_refused = g.none_refused;
  state_is = g.state_is;
  change = read_on head f place number t.count old mid read state g t.change;
  told = subst (λ (ps : List Planes). IfSome old.input.bytes (λ left. (pictures_of most_pictures head left ≡ (ps, Ended)) × (drop (g.count + t.count) left ≡ []))) same
      (group_end_told head f place number most 0 qs old mid read state g t some);
}
  where
    empty : (xs : List Planes) → length xs ≡ 0 → xs ≡ []
    empty [] e = refl
    empty (x ∷ xs) e = absurd (cc)

    same : g.pictures ++ qs ≡ g.pictures
    same = ap (λ (xs : List Planes). g.pictures ++ xs) (empty qs t.size) ∙ append-nil g.pictures

-- ---- a group was coded

-- from the state and the place that stand behind those before it
code_from : (head : FilmHead) (f : SessionSettings) (place number : ℕ) (qs : List Planes) (old mid read new : Seen) (state s : State) (p : Place) (r : Result (Unit {0}) EncodeEnd) (g : Going head f place number old mid state)
    → (let q : Place = record { display = place; number = number } in p ≡ q) → 1 ≤ length qs → length qs ≤ full_at f p → GroupCoded f state (encoding_from f state (group_steps f p qs)) read new s r
    → GroupCoded f (encoding f g.pictures).end (encoding_from f (encoding f g.pictures).end (steps_from f (place_after f g.groups) qs)) read new s r
code_from head f place number qs old mid read new state s p r g at some most coded =
    let here : p ≡ place_after f g.groups = at ∙ sym g.place_is in
    let e = (encoding f g.pictures).end in
    let first = subst (λ (x : State). GroupCoded f x (encoding_from f x (group_steps f p qs)) read new s r) g.state_is coded in
    let second = subst (λ xs. GroupCoded f e (encoding_from f e xs) read new s r) (sym (last_group f p qs some most)) first in
    subst (λ (x : Place). GroupCoded f e (encoding_from f e (steps_from f x qs)) read new s r) here second

-- what is written with it
written_on : (head : FilmHead) (f : SessionSettings) (place number : ℕ) (qs : List Planes) (count : ℕ) (old mid read new : Seen) (state : State) (g : Going head f place number old mid state) → read ≡ put (written_to f (encoding f g.pictures).done) count old
    → new ≡ added (group_text f (encoding f g.pictures).end.ledger.units (encoding_from f (encoding f g.pictures).end (steps_from f (place_after f g.groups) qs)).done) read
    → new ≡ put (written_to f (encoding f (g.pictures ++ qs)).done) count old
written_on head f place number qs count old mid read new state g was wrote =
    let size = size_at_place head f place number old mid state g in
    let text = group_text f (encoding f g.pictures).end.ledger.units (encoding_from f (encoding f g.pictures).end (steps_from f (place_after f g.groups) qs)).done in
    wrote ∙ ap (added text) was ∙ put_more (written_to f (encoding f g.pictures).done) text count old
    ∙ ap (λ (o : Outputs). put o count old) (sym (outputs_grow f g.groups g.pictures qs size g.none_refused))

whole_on : (head : FilmHead) (f : SessionSettings) (place number : ℕ) (qs : List Planes) (old mid : Seen) (state : State) (g : Going head f place number old mid state)
    → encoding f (g.pictures ++ qs) ≡ behind (encoding f g.pictures).done (encoding_from f (encoding f g.pictures).end (steps_from f (place_after f g.groups) qs))
whole_on head f place number qs old mid state g = grows_so f g.groups g.pictures qs (size_at_place head f place number old mid state g) g.none_refused

some_of : (n k : ℕ) → n ≡ k → 1 ≤ k → 1 ≤ n
some_of n k e h = omega (arith, e, h)

most_of : (n k m : ℕ) → n ≡ k → k ≤ m → n ≤ m
most_of n k m e h = omega (arith, e, h)

-- the group is whole, and the film may go on
pub group_coded : (head : FilmHead) (f : SessionSettings) (place number most : ℕ) (qs : List Planes) (old mid read new : Seen) (state s : State) (p : Place) → Going head f place number old mid state → GroupTaken head place most most qs mid read
    → (let q : Place = record { display = place; number = number } in p ≡ q) → 1 ≤ most → full_at f p ≡ most → GroupCoded f state (encoding_from f state (group_steps f p qs)) read new s (Ok tt)
    → Going head f (place + most) (next_number f.idr place number) old new s
group_coded head f place number most qs old mid read new state s p g t at some full coded =
    let b = read_group head f place number most most qs old mid read state g t in
    let w = code_from head f place number qs old mid read new state s p (Ok tt) g at (some_of (length qs) most t.size some) (most_of (length qs) most (full_at f p) t.size (same_most full)) coded in
    let all = whole_on head f place number qs old mid state g in
    let q : Place = record { display = place; number = number } in
    record {
      groups = g.groups + 1;
      count = g.count + t.count;
      pictures = g.pictures ++ qs;
      are = b.are;
      place_is = place_behind_all f g.groups first_place ∙ ap (λ (x : Place). place_behind f x (full_at f x)) (g.place_is ∙ sym at)
          ∙ ap (λ (n : ℕ). place_behind f p n) full ∙ ap (λ (x : Place). place_behind f x most) at;
      size = length-append g.pictures qs ∙ sums g.size t.size;
      none_refused = ap (λ (x : Went Slice). x.refused) all ∙ w.0;
      state_is = w.1 ∙ ap (λ (x : Went Slice). x.end) (sym all);
      change = written_on head f place number qs (g.count + t.count) old mid read new state g b.change w.2;
      told = b.told;
    }
  where
    same_most : full_at f p ≡ most → most ≤ full_at f p
    same_most e = omega (arith, e)

    sums : {a b c d : ℕ} → a ≡ b → c ≡ d → a + c ≡ b + d
    sums e1 e2 = omega (arith, e1, e2)

-- the group is short: all pictures were coded
pub last_coded : (head : FilmHead) (f : SessionSettings) (place number most got : ℕ) (qs : List Planes) (old mid read new : Seen) (state s : State) (p : Place) → Going head f place number old mid state → GroupTaken head place most got qs mid read
    → (let q : Place = record { display = place; number = number } in p ≡ q) → 1 ≤ got → got ≤ full_at f p → got < most → GroupCoded f state (encoding_from f state (group_steps f p qs)) read new s (Ok tt) → AllCoded head f old new s
last_coded head f place number most got qs old mid read new state s p g t at some full short coded =
    let b = read_group head f place number most got qs old mid read state g t in
    let w = code_from head f place number qs old mid read new state s p (Ok tt) g at (some_of (length qs) got t.size some) (most_of (length qs) got (full_at f p) t.size full) coded in
    let all = whole_on head f place number qs old mid state g in
    record {
      count = g.count + t.count;
      pictures = g.pictures ++ qs;
      are = b.are;
      none_refused = ap (λ (x : Went Slice). x.refused) all ∙ w.0;
      state_is = w.1 ∙ ap (λ (x : Went Slice). x.end) (sym all);
      change = written_on head f place number qs (g.count + t.count) old mid read new state g b.change w.2;
      told = group_end_told head f place number most got qs old mid read state g t short;
    }

-- ---- a group wasn't coded to its end

-- the pictures with those of the group are the first of the film
firsts : (head : FilmHead) (f : SessionSettings) (place number most got : ℕ) (qs : List Planes) (old mid read : Seen) (state : State) (p : Place) (g : Going head f place number old mid state) → GroupTaken head place most got qs mid read
    → (let q : Place = record { display = place; number = number } in p ≡ q) → full_at f p ≡ most → IfSome old.input.bytes (λ left. AreFirst f (g.pictures ++ qs) (pictures_of most_pictures head left))
firsts head f place number most got qs old mid read state p g t at full = by (cases_lt got most)
  where
    at_group : got ≡ most → length (g.pictures ++ qs) ≡ (place_after f (g.groups + 1)).display
    at_group e =
        let long = length-append g.pictures qs in
        let size = g.size in
        let got_size = t.size in
        let next : (place_after f (g.groups + 1)).display ≡ place + most =
        ap (λ (x : Place). x.display) (place_behind_all f g.groups first_place ∙ ap (λ (x : Place). place_behind f x (full_at f x)) (g.place_is ∙ sym at) ∙ ap (λ (n : ℕ). place_behind f p n) full ∙ ap (λ (x : Place). place_behind f x most) at) in
        omega (arith, long, size, got_size, next, e)

    whole : (o : Option (List ℕ)) → got ≡ most → IfSome o (PicturesTaken head (g.count + t.count) (g.pictures ++ qs)) → IfSome o (λ left. AreFirst f (g.pictures ++ qs) (pictures_of most_pictures head left))
    whole None e taken = tt
    whole (Some left) e taken =
        first_whole f (g.groups + 1) (g.pictures ++ qs) (pictures_of (most_pictures - length (g.pictures ++ qs)) head (drop (g.count + t.count) left)).0 (pictures_of most_pictures head left) taken.all (at_group e)

    ended : (o : Option (List ℕ)) → IfSome o (λ left. (pictures_of most_pictures head left ≡ (g.pictures ++ qs, Ended)) × (drop (g.count + t.count) left ≡ [])) → IfSome o (λ left. AreFirst f (g.pictures ++ qs) (pictures_of most_pictures head left))
    ended None all = tt
    ended (Some left) all = first_all f (g.pictures ++ qs) (pictures_of most_pictures head left) all.0

    same : got ≤ most → most ≤ got → got ≡ most
    same a b = omega (arith, a, b)

    by : (got < most) ⊎ (most ≤ got) → IfSome old.input.bytes (λ left. AreFirst f (g.pictures ++ qs) (pictures_of most_pictures head left))
    by (inl short) = ended old.input.bytes (group_end_told head f place number most got qs old mid read state g t short)
    by (inr all) = whole old.input.bytes (same t.within all) (read_group head f place number most got qs old mid read state g t).told

pub group_stopped : (head : FilmHead) (f : SessionSettings) (place number most got : ℕ) (qs : List Planes) (old mid read new : Seen) (state s after : State) (p : Place) (end : EncodeEnd) → Going head f place number old mid state → GroupTaken head place most got qs mid read
    → (let q : Place = record { display = place; number = number } in p ≡ q) → 1 ≤ got → full_at f p ≡ most → GroupCoded f state (encoding_from f state (group_steps f p qs)) read new s (Err end) → GroupsLeft head f old new after (Err end)
group_stopped head f place number most got qs old mid read new state s after p end g t at some full coded = by end (code_from head f place number qs old mid read new state s p (Err end) g at (some_of (length qs) got t.size some) (few full t.size t.within) coded)
  where
    few : full_at f p ≡ most → length qs ≡ got → got ≤ most → length qs ≤ full_at f p
    few e1 e2 h = omega (arith, e1, e2, h)

    e : State
    e = (encoding f g.pictures).end

    w : Went Slice
    w = encoding_from f e (steps_from f (place_after f g.groups) qs)

    b : GroupBehind head f (g.count + t.count) g.pictures (g.pictures ++ qs) old read
    b = read_group head f place number most got qs old mid read state g t

    first : IfSome old.input.bytes (λ left. AreFirst f (g.pictures ++ qs) (pictures_of most_pictures head left))
    first = firsts head f place number most got qs old mid read state p g t at full

    refused : (r : Refusal) → w.refused ≡ Some r → new ≡ added (group_text f e.ledger.units w.done) read → PictureRefused head f r old new
    refused r is wrote =
        let so : (encoding f (g.pictures ++ qs)).refused ≡ Some r = ap (λ (x : Went Slice). x.refused) (whole_on head f place number qs old mid state g) ∙ is in
        record {
          count = g.count + t.count;
          pictures = g.pictures ++ qs;
          are = b.are;
          refused = so;
          change = written_on head f place number qs (g.count + t.count) old mid read new state g b.change wrote;
          told = told_refused head f (g.pictures ++ qs) r old.input.bytes so first;
        }

    cut : (out : Out) → CutShort out (group_text f e.ledger.units w.done) read new → OutputCut head f out old new
    cut out c =
        let before = written_to f (encoding f g.pictures).done in
        let fronts : AreFronts (joined before c.written) (written_to f (encoding f (g.pictures ++ qs)).done)
        = subst (λ (o : Outputs). AreFronts (joined before c.written) o) (sym (outputs_grow f g.groups g.pictures qs (size_at_place head f place number old mid state g) g.none_refused)) (fronts_joined before c.written (group_text f e.ledger.units w.done) c.fronts) in
        record {
          count = g.count + t.count;
          pictures = g.pictures ++ qs;
          are = b.are;
          written = joined before c.written;
          fronts = fronts_then (joined before c.written) (written_to f (encoding f (g.pictures ++ qs)).done) (written_whole f (encoding f (g.pictures ++ qs)).done) fronts (fronts_whole f (encoding f (g.pictures ++ qs)));
          failed = subst (λ (x : Seen). LaterFailed (places.Output out) x new) (ap (added c.written) b.change ∙ put_more before c.written (g.count + t.count) old) c.failed;
          told = told_fronts head f (g.pictures ++ qs) (joined before c.written) old.input.bytes fronts first;
        }

    by : (x : EncodeEnd) → GroupCoded f e w read new s (Err x) → GroupsLeft head f old new after (Err x)
    by (Buffer picture need have) h = refused (record { picture = picture; need = need; have = have }) h.0 h.1
    by (Write out) h = cut out h
    by (Open where_to) h = absurd h
    by Read h = absurd h
    by (Input fault) h = absurd h
    by (Setting fault) h = absurd h
    by OutOfMemory h = absurd h

-- ---- a group wasn't read

group_unread : (head : FilmHead) (f : SessionSettings) (place number : ℕ) (old mid new : Seen) (state : State) → Going head f place number old mid state → ReadFailed mid new → GroupUnread head f old new
group_unread head f place number old mid new state g failed = record {
  count = g.count + failed.0;
  groups = g.groups;
  pictures = g.pictures;
  between = took places.Input failed.0 mid;
  coded = record {
    are = g.are;
    size = size_at_place head f place number old mid state g;
    none_refused = g.none_refused;
    change = read_on head f place number failed.0 old mid (took places.Input failed.0 mid) state g refl;
    whole = g.count;
    within = at_least g.count failed.0;
    told = g.told;
  };
  failed = failed.1;
}
  where
    at_least : (a b : ℕ) → a ≤ a + b
    at_least a b = omega arith

-- the pictures behind, where the film has a fault
broken_told : (head : FilmHead) (f : SessionSettings) (groups place n : ℕ) (xs : List Planes) (fault : InputFault) (o : Option (List ℕ)) → length xs ≡ place → length xs ≡ (place_after f groups).display → IfSome o (PicturesTaken head n xs)
    → IfSome (option_map (drop n) o) (GroupBroken head place (full_at f (place_after f groups)) fault) → IfSome o (λ left. ((pictures_of most_pictures head left).1 ≡ Faulty fault) × (coded_by f (Faulty fault) (pictures_of most_pictures head left).0 ≡ xs))
broken_told head f groups place n xs fault None size at taken broken = tt
broken_told head f groups place n xs fault (Some left) size at taken broken =
    let behind_is = ap (λ k. pictures_of (most_pictures - k) head (drop n left)) size ∙ broken.are_all in (
      sym taken.end ∙ ap (λ (p : List Planes × FilmEnd). p.1) behind_is,
      ap (λ (ps : List Planes). coded_by f (Faulty fault) ps) (sym taken.all ∙ ap (λ (p : List Planes × FilmEnd). xs ++ p.0) behind_is) ∙ cut_whole f groups xs broken.pictures fault at broken.few,
    )

film_broken : (head : FilmHead) (f : SessionSettings) (place number : ℕ) (fault : InputFault) (old mid new : Seen) (state : State) (g : Going head f place number old mid state) → TookSome (GroupBroken head place (full_at f (place_after f g.groups)) fault) mid new
    → FilmBroken head f fault old new
film_broken head f place number fault old mid new state g t = record {
  count = g.count + t.0;
  groups = g.groups;
  pictures = g.pictures;
  are = g.are;
  size = size_at_place head f place number old mid state g;
  none_refused = g.none_refused;
  change = read_on head f place number t.0 old mid new state g t.1.change;
  told = broken_told head f g.groups place g.count g.pictures fault old.input.bytes g.size (size_at_place head f place number old mid state g) g.told
      (along (written_to f (encoding f g.pictures).done) old mid g.count (GroupBroken head place (full_at f (place_after f g.groups)) fault) g.change t.1.content);
}

pub read_stopped : (head : FilmHead) (f : SessionSettings) (place number most : ℕ) (old mid new : Seen) (state after : State) (p : Place) (slots : List Picture) (end : EncodeEnd) → Going head f place number old mid state
    → (let q : Place = record { display = place; number = number } in p ≡ q) → full_at f p ≡ most → GroupRead head place most slots mid new (Err end) → GroupsLeft head f old new after (Err end)
read_stopped head f place number most old mid new state after p slots Read g at full read = group_unread head f place number old mid new state g read
read_stopped head f place number most old mid new state after p slots (Input fault) g at full read =
    film_broken head f place number fault old mid new state g (subst (λ k. TookSome (GroupBroken head place k fault) mid new) (sym full ∙ ap (λ (x : Place). full_at f x) (at ∙ sym g.place_is)) read)
read_stopped head f place number most old mid new state after p slots (Open where_to) g at full read = absurd read
read_stopped head f place number most old mid new state after p slots (Write out) g at full read = absurd read
read_stopped head f place number most old mid new state after p slots (Setting fault) g at full read = absurd read
read_stopped head f place number most old mid new state after p slots (Buffer picture need have) g at full read = absurd read
read_stopped head f place number most old mid new state after p slots OutOfMemory g at full read = absurd read

-- ---- behind the last picture that a film may have

pub film_over : (head : FilmHead) (f : SessionSettings) (place number : ℕ) (old mid new : Seen) (state after : State) (r : Result (Unit {0}) EncodeEnd) → place ≡ 1000000 → Going head f place number old mid state → after ≡ state → EndRead head mid new r → GroupsLeft head f old new after r
film_over head f place number old mid new state after (Ok done) last g kept t = record {
  count = g.count;
  pictures = g.pictures;
  are = g.are;
  none_refused = g.none_refused;
  state_is = kept ∙ g.state_is;
  change = t.change ∙ took_none mid ∙ g.change;
  told = told_end head g.count g.pictures old.input.bytes g.told (none old.input.bytes (along (written_to f (encoding f g.pictures).done) old mid g.count (λ left. left ≡ []) g.change t.content));
}
  where
    none : (o : Option (List ℕ)) → IfSome (option_map (drop g.count) o) (λ left. left ≡ []) → IfSome o (λ left. drop g.count left ≡ [])
    none None h = tt
    none (Some left) h = h
film_over head f place number old mid new state after (Err Read) last g kept t = group_unread head f place number old mid new state g t
film_over head f place number old mid new state after (Err (Input fault)) last g kept t =
    film_broken head f place number fault old mid new state g (t.0, record { change = t.1.change; content = told mid.input.bytes t.1.content })
  where
    none : length {A = Planes} [] < full_at f (place_after f g.groups)
    none = some_at f (place_after f g.groups)

    fewer : 0 ≡ most_pictures - place
    fewer = none_more place last

    told : (o : Option (List ℕ)) → IfSome o (λ left. frame_step 0 head left ≡ Broken fault) → IfSome o (GroupBroken head place (full_at f (place_after f g.groups)) fault)
    told None broken = tt
    told (Some left) broken = record { pictures = []; few = none; are_all = pictures_broken (most_pictures - place) head left fault (subst (λ k. frame_step k head left ≡ Broken fault) fewer broken) }
film_over head f place number old mid new state after (Err (Open where_to)) last g kept t = absurd t
film_over head f place number old mid new state after (Err (Write out)) last g kept t = absurd t
film_over head f place number old mid new state after (Err (Setting fault)) last g kept t = absurd t
film_over head f place number old mid new state after (Err (Buffer picture need have)) last g kept t = absurd t
film_over head f place number old mid new state after (Err OutOfMemory) last g kept t = absurd t
