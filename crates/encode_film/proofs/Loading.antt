-- The pictures of a group are loaded into the slots.
use Rattle.std.proofs.Common.{ℕ, suc, ◌+◌, ◌-◌, ◌≡◌, ◌<◌, ◌≤◌, List, [], ◌∷◌, ◌++◌, length, take, drop, map, set, Bool, true, false, Option, Some, None, Ok, Err, refl, ap, sym, ◌∙◌, subst, arith, length-append}
use Rattle.std.specs.Prelude.{IfSome}
use Rattle.std.specs.List.{All}
use Rattle.std.specs.Option.{option_map}
use Rattle.std.proofs.lemmas.List.{map-set, take_more_set, take-set}
use Rattle.std.proofs.lemmas.List.Elements.{All-nil, All-cons, All-append}
use Rattle.enc_edge.specs.declared.studio.Place.TheVariants as places
use Rattle.enc_edge.specs.Seen.{Seen}
use Rattle.enc_edge.specs.Calls.{LaterFailed, took}
use Rattle.enc_edge.specs.Reads.{TookSome, ReadFailed}
use Rattle.enc_edge.proofs.Spots.{took_more, took_none}
use Rattle.spec_film.specs.declared.FilmHead.{FilmHead}
use Rattle.spec_film.specs.declared.InputFault.{InputFault}
use Rattle.spec_film.specs.Films.{Planes, Next, Broken, most_pictures, frame_step}
use Rattle.spec_stream.specs.Pictures.{IsPicture}
use Rattle.picture_planes.specs.declared.picture.Picture.{Picture}
use Rattle.picture_planes.specs.Pictures.{planes_of}
use Rattle.enc_session.specs.Sessions.{HasSlots}
use Rattle.encode_film.specs.declared.ends.EncodeEnd.{EncodeEnd}
use Rattle.encode_film.specs.declared.ends.EncodeEnd.TheVariants.{Open, Read, Write, Input, Setting, Buffer, OutOfMemory}
use Rattle.encode_film.specs.Reading.{AreRead, GroupBroken, GroupRead, GroupTaken, PictureRead}
use Rattle.encode_film.specs.Slots.{SlotRead}
use Rattle.encode_film.proofs.Taking.{none_read, more_read, read_broken}

-- the pictures in the first slots
abbrev pub first_slots : ℕ → List Picture → List Planes
first_slots got slots = take got (map planes_of slots)

-- so many were read
pub record Loaded (head : FilmHead) (place got : ℕ) (slots : List Picture) (old now : Seen) : Type 0 where
  pub few : place + got ≤ 1000000
  pub size : length (first_slots got slots) ≡ got
  pub are : All (IsPicture head) (first_slots got slots)
  pub count : ℕ
  pub change : now ≡ took places.Input count old
  pub told : IfSome old.input.bytes (AreRead head (most_pictures - place) count (first_slots got slots))

pub loaded_none : (head : FilmHead) (place : ℕ) (slots : List Picture) (old : Seen) → place < 1000000 → Loaded head place 0 slots old old
loaded_none head place slots old below = record {
  few = omega (arith, below);
  size = refl;
  are = All-nil (IsPicture head);
  count = 0;
  change = sym (took_none old);
  told = told old.input.bytes;
}
  where
    told : (o : Option (List ℕ)) → IfSome o (AreRead head (most_pictures - place) 0 [])
    told None = tt
    told (Some left) = none_read head (most_pictures - place) left

-- what a read says of the bytes that were left at the start
along : (old mid : Seen) (count : ℕ) (P : List ℕ → Type 0) → mid ≡ took places.Input count old → IfSome mid.input.bytes P → IfSome (option_map (drop count) old.input.bytes) P
along old mid count P change told = subst (λ (s : Seen). IfSome s.input.bytes P) change told

long_map : (slots : List Picture) → length slots ≡ 5 → length (map planes_of slots) ≡ 5
long_map slots five = length_of slots ∙ five
  where
    length_of : (xs : List Picture) → length (map planes_of xs) ≡ length xs
    length_of [] = refl
    length_of (x ∷ xs) = ap (λ n. suc n) (length_of xs)

-- with one more in the next slot
slots_more : (slots : List Picture) (got : ℕ) (p : Picture) → length slots ≡ 5 → got ≤ 4 → first_slots (got + 1) (set slots got p) ≡ first_slots got slots ++ planes_of p ∷ []
slots_more slots got p five few =
    let long = long_map slots five in
    ap (λ (xs : List Planes). take (got + 1) xs) (map-set planes_of slots got p) ∙ take_more_set (map planes_of slots) got (planes_of p) (omega (arith, long, few))

-- what is in the next slot doesn't matter
slots_same : (slots : List Picture) (got : ℕ) (p : Picture) → first_slots got (set slots got p) ≡ first_slots got slots
slots_same slots got p = ap (λ (xs : List Planes). take got xs) (map-set planes_of slots got p) ∙ take-set (map planes_of slots) got (planes_of p)

pub loaded_more : (head : FilmHead) (place got : ℕ) (slots after : List Picture) (old mid new : Seen) → HasSlots head slots → got ≤ 4 → Loaded head place got slots old mid → SlotRead head (place + got) got slots after mid new (Ok true)
    → Loaded head place (got + 1) after old new
loaded_more head place got slots after old mid new has few l r =
    let planes = planes_of r.picture in
    let more : first_slots (got + 1) after ≡ first_slots got slots ++ planes ∷ [] = ap (λ (xs : List Picture). first_slots (got + 1) xs) r.change ∙ slots_more slots got r.picture has.five few in
    let below = r.read.0 in
    let n = r.read.1 in
    let t = r.read.2 in
    record {
      few = omega (arith, below);
      size = ap length more ∙ length-append (first_slots got slots) (planes ∷ []) ∙ ap (λ k. k + 1) l.size;
      are = subst (All (IsPicture head)) (sym more) (All-append (IsPicture head) (first_slots got slots) (planes ∷ []) l.are (All-cons (IsPicture head) planes [] r.is (All-nil (IsPicture head))));
      count = l.count + n;
      change = t.change ∙ ap (took places.Input n) l.change ∙ took_more l.count n old;
      told = go n old.input.bytes (l.size) l.told (along old mid l.count (λ left. (n ≤ length left) × (frame_step (most_pictures - (place + got)) head left ≡ Next planes (drop n left))) l.change t.content) more below;
    }
  where
    go : (n : ℕ) (o : Option (List ℕ)) → length (first_slots got slots) ≡ got → IfSome o (AreRead head (most_pictures - place) l.count (first_slots got slots))
        → IfSome (option_map (drop l.count) o) (λ left. (n ≤ length left) × (frame_step (most_pictures - (place + got)) head left ≡ Next (planes_of r.picture) (drop n left)))
        → first_slots (got + 1) after ≡ first_slots got slots ++ planes_of r.picture ∷ [] → place + got < 1000000 → IfSome o (AreRead head (most_pictures - place) (l.count + n) (first_slots (got + 1) after))
    go n None size told next more below = tt
    go n (Some left) size told next more below =
        subst (λ (ps : List Planes). AreRead head (most_pictures - place) (l.count + n) ps left) (sym more)
        (more_read head (most_pictures - place) l.count n (first_slots got slots) (planes_of r.picture) left (omega (arith, size, below)) told
        (ap (λ k. frame_step k head (drop l.count left)) (fewer size) ∙ next.1))
      where
        fewer : length (first_slots got slots) ≡ got → most_pictures - place - length (first_slots got slots) ≡ most_pictures - (place + got)
        fewer size = omega (arith, size)

-- the film ended
pub loaded_over : (head : FilmHead) (place most got : ℕ) (slots after : List Picture) (old mid new : Seen) → got < most → Loaded head place got slots old mid → SlotRead head (place + got) got slots after mid new (Ok false)
    → GroupTaken head place most got (first_slots got after) old new
loaded_over head place most got slots after old mid new below l r =
    let same : first_slots got after ≡ first_slots got slots = ap (λ (xs : List Picture). first_slots got xs) r.change ∙ slots_same slots got r.picture in
    subst (λ (ps : List Planes). GroupTaken head place most got ps old new) (sym same)
    (record {
      within = omega (arith, below);
      few = l.few;
      size = l.size;
      are = l.are;
      count = l.count;
      change = r.read.change ∙ took_none mid ∙ l.change;
      told = l.told;
      last = λ few. none old.input.bytes (along old mid l.count (λ left. left ≡ []) l.change r.read.content);
    })
  where
    none : (o : Option (List ℕ)) → IfSome (option_map (drop l.count) o) (λ left. left ≡ []) → IfSome o (λ left. drop l.count left ≡ [])
    none None h = tt
    none (Some left) h = h

-- the group is full
pub loaded_all : (head : FilmHead) (place most : ℕ) (slots : List Picture) (old now : Seen) → Loaded head place most slots old now → GroupTaken head place most most (first_slots most slots) old now
loaded_all head place most slots old now l = record {
  within = omega arith;
  few = l.few;
  size = l.size;
  are = l.are;
  count = l.count;
  change = l.change;
  told = l.told;
  last = λ less. absurd (no most less);
}
  where
    no : (n : ℕ) → n < n → ⊥
    no n less = omega (arith, less)

-- the next picture wasn't read
unread : (head : FilmHead) (place got : ℕ) (slots : List Picture) (old mid new : Seen) → Loaded head place got slots old mid → ReadFailed mid new → ReadFailed old new
unread head place got slots old mid new l failed =
    (l.count + failed.0, subst (λ (s : Seen). LaterFailed places.Input s new) (ap (took places.Input failed.0) l.change ∙ took_more l.count failed.0 old) failed.1)

broken : (head : FilmHead) (place most got : ℕ) (fault : InputFault) (slots : List Picture) (old mid new : Seen) → got < most → Loaded head place got slots old mid → TookSome (λ left. frame_step (most_pictures - (place + got)) head left ≡ Broken fault) mid new
    → TookSome (GroupBroken head place most fault) old new
broken head place most got fault slots old mid new below l t = (
  l.count + t.0,
  record {
    change = t.1.change ∙ ap (took places.Input t.0) l.change ∙ took_more l.count t.0 old;
    content = go old.input.bytes l.size l.told (along old mid l.count (λ left. frame_step (most_pictures - (place + got)) head left ≡ Broken fault) l.change t.1.content);
  },
)
  where
    go : (o : Option (List ℕ)) → length (first_slots got slots) ≡ got → IfSome o (AreRead head (most_pictures - place) l.count (first_slots got slots))
        → IfSome (option_map (drop l.count) o) (λ left. frame_step (most_pictures - (place + got)) head left ≡ Broken fault) → IfSome o (GroupBroken head place most fault)
    go None size told step = tt
    go (Some left) size told step = record {
      pictures = first_slots got slots;
      few = omega (arith, size, below);
      are_all = read_broken head (most_pictures - place) l.count (first_slots got slots) fault left told (ap (λ k. frame_step k head (drop l.count left)) (fewer size) ∙ step);
    }
      where
        fewer : length (first_slots got slots) ≡ got → most_pictures - place - length (first_slots got slots) ≡ most_pictures - (place + got)
        fewer size = omega (arith, size)

pub loaded_fault : (head : FilmHead) (place most got : ℕ) (slots after : List Picture) (old mid new : Seen) (end : EncodeEnd) → got < most → Loaded head place got slots old mid → SlotRead head (place + got) got slots after mid new (Err end)
    → GroupRead head place most after old new (Err end)
loaded_fault head place most got slots after old mid new end below l r = by end r.read
  where
    by : (e : EncodeEnd) → PictureRead head (place + got) (planes_of r.picture) mid new (Err e) → GroupRead head place most after old new (Err e)
    by Read read = unread head place got slots old mid new l read
    by (Input fault) read = broken head place most got fault slots old mid new below l read
    by (Open where_to) read = absurd read
    by (Write out) read = absurd read
    by (Setting fault) read = absurd read
    by (Buffer picture need have) read = absurd read
    by OutOfMemory read = absurd read

-- by the answer of a slot
pub answer_is : (head : FilmHead) (number k : ℕ) (before after : List Picture) (old new : Seen) (b c : Bool) → b ≡ c → SlotRead head number k before after old new (Ok b) → SlotRead head number k before after old new (Ok c)
answer_is head number k before after old new b c e r = subst (λ (x : Bool). SlotRead head number k before after old new (Ok x)) e r
