-- What follows from the definition of a film.
use Rattle.std.proofs.Common.{ℕ, zero, suc, ◌+◌, ◌-◌, ◌*◌, ◌/◌, ◌%◌, ◌≡◌, ◌≤◌, ◌<◌, List, [], ◌∷◌, length, drop, Option, Some, None, Result, Ok, Err, Bool, true, false, cond, not, refl, sym, ap, ap₂, ◌∙◌, subst, arith}
use Rattle.std.specs.Prelude.{nat_eq, nat_lt, is_some, get_or, codes, ◌&&◌, ◌||◌, ◌==◌}
use Rattle.std.specs.List.{starts_with, before_first}
use Rattle.std.specs.Option.{option_or, option_and_then, unwrap_or}
use Rattle.std.specs.Cmp.Lexicographic.{pointwise}
use Rattle.std.proofs.lemmas.Bool.Decides.{nat_tests}
use Rattle.spec_basics.specs.Decimals.{number_of}
use Rattle.spec_film.specs.declared.FilmHead.{FilmHead}
use Rattle.spec_film.specs.declared.HeadFault.{HeadFault}
use Rattle.spec_film.specs.declared.HeadFault.TheVariants.{ReadFault, NotY4m, LongLine, BadNumber, Chroma, Interlace, Size, OddSize}
use Rattle.spec_film.specs.declared.InputFault.{InputFault}
use Rattle.spec_film.specs.declared.InputFault.TheVariants.{NotFrame, CutFrame}
use Rattle.spec_film.specs.Padding.{padded_size}
use Rattle.spec_film.specs.Films.{Planes, Ended, Faulty, is_colon, is_420, is_progressive, is_rate, rate_from, rate_of, rate_at, number_at, value_of, fault_unless, value_fault, piece_fault, pieces_fault, is_between, head_of_sizes, head_from, head_unless, head_of_pieces, pieces_of, head_with, begins_film, line_of, has_line, most_line, most_pictures, read_head, AllowedHead, luma_count, chroma_count, planes_count, planes_at, padded, is_no_frame, is_whole_frame, frame_count, frame_at, Over, Next, Broken, frame_step, pictures_from, pictures_of}
use Rattle.spec_film.proofs.PaddingLaws.{padded_length}

-- what is given under a test, and was given, is given where the test holds
pub given : {A : Type 0} (b : Bool) (x : Option A) (y : A) → cond b x None ≡ Some y → (b ≡ true) × (x ≡ Some y)
given false x y e = absurd (cc)
given true x y e = (refl, e)

some_is : {A : Type 0} (x y : A) → Some x ≡ Some y → x ≡ y
some_is x y e = cc

ok_is : {A B : Type 0} (x y : A) → (let p : Result A B = Ok x in p ≡ Ok y) → x ≡ y
ok_is x y e = cc

-- ---- steps

-- no picture, and no fault
pub pictures_over : (more : ℕ) (head : FilmHead) (bytes : List ℕ) → frame_step more head bytes ≡ Over → pictures_of more head bytes ≡ ([], Ended)
unfolding pictures_of
pictures_over zero head bytes over = ap (λ s. pictures_from s (λ rest. ([], Ended))) over
pictures_over (suc more) head bytes over = ap (λ s. pictures_from s (λ rest. pictures_of more head rest)) over

-- a fault
pub pictures_broken : (more : ℕ) (head : FilmHead) (bytes : List ℕ) (fault : InputFault) → frame_step more head bytes ≡ Broken fault → pictures_of more head bytes ≡ ([], Faulty fault)
unfolding pictures_of
pictures_broken zero head bytes fault broken = ap (λ s. pictures_from s (λ rest. ([], Ended))) broken
pictures_broken (suc more) head bytes fault broken = ap (λ s. pictures_from s (λ rest. pictures_of more head rest)) broken

-- where none may come, none comes
pub next_none : (head : FilmHead) (bytes : List ℕ) (planes : Planes) (rest : List ℕ) → frame_step zero head bytes ≡ Next planes rest → ⊥
unfolding frame_step
next_none head [] planes rest next = cc
next_none head (byte ∷ bytes) planes rest next = cc

-- a picture, and then the rest
pub pictures_next : (more left : ℕ) (head : FilmHead) (bytes : List ℕ) (planes : Planes) (rest : List ℕ) → frame_step more head bytes ≡ Next planes rest → more ≡ left + 1
    → pictures_of more head bytes ≡ (planes ∷ (pictures_of left head rest).0, (pictures_of left head rest).1)
unfolding pictures_of
pictures_next zero left head bytes planes rest next one = absurd (next_none head bytes planes rest next)
pictures_next (suc more) left head bytes planes rest next one =
    let same : more ≡ left = omega arith in
    ap (λ s. pictures_from s (λ rest. pictures_of more head rest)) next
    ∙ ap (λ k. (planes ∷ (pictures_of k head rest).0, (pictures_of k head rest).1)) same

-- where a picture may come and some byte is left, the step is that of a picture
pub step_some : (more : ℕ) (head : FilmHead) (bytes : List ℕ) → 0 < more → 0 < length bytes → frame_step more head bytes ≡ frame_at (most_pictures - more) head bytes
unfolding frame_step
step_some more head [] room some = absurd (omega arith)
step_some zero head (byte ∷ bytes) room some = absurd (omega arith)
step_some (suc more) head (byte ∷ bytes) room some = refl

pub frame_none : (number : ℕ) (head : FilmHead) (bytes : List ℕ) → is_no_frame bytes ≡ true → frame_at number head bytes ≡ Broken (NotFrame number)
unfolding frame_at
frame_none number head bytes none =
    ap (λ (b : Bool). cond b (Broken (NotFrame number)) (cond (is_whole_frame head bytes) (Next (padded head (planes_at head (drop (length (line_of bytes) + 1) bytes))) (drop (frame_count head bytes) bytes)) (Broken (CutFrame number (length bytes))))) none

pub frame_cut : (number : ℕ) (head : FilmHead) (bytes : List ℕ) → is_no_frame bytes ≡ false → is_whole_frame head bytes ≡ false → frame_at number head bytes ≡ Broken (CutFrame number (length bytes))
unfolding frame_at
frame_cut number head bytes like cut =
    ap₂ (λ (b c : Bool). cond b (Broken (NotFrame number)) (cond c (Next (padded head (planes_at head (drop (length (line_of bytes) + 1) bytes))) (drop (frame_count head bytes) bytes)) (Broken (CutFrame number (length bytes))))) like cut

pub frame_next : (number : ℕ) (head : FilmHead) (bytes : List ℕ) → is_no_frame bytes ≡ false → is_whole_frame head bytes ≡ true
    → frame_at number head bytes ≡ Next (padded head (planes_at head (drop (length (line_of bytes) + 1) bytes))) (drop (frame_count head bytes) bytes)
unfolding frame_at
frame_next number head bytes like whole =
    ap₂ (λ (b c : Bool). cond b (Broken (NotFrame number)) (cond c (Next (padded head (planes_at head (drop (length (line_of bytes) + 1) bytes))) (drop (frame_count head bytes) bytes)) (Broken (CutFrame number (length bytes))))) like whole

-- ---- the planes of a picture

-- the planes are padded
pub record IsPadded (head : FilmHead) (planes : Planes) (rest bytes : List ℕ) : Type 0 where
  pub skipped : ℕ
  pub planes_are : planes ≡ padded head (planes_at head (drop skipped bytes))
  pub rest_is : rest ≡ drop (skipped + planes_count head) bytes

next_is : (number : ℕ) (head : FilmHead) (found planes : Planes) (after rest bytes : List ℕ) (got : ℕ) (b c : Bool) → cond b (Broken (NotFrame number)) (cond c (Next found after) (Broken (CutFrame number got))) ≡ Next planes rest
    → (planes ≡ found) × (rest ≡ after)
next_is number head found planes after rest bytes got true c e = absurd (cc)
next_is number head found planes after rest bytes got false false e = absurd (cc)
next_is number head found planes after rest bytes got false true e =
    let a : planes ≡ found = cc in
    let b : rest ≡ after = cc in
    (a, b)

next_of : (number : ℕ) (head : FilmHead) (bytes : List ℕ) (planes : Planes) (rest : List ℕ) → frame_at number head bytes ≡ Next planes rest → IsPadded head planes rest bytes
unfolding frame_at
next_of number head bytes planes rest next =
    let n = next_is number head (padded head (planes_at head (drop (length (line_of bytes) + 1) bytes))) planes (drop (frame_count head bytes) bytes) rest bytes (length bytes) (is_no_frame bytes) (is_whole_frame head bytes) next in
    record { skipped = length (line_of bytes) + 1; planes_are = n.0; rest_is = n.1 }

pub next_padded : (more : ℕ) (head : FilmHead) (bytes : List ℕ) (planes : Planes) (rest : List ℕ) → frame_step more head bytes ≡ Next planes rest → IsPadded head planes rest bytes
unfolding frame_step
next_padded more head [] planes rest next = absurd (cc)
next_padded zero head (byte ∷ bytes) planes rest next = absurd (cc)
next_padded (suc more) head (byte ∷ bytes) planes rest next = next_of (most_pictures - suc more) head (byte ∷ bytes) planes rest next

-- the planes have the head's sizes, rounded up to whole macroblocks
abbrev pub HasSizes : FilmHead → Planes → Type 0
HasSizes head planes =
    (length planes.luma ≡ padded_size head.height * padded_size head.width)
    × (length planes.cb ≡ padded_size head.height / 2 * (padded_size head.width / 2)) × (length planes.cr ≡ padded_size head.height / 2 * (padded_size head.width / 2))

pub padded_sizes : (head : FilmHead) (planes : Planes) → HasSizes head (padded head planes)
padded_sizes head planes =
    let w : head.width ≤ padded_size head.width = rounds head.width in
    let h : head.height ≤ padded_size head.height = rounds head.height in
    let cw : head.width / 2 ≤ padded_size head.width / 2 = halves head.width (padded_size head.width) w in
    let ch : head.height / 2 ≤ padded_size head.height / 2 = halves head.height (padded_size head.height) h in (
      padded_length head.width head.height (padded_size head.width) (padded_size head.height) planes.luma w h,
      padded_length (head.width / 2) (head.height / 2) (padded_size head.width / 2) (padded_size head.height / 2) planes.cb cw ch,
      padded_length (head.width / 2) (head.height / 2) (padded_size head.width / 2) (padded_size head.height / 2) planes.cr cw ch,
    )
  where
    rounds : (n : ℕ) → n ≤ padded_size n
    rounds n = omega arith

    halves : (a b : ℕ) → a ≤ b → a / 2 ≤ b / 2
    halves a b h = omega arith

pub next_lengths : (more : ℕ) (head : FilmHead) (bytes : List ℕ) (planes : Planes) (rest : List ℕ) → frame_step more head bytes ≡ Next planes rest → HasSizes head planes
next_lengths more head bytes planes rest next =
    let p = next_padded more head bytes planes rest next in
    subst (HasSizes head) (sym p.planes_are) (padded_sizes head (planes_at head (drop p.skipped bytes)))

-- ---- the rate

pub rate_tests : (num den : ℕ) → is_rate num den ≡ true → (1 ≤ num) × (num ≤ 10000000) × (1 ≤ den) × (den ≤ 10000000) × (num ≤ 172 * den)
rate_tests num den h = (grind (arith, nat_tests), grind (arith, nat_tests), grind (arith, nat_tests), grind (arith, nat_tests), grind (arith, nat_tests))

rate_from_is : (a b : Option ℕ) (r : ℕ × ℕ) → rate_from a b ≡ Some r → is_rate r.0 r.1 ≡ true
rate_from_is None b r e = absurd (cc)
rate_from_is (Some num) None r e = absurd (cc)
rate_from_is (Some num) (Some den) r e = go (is_rate num den) refl e
  where
    go : (t : Bool) → is_rate num den ≡ t → cond t (Some (num, den)) None ≡ Some r → is_rate r.0 r.1 ≡ true
    go false is e = absurd (cc)
    go true is e = subst (λ (p : ℕ × ℕ). is_rate p.0 p.1 ≡ true) (some_is (num, den) r e) is

rate_of_is : (text : List ℕ) (r : ℕ × ℕ) → rate_of text ≡ Some r → is_rate r.0 r.1 ≡ true
unfolding rate_of
rate_of_is text r e =
    go (pointwise nat_eq text (codes "0:0")) (starts_with nat_eq (drop (length (before_first is_colon text)) text) (codes ":")) (rate_from (number_of 9 (before_first is_colon text)) (number_of 9 (drop 1 (drop (length (before_first is_colon text)) text))))
    (λ h. rate_from_is (number_of 9 (before_first is_colon text)) (number_of 9 (drop 1 (drop (length (before_first is_colon text)) text))) r h) e
  where
    go : (b c : Bool) (x : Option (ℕ × ℕ)) → (x ≡ Some r → is_rate r.0 r.1 ≡ true) → cond b (Some (25, 1)) (cond c x None) ≡ Some r → is_rate r.0 r.1 ≡ true
    go true c x f e = subst (λ (p : ℕ × ℕ). is_rate p.0 p.1 ≡ true) (some_is (25, 1) r e) refl
    go false true x f e = f e
    go false false x f e = absurd (cc)

rate_at_is : (pieces : List (List ℕ)) → is_rate (rate_at pieces).0 (rate_at pieces).1 ≡ true
rate_at_is pieces = go (value_of 70 pieces)
  where
    by : (text : List ℕ) (x : Option (ℕ × ℕ)) → rate_of text ≡ x → is_rate (unwrap_or x (25, 1)).0 (unwrap_or x (25, 1)).1 ≡ true
    by text None is = refl
    by text (Some r) is = rate_of_is text r is

    go : (o : Option (List ℕ)) → is_rate (unwrap_or (option_and_then rate_of o) (25, 1)).0 (unwrap_or (option_and_then rate_of o) (25, 1)).1 ≡ true
    go None = refl
    go (Some text) = by text (rate_of text) refl

-- ---- the head

between_tests : (w h : ℕ) → (is_between 16 4096 w && is_between 16 2304 h) ≡ true → (16 ≤ w) × (w ≤ 4096) × (16 ≤ h) × (h ≤ 2304)
between_tests w h e = (grind (arith, nat_tests), grind (arith, nat_tests), grind (arith, nat_tests), grind (arith, nat_tests))

even_tests : (a b : ℕ) → ((a == 0) && (b == 0)) ≡ true → (a ≡ 0) × (b ≡ 0)
even_tests a b e = (grind (arith, nat_tests), grind (arith, nat_tests))

sizes_by : (w h : ℕ) (rate : ℕ × ℕ) (made head : FilmHead) (p q : Bool) → is_rate rate.0 rate.1 ≡ true → (let m : FilmHead = record { width = w; height = h; num = rate.0; den = rate.1 } in made ≡ m)
    → (is_between 16 4096 w && is_between 16 2304 h) ≡ p → ((w % 2 == 0) && (h % 2 == 0)) ≡ q → cond (not p) (Err Size) (cond (not q) (Err OddSize) (Ok made)) ≡ Ok head → AllowedHead head
sizes_by w h rate made head false q good is pe qe e = absurd (cc)
sizes_by w h rate made head true false good is pe qe e = absurd (cc)
sizes_by w h rate made head true true good is pe qe e =
    let b = between_tests w h pe in
    let v = even_tests (w % 2) (h % 2) qe in
    let r = rate_tests rate.0 rate.1 good in
    subst AllowedHead (sym is ∙ ok_is made head e) (record {
      width_least = b.0;
      width_most = b.1;
      width_even = v.0;
      height_least = b.2;
      height_most = b.3;
      height_even = v.1;
      num_least = r.0;
      num_most = r.1;
      den_least = r.2;
      den_most = r.3;
      rate = r.4;
    })

sizes_allowed : (w h : ℕ) (rate : ℕ × ℕ) (head : FilmHead) → is_rate rate.0 rate.1 ≡ true → head_of_sizes w h rate ≡ Ok head → AllowedHead head
sizes_allowed w h rate head good e =
    sizes_by w h rate (record { width = w; height = h; num = rate.0; den = rate.1 }) head (is_between 16 4096 w && is_between 16 2304 h) ((w % 2 == 0) && (h % 2 == 0)) good refl refl refl e

from_allowed : (w h : Option ℕ) (rate : ℕ × ℕ) (head : FilmHead) → is_rate rate.0 rate.1 ≡ true → head_from w h rate ≡ Ok head → AllowedHead head
from_allowed None h rate head good e = absurd (cc)
from_allowed (Some w) None rate head good e = absurd (cc)
from_allowed (Some w) (Some h) rate head good e = sizes_allowed w h rate head good e

-- a head that is read has allowed values
pub pieces_allowed : (pieces : List (List ℕ)) (head : FilmHead) → head_of_pieces pieces ≡ Ok head → AllowedHead head
unfolding head_of_pieces
pieces_allowed pieces head e = go (pieces_fault pieces) e
  where
    go : (o : Option HeadFault) → head_unless o pieces ≡ Ok head → AllowedHead head
    go (Some fault) e = absurd (cc)
    go None e = from_allowed (number_at 87 pieces) (number_at 72 pieces) (rate_at pieces) head (rate_at_is pieces) e

-- the parts of what is read
pub record HeadRead (bytes : List ℕ) (head : FilmHead) (rest : List ℕ) : Type 0 where
  pub has : has_line bytes ≡ true
  pub writes : head_of_pieces (pieces_of (drop 9 (line_of bytes))) ≡ Ok head
  pub rest_is : rest ≡ drop (length (line_of bytes) + 1) bytes

parts_by : (after : List ℕ) (all : FilmHead × List ℕ) (a b c : Bool) (x : Result FilmHead HeadFault) → cond (not a) (Err NotY4m) (cond b (head_with x after) (cond c (Err NotY4m) (Err LongLine))) ≡ Ok all
    → (b ≡ true) × (x ≡ Ok all.0) × (all.1 ≡ after)
parts_by after all false b c x e = absurd (cc)
parts_by after all true false false x e = absurd (cc)
parts_by after all true false true x e = absurd (cc)
parts_by after all true true c (Err fault) e = absurd (cc)
parts_by after all true true c (Ok found) e =
    let same : (let p : FilmHead × List ℕ = (found, after) in p ≡ all) = ok_is _ all e in
    (refl, ap (λ (p : FilmHead × List ℕ). Ok p.0) same, sym (ap (λ (p : FilmHead × List ℕ). p.1) same))

pub head_parts : (bytes : List ℕ) (head : FilmHead) (rest : List ℕ) → read_head bytes ≡ Ok (head, rest) → HeadRead bytes head rest
unfolding read_head
head_parts bytes head rest e =
    let p = parts_by (drop (length (line_of bytes) + 1) bytes) (head, rest) (begins_film bytes) (has_line bytes) (nat_lt (length bytes) most_line) (head_of_pieces (pieces_of (drop 9 (line_of bytes)))) e in
    record { has = p.0; writes = p.1; rest_is = p.2 }

pub head_allowed : (bytes : List ℕ) (head : FilmHead) (rest : List ℕ) → read_head bytes ≡ Ok (head, rest) → AllowedHead head
head_allowed bytes head rest e = pieces_allowed (pieces_of (drop 9 (line_of bytes))) head (head_parts bytes head rest e).writes

-- ---- no fault of a head is that of a read

value_never : (letter : ℕ) (value : List ℕ) → value_fault letter value ≡ Some ReadFault → ⊥
unfolding value_fault
value_never letter value e = chain ((letter == 87) || (letter == 72)) (letter == 70) (letter == 67) (letter == 73) (is_some (number_of 9 value)) (is_some (rate_of value)) (is_420 value) (is_progressive value) e
  where
    chain : (a b c d p q r s : Bool) → cond a (fault_unless p BadNumber) (cond b (fault_unless q BadNumber) (cond c (fault_unless r Chroma) (cond d (fault_unless s Interlace) None))) ≡ Some ReadFault → ⊥
    chain true b c d true q r s e = cc
    chain true b c d false q r s e = cc
    chain false true c d p true r s e = cc
    chain false true c d p false r s e = cc
    chain false false true d p q true s e = cc
    chain false false true d p q false s e = cc
    chain false false false true p q r true e = cc
    chain false false false true p q r false e = cc
    chain false false false false p q r s e = cc

fault_never : (pieces : List (List ℕ)) → pieces_fault pieces ≡ Some ReadFault → ⊥
unfolding pieces_fault
fault_never [] e = cc
fault_never (piece ∷ pieces) e = go (piece_fault piece) (pieces_fault pieces) (λ h. value_never (get_or piece 0 0) (drop 1 piece) h) (λ h. fault_never pieces h) e
  where
    go : (a b : Option HeadFault) → (a ≡ Some ReadFault → ⊥) → (b ≡ Some ReadFault → ⊥) → option_or a b ≡ Some ReadFault → ⊥
    go None b f g e = g e
    go (Some x) b f g e = f e

sizes_never : (w h : ℕ) (rate : ℕ × ℕ) → head_of_sizes w h rate ≡ Err ReadFault → ⊥
sizes_never w h rate e = go (is_between 16 4096 w && is_between 16 2304 h) ((w % 2 == 0) && (h % 2 == 0)) (record { width = w; height = h; num = rate.0; den = rate.1 }) e
  where
    go : (p q : Bool) (made : FilmHead) → cond (not p) (Err Size) (cond (not q) (Err OddSize) (Ok made)) ≡ Err ReadFault → ⊥
    go false q made e = cc
    go true false made e = cc
    go true true made e = cc

from_never : (w h : Option ℕ) (rate : ℕ × ℕ) → head_from w h rate ≡ Err ReadFault → ⊥
from_never None h rate e = cc
from_never (Some w) None rate e = cc
from_never (Some w) (Some h) rate e = sizes_never w h rate e

pub pieces_never : (pieces : List (List ℕ)) → head_of_pieces pieces ≡ Err ReadFault → ⊥
unfolding head_of_pieces
pieces_never pieces e = go (pieces_fault pieces) refl e
  where
    go : (o : Option HeadFault) → pieces_fault pieces ≡ o → head_unless o pieces ≡ Err ReadFault → ⊥
    go None is e = from_never (number_at 87 pieces) (number_at 72 pieces) (rate_at pieces) e
    go (Some fault) is e = let same : fault ≡ ReadFault = cc in fault_never pieces (is ∙ ap (λ f. Some f) same)

-- chroma planes have a quarter of the luma plane's samples
pub chroma_quarter : (head : FilmHead) → AllowedHead head → chroma_count head ≡ luma_count head / 4
chroma_quarter head h = quarter head.width head.height h.width_even h.height_even
  where
    quarter : (w h : ℕ) → w % 2 ≡ 0 → h % 2 ≡ 0 → w / 2 * (h / 2) ≡ w * h / 4
    quarter w h a b =
        let wide : w ≡ 2 * (w / 2) = omega arith in
        let high : h ≡ 2 * (h / 2) = omega arith in
        let whole : w * h ≡ 4 * (w / 2 * (h / 2)) = ap₂ (λ (m n : ℕ). m * n) wide high ∙ four (w / 2) (h / 2) in
        omega (arith, whole)
      where
        four : (m n : ℕ) → 2 * m * (2 * n) ≡ 4 * (m * n)
        four m n = grind arith
