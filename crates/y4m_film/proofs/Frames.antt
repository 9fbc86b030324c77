-- A picture is a line and three planes.
use Rattle.std.proofs.Common.{ℕ, zero, suc, ◌+◌, ◌-◌, ◌≡◌, ◌<◌, ◌≤◌, ◌⊎◌, inl, inr, min, List, [], ◌∷◌, length, take, drop, get_or, Option, Some, None, Result, Ok, Err, Bool, true, false, not, refl, ap, ap₂, sym, ◌∙◌, arith, subst, length-drop}
use Rattle.std.specs.Prelude.{IfSome, IfErr, ◌&&◌, ◌||◌, nat_le, nat_eq}
use Rattle.std.specs.Option.{option_map}
use Rattle.std.specs.List.{starts_with, position_or_len}
use Rattle.std.specs.Cmp.Lexicographic.{pointwise, bytes_decides}
use Rattle.std.proofs.lemmas.Bool.{cases_lt}
use Rattle.std.proofs.lemmas.Bool.Decides.{nat_tests}
use Rattle.std.proofs.lemmas.List.{get_or-take}
use Rattle.std.proofs.lemmas.List.Sums.{passes_at_first, prefix_len-le-length}
use Rattle.std.proofs.lemmas.Grind.{common_steps}
use Rattle.enc_edge.specs.declared.studio.Place.TheVariants.{Input}
use Rattle.enc_edge.specs.Seen.{Seen}
use Rattle.enc_edge.specs.Calls.{took, LaterFailed}
use Rattle.enc_edge.specs.Reads.{Took, TookSome, ReadFailed, ReadFailedWithin}
use Rattle.enc_edge.proofs.Spots.{took_more, read_step}
use Rattle.spec_film.specs.declared.FilmHead.{FilmHead}
use Rattle.spec_film.specs.declared.InputFault.{InputFault}
use Rattle.spec_film.specs.declared.InputFault.TheVariants as faults
use Rattle.spec_film.specs.Films.{Planes, is_line_feed, ends_word, line_of, has_line, most_line, most_pictures, planes_count, planes_at, padded, frame_word, is_unlike_frame, is_no_frame, frame_count, frame_at, Next, Broken, frame_step}
use Rattle.spec_film.proofs.FilmLaws.{step_some, frame_none, frame_cut, frame_next}
use Rattle.y4m_film.specs.declared.pictures.FrameFault.{FrameFault}
use Rattle.y4m_film.specs.declared.pictures.FrameFault.TheVariants.{NotFrame, CutFrame, TooLong, ReadFault}
use Rattle.y4m_film.specs.LineReads.{WholeLine, CutLine, LongLine, LineUnread}
use Rattle.y4m_film.specs.FrameEnds.{FrameUnread, FrameEnd, CutEnd, PlanesEnd, input_fault}
use Rattle.y4m_film.proofs.LineBytes.{Read}

-- ---- the picture of a number

step_is : (number : ℕ) (head : FilmHead) (left : List ℕ) → number < most_pictures → 0 < length left → frame_step (most_pictures - number) head left ≡ frame_at number head left
step_is number head left room some = step_some (most_pictures - number) head left (omega arith) some ∙ ap (λ (k : ℕ). frame_at k head left) (twice most_pictures number room)
  where
    twice : (m n : ℕ) → n < m → m - (m - n) ≡ n
    twice m n h = omega arith

-- ---- the line

-- a line feed among the first five bytes
word_at : (i : ℕ) → i < 5 → get_or frame_word i 0 ≡ 10 → ⊥
word_at zero h e = cc
word_at (suc zero) h e = cc
word_at (suc (suc zero)) h e = cc
word_at (suc (suc (suc zero))) h e = cc
word_at (suc (suc (suc (suc zero)))) h e = cc
word_at (suc (suc (suc (suc (suc i))))) h e = absurd (omega arith)

not_word : (ys : List ℕ) (i : ℕ) → i < 5 → i < length ys → get_or ys i 0 ≡ 10 → starts_with nat_eq frame_word ys ≡ false
not_word ys i h k e = go (pointwise nat_eq ys (take (length ys) frame_word)) refl
  where
    go : (b : Bool) → pointwise nat_eq ys (take (length ys) frame_word) ≡ b → pointwise nat_eq ys (take (length ys) frame_word) ≡ false
    go false is = is
    go true is =
        let same : ys ≡ take (length ys) frame_word = (bytes_decides ys (take (length ys) frame_word)).0 is in
        absurd (word_at i h (sym (get_or-take (length ys) frame_word i 0 k) ∙ ap (λ (l : List ℕ). get_or l i 0) (sym same) ∙ e))

fed_unlike : (xs : List ℕ) (i : ℕ) → i < 5 → i < length xs → get_or xs i 0 ≡ 10 → is_unlike_frame xs ≡ true
unfolding is_unlike_frame
fed_unlike xs i h k e =
    ap (λ (b : Bool). not b || (nat_le 6 (length xs) && not (ends_word (get_or xs 5 0))))
    (not_word (take 5 xs) i h (front xs i h k) (get_or-take 5 xs i 0 h ∙ e))
  where
    front : (xs : List ℕ) (i : ℕ) → i < 5 → i < length xs → i < length (take 5 xs)
    front xs i h k = grind (arith, common_steps)

length_front : (n : ℕ) (xs : List ℕ) → length (take n xs) ≡ min n (length xs)
length_front n xs = grind (arith, common_steps)

shorter : (a b : ℕ) (xs : List ℕ) → a ≤ b → take a (take b xs) ≡ take a xs
shorter a b xs h = grind (arith, common_steps)

-- where the line feed stands
pub fed_at : (n : ℕ) (left : List ℕ) → has_line left ≡ true → length (line_of left) + 1 ≡ n → get_or left (n - 1) 0 ≡ 10
fed_at n left has is =
    let p : ℕ = position_or_len is_line_feed (take most_line left) in
    let most : position_or_len is_line_feed (take most_line left) ≤ length (take most_line left) = prefix_len-le-length _ (take most_line left) in
    let long : length (line_of left) ≡ position_or_len is_line_feed (take most_line left) = length_front (position_or_len is_line_feed (take most_line left)) (take most_line left) ∙ omega (arith, most) in
    let test : length (line_of left) + 1 ≤ length (take most_line left) = tested (length (line_of left) + 1) (length (take most_line left)) has in
    let inside : position_or_len is_line_feed (take most_line left) < length (take most_line left) = omega (arith, long, test) in
    let room : position_or_len is_line_feed (take most_line left) < most_line = omega (arith, inside, length_front most_line left) in
    let place : n - 1 ≡ position_or_len is_line_feed (take most_line left) = omega (arith, long, is) in
    ap (λ (k : ℕ). get_or left k 0) place ∙ sym (get_or-take most_line left (position_or_len is_line_feed (take most_line left)) 0 room)
    ∙ is_ten (get_or (take most_line left) (position_or_len is_line_feed (take most_line left)) 0) (passes_at_first is_line_feed (take most_line left) 0 inside)
  where
    tested : (a b : ℕ) → nat_le a b ≡ true → a ≤ b
    tested a b e = grind (arith, nat_tests)

    is_ten : (b : ℕ) → is_line_feed b ≡ true → b ≡ 10
    is_ten b e = grind (arith, nat_tests)

-- a line tells as much as all bytes
line_tells : (n : ℕ) (left : List ℕ) → n ≤ length left → has_line left ≡ true → length (line_of left) + 1 ≡ n → is_unlike_frame (take n left) ≡ is_unlike_frame left
unfolding is_unlike_frame
line_tells n left long has is = by (cases_lt n 6)
  where
    feed : get_or left (n - 1) 0 ≡ 10
    feed = fed_at n left has is

    by : (n < 6) ⊎ (6 ≤ n) → is_unlike_frame (take n left) ≡ is_unlike_frame left
    by (inl few) =
        fed_unlike (take n left) (n - 1) (omega (arith, is)) (omega (arith, is, length_front n left)) (get_or-take n left (n - 1) 0 (omega (arith, is)) ∙ feed)
        ∙ sym (fed_unlike left (n - 1) (omega (arith, is)) (omega (arith, is)) feed)
    by (inr many) =
        ap₂ (λ (xs : List ℕ) (b : Bool). not (starts_with nat_eq frame_word xs) || b) (front n left many) (rest (length (take n left)) (length left) (length_front n left))
      where
        front : (n : ℕ) (xs : List ℕ) → 6 ≤ n → take 5 (take n xs) ≡ take 5 xs
        front n xs h = shorter 5 n xs (omega arith)

        test : (a b : ℕ) → a ≤ b → nat_le a b ≡ true
        test a b h = grind (arith, nat_tests)

        rest : (a b : ℕ) → a ≡ min n (length left) → (nat_le 6 (length (take n left)) && not (ends_word (get_or (take n left) 5 0))) ≡ (nat_le 6 (length left) && not (ends_word (get_or left 5 0)))
        rest a b e =
            ap₂ (λ (t : Bool) (c : ℕ). t && not (ends_word c)) (test 6 (length (take n left)) (omega (arith, many, long, length_front n left)) ∙ sym (test 6 (length left) (omega (arith, many, long)))) (get_or-take n left 5 0 (omega arith))

or_false : (b : Bool) → (b || false) ≡ b
or_false true = refl
or_false false = refl

and_false : (b : Bool) → (b && false) ≡ false
and_false true = refl
and_false false = refl

-- where there is a line, only its bytes tell whether it is one
like_line : (left : List ℕ) → has_line left ≡ true → is_no_frame left ≡ is_unlike_frame left
like_line left has =
    ap (λ (b : Bool). is_unlike_frame left || (nat_le most_line (length left) && not b)) has
    ∙ ap (λ (b : Bool). is_unlike_frame left || b) (and_false (nat_le most_line (length left))) ∙ or_false (is_unlike_frame left)

-- and where the input ends before
like_short : (left : List ℕ) → length left < most_line → is_no_frame left ≡ is_unlike_frame left
like_short left short =
    ap (λ (b : Bool). is_unlike_frame left || (b && not (has_line left))) (test most_line (length left) short) ∙ or_false (is_unlike_frame left)
  where
    test : (a b : ℕ) → b < a → nat_le a b ≡ false
    test a b h = grind (arith, nat_tests)

-- a line that is too long
no_frame_long : (left : List ℕ) → most_line ≤ length left → has_line left ≡ false → is_no_frame left ≡ true
no_frame_long left long has =
    ap₂ (λ (a b : Bool). is_unlike_frame left || (a && not b)) (test most_line (length left) long) has ∙ or_true (is_unlike_frame left)
  where
    test : (a b : ℕ) → a ≤ b → nat_le a b ≡ true
    test a b h = grind (arith, nat_tests)

    or_true : (b : Bool) → (b || true) ≡ true
    or_true true = refl
    or_true false = refl

-- ---- no picture

long_told : (number : ℕ) (head : FilmHead) (line : List ℕ) (o : Option (List ℕ)) → number < most_pictures → IfSome o (LongLine line) → IfSome o (λ left. frame_step (most_pictures - number) head left ≡ Broken (faults.NotFrame number))
long_told number head line None room told = tt
long_told number head line (Some left) room told = step_is number head left room (omega (arith, told.0)) ∙ frame_none number head left (no_frame_long left told.0 told.1)

pub frame_long : (number : ℕ) (head : FilmHead) (line : List ℕ) (first last : Seen) → number < most_pictures → Took most_line (LongLine line) first last → FrameEnd head number first last (NotFrame number)
frame_long number head line first last room t = (refl, (most_line, record { change = t.change; content = long_told number head line first.input.bytes room t.content }))

unlike_told : (number n : ℕ) (head : FilmHead) (line : List ℕ) (o : Option (List ℕ)) → number < most_pictures → is_unlike_frame (take n line) ≡ true → IfSome o (WholeLine n line)
    → IfSome o (λ left. frame_step (most_pictures - number) head left ≡ Broken (faults.NotFrame number))
unlike_told number n head line None room unlike told = tt
unlike_told number n head line (Some left) room unlike told =
    step_is number head left room (omega (arith, told.0, told.2))
    ∙ frame_none number head left (like_line left told.1 ∙ sym (line_tells n left told.0 told.1 told.2) ∙ ap is_unlike_frame (sym told.3) ∙ unlike)

pub frame_unlike : (number n : ℕ) (head : FilmHead) (line : List ℕ) (first last : Seen) → number < most_pictures → is_unlike_frame (take n line) ≡ true → (1 ≤ n) × (n ≤ most_line) × Took n (WholeLine n line) first last
    → FrameEnd head number first last (NotFrame number)
frame_unlike number n head line first last room unlike t = (refl, (n, record { change = t.2.change; content = unlike_told number n head line first.input.bytes room unlike t.2.content }))

-- ---- the input ended in the line

cut_unlike : (number n : ℕ) (head : FilmHead) (line : List ℕ) (o : Option (List ℕ)) → number < most_pictures → n < most_line → 0 < length (take n line) → is_unlike_frame (take n line) ≡ true → IfSome o (CutLine n line)
    → IfSome o (λ left. frame_step (most_pictures - number) head left ≡ Broken (faults.NotFrame number))
cut_unlike number n head line None room most some unlike told = tt
cut_unlike number n head line (Some left) room most some unlike told =
    step_is number head left room (subst (λ (l : List ℕ). 0 < length l) told.2 some)
    ∙ frame_none number head left (like_short left (omega (arith, told.0)) ∙ ap is_unlike_frame (sym told.2) ∙ unlike)

cut_like : (number n : ℕ) (head : FilmHead) (line : List ℕ) (o : Option (List ℕ)) → number < most_pictures → n < most_line → 0 < length (take n line) → is_unlike_frame (take n line) ≡ false → IfSome o (CutLine n line)
    → IfSome o (λ left. frame_step (most_pictures - number) head left ≡ Broken (faults.CutFrame number n))
cut_like number n head line None room most some like told = tt
cut_like number n head line (Some left) room most some like told =
    step_is number head left room (subst (λ (l : List ℕ). 0 < length l) told.2 some)
    ∙ frame_cut number head left (like_short left (omega (arith, told.0)) ∙ ap is_unlike_frame (sym told.2) ∙ like) (ap (λ (b : Bool). b && nat_le (frame_count head left) (length left)) told.1)
    ∙ ap (λ (k : ℕ). Broken (faults.CutFrame number k)) told.0

cut_faulty : (number n : ℕ) (head : FilmHead) (line : List ℕ) (r : Result Bool FrameFault) (first last : Seen) → number < most_pictures → n < most_line → length (take n line) ≡ n → Took n (CutLine n line) first last → CutEnd number (take n line) r
    → IfErr r (FrameEnd head number first last)
cut_faulty number n head line (Ok more) first last room most size t e = tt
cut_faulty number n head line (Err TooLong) first last room most size t e = absurd e
cut_faulty number n head line (Err ReadFault) first last room most size t e = absurd e
cut_faulty number n head line (Err (NotFrame picture)) first last room most size t e =
    subst (λ (k : ℕ). FrameEnd head number first last (NotFrame k)) (sym e.2)
    (refl, (n, record { change = t.change; content = cut_unlike number n head line first.input.bytes room most e.0 e.1 t.content }))
cut_faulty number n head line (Err (CutFrame picture got)) first last room most size t e =
    subst (λ (k : ℕ). FrameEnd head number first last (CutFrame k got)) (sym e.2)
    (subst (λ (k : ℕ). FrameEnd head number first last (CutFrame number k)) (sym (e.3 ∙ size))
    (refl, record { change = t.change; content = cut_like number n head line first.input.bytes room most e.0 e.1 t.content }))

front_long : (n : ℕ) (line : List ℕ) → length line ≡ 1024 → n < most_line → length (take n line) ≡ n
front_long n line long most = length_front n line ∙ omega arith

pub cut_fault : (number n : ℕ) (head : FilmHead) (line : List ℕ) (r : Result Bool FrameFault) (first last : Seen) → number < most_pictures → length line ≡ 1024 → (n < most_line) × Took n (CutLine n line) first last
    → CutEnd number (take n line) r → IfErr r (FrameEnd head number first last)
cut_fault number n head line r first last room long t e = cut_faulty number n head line r first last room t.0 (front_long n line long t.0) t.1 e

never : (b : Bool) (X : Type 0) → b ≡ true → b ≡ false → X
never b X t f = absurd (let n : true ≡ false = sym t ∙ f in cc)

pub cut_never : (number : ℕ) (bytes : List ℕ) (r : Result Bool FrameFault) (X : Type 0) → CutEnd number bytes r → r ≡ Ok true → X
cut_never number bytes (Ok more) X e is = never more X (let m : more ≡ true = cc in m) e.0
cut_never number bytes (Err fault) X e is = absurd (cc)

over_told : (n : ℕ) (line : List ℕ) (o : Option (List ℕ)) → take n line ≡ [] → IfSome o (CutLine n line) → IfSome o (λ left. left ≡ [])
over_told n line None none told = tt
over_told n line (Some left) none told = sym told.2 ∙ none

pub cut_over : (number n : ℕ) (line : List ℕ) (r : Result Bool FrameFault) (first last : Seen) → length line ≡ 1024 → (n < most_line) × Took n (CutLine n line) first last → CutEnd number (take n line) r → r ≡ Ok false
    → Took 0 (λ left. left ≡ []) first last
cut_over number n line (Err fault) first last long t e is = absurd (cc)
cut_over number n line (Ok more) first last long t e is =
    let zero_long : n ≡ 0 = sym (front_long n line long t.0) ∙ ap (λ (l : List ℕ). length l) e.1 in
    record { change = t.1.change ∙ ap (λ (k : ℕ). took Input k first) zero_long; content = over_told n line first.input.bytes e.1 t.1.content }

-- ---- the picture

whole_told : (number n : ℕ) (head : FilmHead) (line : List ℕ) (planes : Planes) (o : Option (List ℕ)) → number < most_pictures → is_unlike_frame (take n line) ≡ false → IfSome o (WholeLine n line)
    → IfSome (option_map (drop n) o) (λ left. (planes_count head ≤ length left) × (planes ≡ padded head (planes_at head left)))
    → IfSome o (λ left. (n + planes_count head ≤ length left) × (frame_step (most_pictures - number) head left ≡ Next planes (drop (n + planes_count head) left)))
whole_told number n head line planes None room like told all = tt
whole_told number n head line planes (Some left) room like told all =
    let long : n + planes_count head ≤ length left = enough (length left) (length (drop n left)) (planes_count head) (length-drop n left) told.0 all.0 in
    let count : frame_count head left ≡ n + planes_count head = ap (λ (k : ℕ). k + planes_count head) told.2 in (
      long,
      step_is number head left room (omega (arith, told.0, told.2))
          ∙ frame_next number head left (like_line left told.1 ∙ sym (line_tells n left told.0 told.1 told.2) ∙ ap is_unlike_frame (sym told.3) ∙ like)
          (ap₂ (λ (a b : Bool). a && b) told.1 (test (frame_count head left) (length left) (omega (arith, long, count))))
          ∙ ap₂ (λ (k m : ℕ). Next (padded head (planes_at head (drop k left))) (drop m left)) told.2 count
          ∙ ap (λ (p : Planes). Next p (drop (n + planes_count head) left)) (sym all.1),
    )
  where
    enough : (l d p : ℕ) → d ≡ l - n → n ≤ l → p ≤ d → n + p ≤ l
    enough l d p e h k = omega arith

    test : (a b : ℕ) → a ≤ b → nat_le a b ≡ true
    test a b h = grind (arith, nat_tests)

pub frame_whole : (number n : ℕ) (head : FilmHead) (line : List ℕ) (planes : Planes) (r : Result Bool FrameFault) (first mid last : Seen) → number < most_pictures → is_unlike_frame (take n line) ≡ false
    → (1 ≤ n) × (n ≤ most_line) × Took n (WholeLine n line) first mid → PlanesEnd head number n planes mid last r → r ≡ Ok true
    → (k : ℕ) × Took k (λ left. (k ≤ length left) × (frame_step (most_pictures - number) head left ≡ Next planes (drop k left))) first last
frame_whole number n head line planes (Err fault) first mid last room like t e is = absurd (cc)
frame_whole number n head line planes (Ok more) first mid last room like t e is = (
  n + planes_count head,
  record {
    change = read_step n (planes_count head) first mid last t.2.change e.1.change;
    content = whole_told number n head line planes first.input.bytes room like t.2.content
        (subst (λ (s : Seen). IfSome s.input.bytes (λ left. (planes_count head ≤ length left) × (planes ≡ padded head (planes_at head left)))) t.2.change e.1.content);
  },
)

pub frame_never_over : (head : FilmHead) (number n : ℕ) (planes : Planes) (mid last : Seen) (r : Result Bool FrameFault) (X : Type 0) → PlanesEnd head number n planes mid last r → r ≡ Ok false → X
frame_never_over head number n planes mid last (Ok more) X e is = never more X e.0 (let m : more ≡ false = cc in m)
frame_never_over head number n planes mid last (Err fault) X e is = absurd (cc)

short_told : (number n m : ℕ) (head : FilmHead) (line : List ℕ) (o : Option (List ℕ)) → number < most_pictures → is_unlike_frame (take n line) ≡ false → m < planes_count head → IfSome o (WholeLine n line)
    → IfSome (option_map (drop n) o) (λ left. length left ≡ m) → IfSome o (λ left. frame_step (most_pictures - number) head left ≡ Broken (faults.CutFrame number (n + m)))
short_told number n m head line None room like few told short = tt
short_told number n m head line (Some left) room like few told short =
    let size : length left ≡ n + m = sum (length left) (length (drop n left)) (length-drop n left) told.0 short in
    let count : frame_count head left ≡ n + planes_count head = ap (λ (k : ℕ). k + planes_count head) told.2 in
    step_is number head left room (omega (arith, told.0, told.2))
    ∙ frame_cut number head left (like_line left told.1 ∙ sym (line_tells n left told.0 told.1 told.2) ∙ ap is_unlike_frame (sym told.3) ∙ like)
    (ap₂ (λ (a b : Bool). a && b) told.1 (test (frame_count head left) (length left) (omega (arith, size, count, few))))
    ∙ ap (λ (k : ℕ). Broken (faults.CutFrame number k)) size
  where
    sum : (l d : ℕ) → d ≡ l - n → n ≤ l → d ≡ m → l ≡ n + m
    sum l d e h k = omega arith

    test : (a b : ℕ) → b < a → nat_le a b ≡ false
    test a b h = grind (arith, nat_tests)

line_within : (left : List ℕ) → length (line_of left) ≤ length left
line_within left = front (position_or_len is_line_feed (take most_line left)) most_line left
  where
    front : (p m : ℕ) (xs : List ℕ) → length (take p (take m xs)) ≤ length xs
    front p m xs = grind (arith, common_steps)

planes_unread : (n m : ℕ) (head : FilmHead) (line : List ℕ) (o : Option (List ℕ)) → m < planes_count head → IfSome o (WholeLine n line) → IfSome (option_map (drop n) o) (λ left. m ≤ length left)
    → IfSome o (λ left. (n + m ≤ length left) × (n + m < frame_count head left))
planes_unread n m head line None few told there = tt
planes_unread n m head line (Some left) few told there = (
  sum (length left) (length (drop n left)) (length-drop n left) told.0 there,
  less (length (line_of left)) (planes_count head) told.2 few,
)
  where
    sum : (l d : ℕ) → d ≡ l - n → n ≤ l → m ≤ d → n + m ≤ l
    sum l d e h k = omega arith

    less : (a p : ℕ) → a + 1 ≡ n → m < p → n + m < a + 1 + p
    less a p e h = omega arith

pub frame_fault : (number n : ℕ) (head : FilmHead) (line : List ℕ) (planes : Planes) (r : Result Bool FrameFault) (first mid last : Seen) → number < most_pictures → is_unlike_frame (take n line) ≡ false
    → (1 ≤ n) × (n ≤ most_line) × Took n (WholeLine n line) first mid → PlanesEnd head number n planes mid last r → IfErr r (FrameEnd head number first last)
frame_fault number n head line planes (Ok more) first mid last room like t e = tt
frame_fault number n head line planes (Err (NotFrame picture)) first mid last room like t e = absurd e
frame_fault number n head line planes (Err TooLong) first mid last room like t e = absurd e
frame_fault number n head line planes (Err ReadFault) first mid last room like t e = record {
  count = n + e.count;
  few = omega (arith, e.few, t.1);
  told = planes_unread n e.count head line first.input.bytes e.few t.2.content (subst (λ (s : Seen). IfSome s.input.bytes (λ left. e.count ≤ length left)) t.2.change e.there);
  failed = subst (λ (s : Seen). LaterFailed Input s last) (ap (took Input e.count) t.2.change ∙ took_more n e.count first) e.failed;
}
frame_fault number n head line planes (Err (CutFrame picture got)) first mid last room like t e =
    subst (λ (k : ℕ). FrameEnd head number first last (CutFrame k got)) (sym e.0)
    (subst (λ (k : ℕ). FrameEnd head number first last (CutFrame number k)) (sym e.2) (
      refl,
      record {
        change = read_step n e.1 first mid last t.2.change e.4.change;
        content = short_told number n e.1 head line first.input.bytes room like e.3 t.2.content (subst (λ (s : Seen). IfSome s.input.bytes (λ left. length left ≡ e.1)) t.2.change e.4.content);
      },
    ))

-- a read failed in the line
line_told : (head : FilmHead) (n : ℕ) (o : Option (List ℕ)) → IfSome o (λ left. n ≤ length (line_of left)) → IfSome o (λ left. (n ≤ length left) × (n < frame_count head left))
line_told head n None told = tt
line_told head n (Some left) told = (omega (arith, told, line_within left), less (length (line_of left)) (planes_count head) told)
  where
    less : (a p : ℕ) → n ≤ a → n < a + 1 + p
    less a p h = omega arith

pub frame_unread : (head : FilmHead) (first last : Seen) → LineUnread first last → FrameUnread head first last
frame_unread head first last u = record { count = u.count; few = omega (arith, u.few); told = line_told head u.count first.input.bytes u.told; failed = u.failed }

-- ---- behind the last picture

over_bytes : (n room : ℕ) (buf : List ℕ) (o : Option (List ℕ)) → room ≡ 1 → n ≡ 0 → Read room n buf o → IfSome o (λ left. left ≡ [])
over_bytes n room buf None one none read = tt
over_bytes n room buf (Some []) one none read = refl
over_bytes n room buf (Some (x ∷ left)) one none read = absurd (omega (arith, read.0))

pub film_over : (n room : ℕ) (buf : List ℕ) (first last : Seen) → room ≡ 1 → n ≡ 0 → Read room n buf first.input.bytes → last ≡ took Input n first → Took 0 (λ left. left ≡ []) first last
film_over n room buf first last one none read change = record { change = change ∙ ap (λ (k : ℕ). took Input k first) none; content = over_bytes n room buf first.input.bytes one none read }

more_bytes : (n room : ℕ) (head : FilmHead) (buf : List ℕ) (o : Option (List ℕ)) → room ≡ 1 → n ≡ 1 → Read room n buf o → IfSome o (λ left. frame_step (most_pictures - 1000000) head left ≡ Broken faults.TooLong)
unfolding frame_step
more_bytes n room head buf None one some read = tt
more_bytes n room head buf (Some []) one some read = absurd (omega (arith, read.0))
more_bytes n room head buf (Some (x ∷ left)) one some read = refl

pub film_long : (n room : ℕ) (head : FilmHead) (buf : List ℕ) (first last : Seen) → room ≡ 1 → n ≡ 1 → Read room n buf first.input.bytes → last ≡ took Input n first → FrameEnd head 1000000 first last TooLong
film_long n room head buf first last one some read change =
    (refl, record { change = change ∙ ap (λ (k : ℕ). took Input k first) some; content = more_bytes n room head buf first.input.bytes one some read })

none_told : (head : FilmHead) (n : ℕ) (o : Option (List ℕ)) → n ≡ 0 → IfSome o (λ left. (n ≤ length left) × (n < frame_count head left))
none_told head n None none = tt
none_told head n (Some left) none = (omega arith, less (length (line_of left)) (planes_count head))
  where
    less : (a p : ℕ) → n < a + 1 + p
    less a p = omega arith

pub film_unread : (room : ℕ) (head : FilmHead) (first last : Seen) → room ≡ 1 → ReadFailedWithin room first last → FrameUnread head first last
film_unread room head first last one f =
    let none : f.count ≡ 0 = omega (arith, f.few) in
    record { count = f.count; few = omega (arith, none); told = none_told head f.count first.input.bytes none; failed = f.failed }

-- ---- by the fault of the input

some_fault : (a b : InputFault) → Some a ≡ Some b → a ≡ b
some_fault a b e = cc

pub broken_of : (head : FilmHead) (number : ℕ) (fault : FrameFault) (f : InputFault) (first last : Seen) → input_fault fault ≡ Some f → FrameEnd head number first last fault
    → TookSome (λ left. frame_step (most_pictures - number) head left ≡ Broken f) first last
broken_of head number (NotFrame picture) f first last is e = subst (λ (x : InputFault). TookSome (λ left. frame_step (most_pictures - number) head left ≡ Broken x) first last) (some_fault (faults.NotFrame picture) f is) e.1
broken_of head number (CutFrame picture got) f first last is e = subst (λ (x : InputFault). TookSome (λ left. frame_step (most_pictures - number) head left ≡ Broken x) first last) (some_fault (faults.CutFrame picture got) f is) (got, e.1)
broken_of head number TooLong f first last is e = subst (λ (x : InputFault). TookSome (λ left. frame_step (most_pictures - number) head left ≡ Broken x) first last) (some_fault faults.TooLong f is) (1, e.1)
broken_of head number ReadFault f first last is e = absurd (cc)

pub unread_of : (head : FilmHead) (number : ℕ) (fault : FrameFault) (first last : Seen) → input_fault fault ≡ None → FrameEnd head number first last fault → ReadFailed first last
unread_of head number (NotFrame picture) first last is e = absurd (cc)
unread_of head number (CutFrame picture got) first last is e = absurd (cc)
unread_of head number TooLong first last is e = absurd (cc)
unread_of head number ReadFault first last is e = (e.count, e.failed)
