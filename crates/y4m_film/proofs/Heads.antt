-- The head of a film is told by its line.
use Rattle.std.proofs.Common.{ℕ, zero, suc, ◌+◌, ◌-◌, ◌≡◌, ◌<◌, ◌≤◌, ◌⊎◌, inl, inr, min, List, ◌++◌, length, take, drop, get_or, Option, Some, None, Result, Ok, Err, Bool, true, false, cond, not, refl, ap, ap₂, sym, ◌∙◌, arith, subst, append_assoc}
use Rattle.std.specs.Prelude.{IfSome, IfOk, IfErr, IsErrOf, ◌≢◌, ◌&&◌, nat_eq, nat_lt}
use Rattle.std.specs.List.{position_or_len}
use Rattle.std.specs.Cmp.Lexicographic.{pointwise, bytes_decides}
use Rattle.std.proofs.lemmas.Bool.{cases_lt}
use Rattle.std.proofs.lemmas.Bool.Decides.{nat_tests}
use Rattle.std.proofs.lemmas.List.{get_or-take, take-append-drop}
use Rattle.std.proofs.Math.Seq.{take-append_seam}
use Rattle.std.proofs.lemmas.Grind.{common_steps}
use Rattle.enc_edge.specs.Seen.{Seen}
use Rattle.enc_edge.specs.Reads.{Took, TookSome}
use Rattle.spec_film.specs.declared.FilmHead.{FilmHead}
use Rattle.spec_film.specs.declared.HeadFault.{HeadFault}
use Rattle.spec_film.specs.declared.HeadFault.TheVariants.{ReadFault, NotY4m, LongLine}
use Rattle.spec_film.specs.Films.{is_line_feed, ends_word, line_of, has_line, most_line, film_word, begins_film, pieces_of, head_of_pieces, head_with, read_head, AllowedHead}
use Rattle.spec_film.proofs.FilmLaws.{pieces_allowed, pieces_never}
use Rattle.y4m_film.specs.LineReads.{WholeLine, CutLine, LongLine as UnendedLine}
use Rattle.y4m_film.specs.Saying.{head_of_line, fault_of_long}
use Rattle.y4m_film.proofs.Frames.{fed_at}

length_front : (n : ℕ) (xs : List ℕ) → length (take n xs) ≡ min n (length xs)
length_front n xs = grind (arith, common_steps)

short_front : (a b : ℕ) (xs : List ℕ) → a ≤ b → take a (take b xs) ≡ take a xs
short_front a b xs h = grind (arith, common_steps)

-- the first word has no line feed
word_at : (i : ℕ) → i < 9 → get_or film_word i 0 ≡ 10 → ⊥
word_at zero h e = cc
word_at (suc zero) h e = cc
word_at (suc (suc zero)) h e = cc
word_at (suc (suc (suc zero))) h e = cc
word_at (suc (suc (suc (suc zero)))) h e = cc
word_at (suc (suc (suc (suc (suc zero))))) h e = cc
word_at (suc (suc (suc (suc (suc (suc zero)))))) h e = cc
word_at (suc (suc (suc (suc (suc (suc (suc zero))))))) h e = cc
word_at (suc (suc (suc (suc (suc (suc (suc (suc zero)))))))) h e = cc
word_at (suc (suc (suc (suc (suc (suc (suc (suc (suc i))))))))) h e = absurd (omega arith)

-- a line feed among the first nine bytes
fed_other : (xs : List ℕ) (i : ℕ) → i < 9 → get_or xs i 0 ≡ 10 → begins_film xs ≡ false
fed_other xs i h e = ap (λ (b : Bool). b && ends_word (get_or xs 9 0)) (go (pointwise nat_eq film_word (take 9 xs)) refl)
  where
    go : (b : Bool) → pointwise nat_eq film_word (take 9 xs) ≡ b → pointwise nat_eq film_word (take 9 xs) ≡ false
    go false is = is
    go true is =
        let same : film_word ≡ take 9 xs = (bytes_decides film_word (take 9 xs)).0 is in
        absurd (word_at i h (ap (λ (l : List ℕ). get_or l i 0) same ∙ get_or-take 9 xs i 0 h ∙ e))

begins_front : (n : ℕ) (xs : List ℕ) → 10 ≤ n → begins_film (take n xs) ≡ begins_film xs
begins_front n xs h = ap₂ (λ (l : List ℕ) (b : ℕ). pointwise nat_eq film_word l && ends_word b) (front n xs h) (get_or-take n xs 9 0 (omega arith))
  where
    front : (n : ℕ) (xs : List ℕ) → 10 ≤ n → take 9 (take n xs) ≡ take 9 xs
    front n xs h = short_front 9 n xs (omega arith)

-- a line tells as much as all bytes
line_begins : (n : ℕ) (left : List ℕ) → n ≤ length left → has_line left ≡ true → length (line_of left) + 1 ≡ n → begins_film (take n left) ≡ begins_film left
line_begins n left long has is = by (cases_lt n 10)
  where
    by : (n < 10) ⊎ (10 ≤ n) → begins_film (take n left) ≡ begins_film left
    by (inl few) =
        fed_other (take n left) (n - 1) (omega (arith, is)) (get_or-take n left (n - 1) 0 (omega (arith, is)) ∙ fed_at n left has is) ∙ sym (fed_other left (n - 1) (omega (arith, is)) (fed_at n left has is))
    by (inr many) = begins_front n left many

-- the line is a front of the bytes
line_front : (p m : ℕ) (xs : List ℕ) → take p (take m xs) ≡ take (length (take p (take m xs))) xs
line_front p m xs =
    sym (take-append_seam (take p (take m xs)) (drop p (take m xs) ++ drop m xs))
    ∙ ap (λ (l : List ℕ). take (length (take p (take m xs))) l)
    (sym (append_assoc (take p (take m xs)) (drop p (take m xs)) (drop m xs)) ∙ ap (λ (l : List ℕ). l ++ drop m xs) (take-append-drop p (take m xs)) ∙ take-append-drop m xs)

line_text : (n : ℕ) (left : List ℕ) → n ≤ length left → length (line_of left) + 1 ≡ n → take (length (take n left) - 1) (take n left) ≡ line_of left
line_text n left long is =
    ap (λ (k : ℕ). take (k - 1) (take n left)) (length_front n left ∙ least n (length left) long) ∙ shorter (n - 1) n left (omega arith)
    ∙ ap (λ (k : ℕ). take k left) (before n (length (line_of left)) is) ∙ sym (line_front (position_or_len is_line_feed (take most_line left)) most_line left)
  where
    least : (a b : ℕ) → a ≤ b → min a b ≡ a
    least a b h = omega arith

    shorter : (a b : ℕ) (xs : List ℕ) → a ≤ b → take a (take b xs) ≡ take a xs
    shorter a b xs h = grind (arith, common_steps)

    before : (a b : ℕ) → b + 1 ≡ a → a - 1 ≡ b
    before a b h = omega arith

-- the head of the bytes is that of their line
head_is : (n : ℕ) (left : List ℕ) → n ≤ length left → has_line left ≡ true → length (line_of left) + 1 ≡ n → read_head left ≡ head_with (head_of_line (take n left)) (drop n left)
unfolding read_head
head_is n left long has is =
    go (begins_film left) (nat_lt (length left) most_line)
    ∙ ap (λ (k : ℕ). head_with (cond (begins_film left) (head_of_pieces (pieces_of (drop 9 (line_of left)))) (Err NotY4m)) (drop k left)) is
    ∙ ap₂ (λ (b : Bool) (l : List ℕ). head_with (cond b (head_of_pieces (pieces_of (drop 9 l))) (Err NotY4m)) (drop n left)) (sym (line_begins n left long has is)) (sym (line_text n left long is))
  where
    go : (b c : Bool)
        → cond (not b) (Err NotY4m) (cond (has_line left) (head_with (head_of_pieces (pieces_of (drop 9 (line_of left)))) (drop (length (line_of left) + 1) left)) (cond c (Err NotY4m) (Err LongLine)))
        ≡ head_with (cond b (head_of_pieces (pieces_of (drop 9 (line_of left)))) (Err NotY4m)) (drop (length (line_of left) + 1) left)
    go false c = refl
    go true c = ap (λ (t : Bool). cond t (head_with (head_of_pieces (pieces_of (drop 9 (line_of left)))) (drop (length (line_of left) + 1) left)) (cond c (Err NotY4m) (Err LongLine))) has

-- ---- a whole line

told_head : (n : ℕ) (line : List ℕ) (r : Result FilmHead HeadFault) (o : Option (List ℕ)) → r ≡ head_of_line (take n line) → IfSome o (WholeLine n line) → IfSome o (λ left. (n ≤ length left) × (read_head left ≡ head_with r (drop n left)))
told_head n line r None is told = tt
told_head n line r (Some left) is told = (told.0, head_is n left told.0 told.1 told.2 ∙ ap (λ (q : Result FilmHead HeadFault). head_with q (drop n left)) (ap head_of_line (sym told.3) ∙ sym is))

only : (n : ℕ) (f : HeadFault) (o : Option (List ℕ)) → IfSome o (λ left. (n ≤ length left) × (read_head left ≡ head_with (Err f) (drop n left))) → IfSome o (λ left. read_head left ≡ Err f)
only n f None told = tt
only n f (Some left) told = told.1

pub head_ok : (n : ℕ) (line : List ℕ) (r : Result FilmHead HeadFault) (first last : Seen) → r ≡ head_of_line (take n line) → (1 ≤ n) × (n ≤ most_line) × Took n (WholeLine n line) first last
    → IfOk r (λ h. (k : ℕ) × Took k (λ left. (k ≤ length left) × (read_head left ≡ Ok (h, drop k left))) first last)
head_ok n line (Err f) first last is t = tt
head_ok n line (Ok h) first last is t = (n, record { change = t.2.change; content = told_head n line (Ok h) first.input.bytes is t.2.content })

pub head_fault : (n : ℕ) (line : List ℕ) (r : Result FilmHead HeadFault) (first last : Seen) → r ≡ head_of_line (take n line) → (1 ≤ n) × (n ≤ most_line) × Took n (WholeLine n line) first last
    → IfErr r (λ f. f ≢ ReadFault → TookSome (λ left. read_head left ≡ Err f) first last)
head_fault n line (Ok h) first last is t = tt
head_fault n line (Err f) first last is t = λ _. (n, record { change = t.2.change; content = only n f first.input.bytes (told_head n line (Err f) first.input.bytes is t.2.content) })

pub line_allowed : (bytes : List ℕ) (r : Result FilmHead HeadFault) → r ≡ head_of_line bytes → IfOk r AllowedHead
line_allowed bytes (Err f) is = tt
line_allowed bytes (Ok h) is = go (begins_film bytes) (sym is)
  where
    go : (b : Bool) → cond b (head_of_pieces (pieces_of (drop 9 (take (length bytes - 1) bytes)))) (Err NotY4m) ≡ Ok h → AllowedHead h
    go false e = absurd (cc)
    go true e = pieces_allowed (pieces_of (drop 9 (take (length bytes - 1) bytes))) h e

line_never : (bytes : List ℕ) → head_of_line bytes ≡ Err ReadFault → ⊥
line_never bytes e = go (begins_film bytes) e
  where
    go : (b : Bool) → cond b (head_of_pieces (pieces_of (drop 9 (take (length bytes - 1) bytes)))) (Err NotY4m) ≡ Err ReadFault → ⊥
    go false e = cc
    go true e = pieces_never (pieces_of (drop 9 (take (length bytes - 1) bytes))) e

pub head_never : (bytes : List ℕ) (r : Result FilmHead HeadFault) (X : Type 0) → r ≡ head_of_line bytes → IsErrOf r ReadFault → X
head_never bytes r X is e = absurd (line_never bytes (sym is ∙ e))

-- ---- no line

cut_told : (n : ℕ) (line : List ℕ) (o : Option (List ℕ)) → n < most_line → IfSome o (CutLine n line) → IfSome o (λ left. read_head left ≡ Err NotY4m)
unfolding read_head
cut_told n line None most told = tt
cut_told n line (Some left) most told = go (begins_film left)
  where
    test : (a b : ℕ) → a < b → nat_lt a b ≡ true
    test a b h = grind (arith, nat_tests)

    short : nat_lt (length left) most_line ≡ true
    short = test (length left) most_line (omega (arith, told.0))

    go : (b : Bool) → cond (not b) (Err NotY4m) (cond (has_line left) (head_with (head_of_pieces (pieces_of (drop 9 (line_of left)))) (drop (length (line_of left) + 1) left)) (cond (nat_lt (length left) most_line) (Err NotY4m) (Err LongLine))) ≡ Err NotY4m
    go false = refl
    go true = ap₂ (λ (s t : Bool). cond s (head_with (head_of_pieces (pieces_of (drop 9 (line_of left)))) (drop (length (line_of left) + 1) left)) (cond t (Err NotY4m) (Err LongLine))) told.1 short

pub head_cut : (n : ℕ) (line : List ℕ) (first last : Seen) → (n < most_line) × Took n (CutLine n line) first last → TookSome (λ left. read_head left ≡ Err NotY4m) first last
head_cut n line first last t = (n, record { change = t.1.change; content = cut_told n line first.input.bytes t.0 t.1.content })

long_told : (line : List ℕ) (o : Option (List ℕ)) → length line ≡ 1024 → IfSome o (UnendedLine line) → IfSome o (λ left. read_head left ≡ Err (fault_of_long line))
unfolding read_head
long_told line None size told = tt
long_told line (Some left) size told = go (begins_film left) ∙ ap (λ (b : Bool). Err (cond b LongLine NotY4m)) (sym same)
  where
    all : (xs : List ℕ) (n : ℕ) → length xs ≡ n → xs ≡ take n xs
    all xs n e = grind (arith, common_steps)

    same : begins_film line ≡ begins_film left
    same = ap begins_film (all line most_line size ∙ told.2) ∙ begins_front most_line left (omega arith)

    test : (a b : ℕ) → b ≤ a → nat_lt a b ≡ false
    test a b h = grind (arith, nat_tests)

    long : nat_lt (length left) most_line ≡ false
    long = test (length left) most_line told.0

    go : (b : Bool) → cond (not b) (Err NotY4m) (cond (has_line left) (head_with (head_of_pieces (pieces_of (drop 9 (line_of left)))) (drop (length (line_of left) + 1) left)) (cond (nat_lt (length left) most_line) (Err NotY4m) (Err LongLine)))
        ≡ Err (cond b LongLine NotY4m)
    go false = refl
    go true = ap₂ (λ (s t : Bool). cond s (head_with (head_of_pieces (pieces_of (drop 9 (line_of left)))) (drop (length (line_of left) + 1) left)) (cond t (Err NotY4m) (Err LongLine))) told.1 long

pub head_long : (line : List ℕ) (f : HeadFault) (first last : Seen) → length line ≡ 1024 → f ≡ fault_of_long line → Took most_line (UnendedLine line) first last → TookSome (λ left. read_head left ≡ Err f) first last
head_long line f first last size is t =
    subst (λ (q : HeadFault). TookSome (λ left. read_head left ≡ Err q) first last) (sym is) (most_line, record { change = t.change; content = long_told line first.input.bytes size t.content })

pub long_never : (line : List ℕ) (f : HeadFault) (X : Type 0) → f ≡ fault_of_long line → f ≡ ReadFault → X
long_never line f X is e = absurd (go (begins_film line) (sym is ∙ e))
  where
    go : (b : Bool) → cond b LongLine NotY4m ≡ ReadFault → ⊥
    go true e = cc
    go false e = cc
