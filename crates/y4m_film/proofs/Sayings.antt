-- The pieces of a head are read one after another.
use Rattle.std.proofs.Common.{ℕ, ◌+◌, ◌-◌, ◌≡◌, ◌<◌, ◌≤◌, List, [], ◌∷◌, length, take, drop, get_or, Option, Some, None, Result, Ok, Err, Bool, true, false, cond, refl, ap, ap₂, sym, ◌∙◌, ◌⊎◌, inl, inr, arith, subst}
use Rattle.std.specs.Prelude.{MatchResult, IsErrAnd, is_some, nat_lt, ◌==◌, ◌||◌}
use Rattle.std.specs.List.{filter, slice_split, position_or_len}
use Rattle.std.specs.Option.{option_or, option_and_then, unwrap_or}
use Rattle.std.proofs.lemmas.Bool.{cases_lt}
use Rattle.std.proofs.lemmas.Bool.Decides.{nat_tests}
use Rattle.std.proofs.lemmas.Grind.{common_steps}
use Rattle.std.proofs.lemmas.List.{drop-take}
use Rattle.std.proofs.lemmas.List.Splits.{slice_split_first, slice_split_none}
use Rattle.std.proofs.lemmas.List.Sums.{fails_before_first}
use Rattle.spec_basics.specs.Decimals.{number_of}
use Rattle.spec_film.specs.declared.FilmHead.{FilmHead}
use Rattle.spec_film.specs.declared.HeadFault.{HeadFault}
use Rattle.spec_film.specs.declared.HeadFault.TheVariants.{NotY4m, BadNumber, Chroma, Interlace}
use Rattle.spec_film.specs.Films.{is_space, pieces_of, rate_of, is_420, is_progressive, fault_unless, value_fault, pieces_fault, value_of, head_from, head_unless, rate_at, begins_film, head_of_pieces}
use Rattle.y4m_film.specs.declared.text.Said.{Said}
use Rattle.y4m_film.specs.Saying.{said_width, said_height, said_rate, said_unless, said_after, said_piece, head_of_line}

-- ---- what is said, and what the pieces behind say

-- a later value counts
abbrev carry_number : Option (List ℕ) → Option ℕ → Option ℕ
carry_number None old = old
carry_number (Some value) old = number_of 9 value

abbrev carry_rate : Option (List ℕ) → ℕ × ℕ → ℕ × ℕ
carry_rate None old = old
carry_rate (Some value) old = unwrap_or (rate_of value) (25, 1)

-- by the first fault, and the values of W, H and F, of the pieces behind
abbrev after_by : Option HeadFault → Option (List ℕ) → Option (List ℕ) → Option (List ℕ) → Said → Result FilmHead HeadFault
after_by (Some fault) w h r said = Err fault
after_by None w h r said = head_from (carry_number w said.width) (carry_number h said.height) (carry_rate r (said.num, said.den))

abbrev pub head_after : Said → List (List ℕ) → Result FilmHead HeadFault
head_after said pieces = after_by (pieces_fault pieces) (value_of 87 pieces) (value_of 72 pieces) (value_of 70 pieces) said

number_first : (o : Option (List ℕ)) → option_and_then (number_of 9) o ≡ carry_number o None
number_first None = refl
number_first (Some value) = refl

rate_first : (o : Option (List ℕ)) → unwrap_or (option_and_then rate_of o) (25, 1) ≡ carry_rate o (25, 1)
rate_first None = refl
rate_first (Some value) = refl

-- before the first piece
pub after_none : (said : Said) (pieces : List (List ℕ)) → said.width ≡ None → said.height ≡ None → (said.num ≡ 25) × (said.den ≡ 1) → head_of_pieces pieces ≡ head_after said pieces
unfolding head_of_pieces
after_none said pieces w h r = go (pieces_fault pieces)
  where
    go : (o : Option HeadFault) → head_unless o pieces ≡ after_by o (value_of 87 pieces) (value_of 72 pieces) (value_of 70 pieces) said
    go (Some fault) = refl
    go None =
        ap₂ (λ (a b : Option ℕ). head_from a b (rate_at pieces))
        (number_first (value_of 87 pieces) ∙ ap (carry_number (value_of 87 pieces)) (sym w))
        (number_first (value_of 72 pieces) ∙ ap (carry_number (value_of 72 pieces)) (sym h))
        ∙ ap (λ (p : ℕ × ℕ). head_from (carry_number (value_of 87 pieces) said.width) (carry_number (value_of 72 pieces) said.height) p)
        (rate_first (value_of 70 pieces) ∙ ap₂ (λ (n d : ℕ). carry_rate (value_of 70 pieces) (n, d)) (sym r.0) (sym r.1))

-- behind the last piece
pub after_all : (said : Said) → head_after said [] ≡ head_from said.width said.height (said.num, said.den)
unfolding pieces_fault value_of
after_all said = refl

-- ---- one piece

or_none : {A : Type 0} (o : Option A) → option_or o None ≡ o
or_none None = refl
or_none (Some x) = refl

module _ (value : List ℕ) (said : Said) (F : Option HeadFault) (W H R : Option (List ℕ)) where
  -- by the tests for W, H, F, C and I
  abbrev With : Bool → Bool → Bool → Bool → Bool → Result FilmHead HeadFault
  With a b c d e = after_by
      (option_or (cond (a || b) (fault_unless (is_some (number_of 9 value)) BadNumber) (cond c (fault_unless (is_some (rate_of value)) BadNumber) (cond d (fault_unless (is_420 value) Chroma) (cond e (fault_unless (is_progressive value) Interlace) None)))) F)
      (option_or W (cond a (Some value) None)) (option_or H (cond b (Some value) None)) (option_or R (cond c (Some value) None)) said

  abbrev Says : Bool → Bool → Bool → Bool → Bool → Result Said HeadFault
  Says a b c d e = cond a (said_width said (number_of 9 value)) (cond b (said_height said (number_of 9 value)) (cond c (said_rate said (rate_of value)) (cond d (said_unless said (is_420 value) Chroma) (cond e (said_unless said (is_progressive value) Interlace) (Ok said)))))

  abbrev Stepped : Bool → Bool → Bool → Bool → Bool → Type 0
  Stepped a b c d e = MatchResult (Says a b c d e) (λ s. With a b c d e ≡ after_by F W H R s) (λ f. With a b c d e ≡ Err f)

  width_carried : (n : ℕ) → number_of 9 value ≡ Some n → (o : Option (List ℕ)) → carry_number (option_or o (Some value)) said.width ≡ carry_number o (Some n)
  width_carried n is None = is
  width_carried n is (Some v) = refl

  height_carried : (n : ℕ) → number_of 9 value ≡ Some n → (o : Option (List ℕ)) → carry_number (option_or o (Some value)) said.height ≡ carry_number o (Some n)
  height_carried n is None = is
  height_carried n is (Some v) = refl

  rate_carried : (r : ℕ × ℕ) → rate_of value ≡ Some r → (o : Option (List ℕ)) → carry_rate (option_or o (Some value)) (said.num, said.den) ≡ carry_rate o (r.0, r.1)
  rate_carried r is None = ap (λ (x : Option (ℕ × ℕ)). unwrap_or x (25, 1)) is
  rate_carried r is (Some v) = refl

  with_width : (x : Option ℕ) → number_of 9 value ≡ x → MatchResult (said_width said x) (λ s. after_by (option_or (fault_unless (is_some x) BadNumber) F) (option_or W (Some value)) (option_or H None) (option_or R None) said ≡ after_by F W H R s)
      (λ f. after_by (option_or (fault_unless (is_some x) BadNumber) F) (option_or W (Some value)) (option_or H None) (option_or R None) said ≡ Err f)
  with_width None is = refl
  with_width (Some n) is = go F
    where
      go : (o : Option HeadFault) → after_by o (option_or W (Some value)) (option_or H None) (option_or R None) said ≡ after_by o W H R (record said { width = Some n })
      go (Some fault) = refl
      go None =
          ap₂ (λ (a : Option ℕ) (b : Option (List ℕ)). head_from a (carry_number b said.height) (carry_rate (option_or R None) (said.num, said.den))) (width_carried n is W) (or_none H)
          ∙ ap (λ (b : Option (List ℕ)). head_from (carry_number W (Some n)) (carry_number H said.height) (carry_rate b (said.num, said.den))) (or_none R)

  with_height : (x : Option ℕ) → number_of 9 value ≡ x → MatchResult (said_height said x) (λ s. after_by (option_or (fault_unless (is_some x) BadNumber) F) (option_or W None) (option_or H (Some value)) (option_or R None) said ≡ after_by F W H R s)
      (λ f. after_by (option_or (fault_unless (is_some x) BadNumber) F) (option_or W None) (option_or H (Some value)) (option_or R None) said ≡ Err f)
  with_height None is = refl
  with_height (Some n) is = go F
    where
      go : (o : Option HeadFault) → after_by o (option_or W None) (option_or H (Some value)) (option_or R None) said ≡ after_by o W H R (record said { height = Some n })
      go (Some fault) = refl
      go None =
          ap₂ (λ (a : Option ℕ) (b : Option (List ℕ)). head_from (carry_number b said.width) a (carry_rate (option_or R None) (said.num, said.den))) (height_carried n is H) (or_none W)
          ∙ ap (λ (b : Option (List ℕ)). head_from (carry_number W said.width) (carry_number H (Some n)) (carry_rate b (said.num, said.den))) (or_none R)

  with_rate : (x : Option (ℕ × ℕ)) → rate_of value ≡ x → MatchResult (said_rate said x) (λ s. after_by (option_or (fault_unless (is_some x) BadNumber) F) (option_or W None) (option_or H None) (option_or R (Some value)) said ≡ after_by F W H R s)
      (λ f. after_by (option_or (fault_unless (is_some x) BadNumber) F) (option_or W None) (option_or H None) (option_or R (Some value)) said ≡ Err f)
  with_rate None is = refl
  with_rate (Some r) is = go F
    where
      go : (o : Option HeadFault) → after_by o (option_or W None) (option_or H None) (option_or R (Some value)) said ≡ after_by o W H R (record said { num = r.0; den = r.1 })
      go (Some fault) = refl
      go None =
          ap₂ (λ (a b : Option (List ℕ)). head_from (carry_number a said.width) (carry_number b said.height) (carry_rate (option_or R (Some value)) (said.num, said.den))) (or_none W) (or_none H)
          ∙ ap (λ (p : ℕ × ℕ). head_from (carry_number W said.width) (carry_number H said.height) p) (rate_carried r is R)

  nothing_said : after_by F (option_or W None) (option_or H None) (option_or R None) said ≡ after_by F W H R said
  nothing_said =
      ap₂ (λ (a b : Option (List ℕ)). after_by F a b (option_or R None) said) (or_none W) (or_none H) ∙ ap (λ (c : Option (List ℕ)). after_by F W H c said) (or_none R)

  with_test : (good : Bool) (fault : HeadFault) → MatchResult (said_unless said good fault) (λ s. after_by (option_or (fault_unless good fault) F) (option_or W None) (option_or H None) (option_or R None) said ≡ after_by F W H R s)
      (λ f. after_by (option_or (fault_unless good fault) F) (option_or W None) (option_or H None) (option_or R None) said ≡ Err f)
  with_test true fault = nothing_said
  with_test false fault = refl

  stepped_by : (a b c d e : Bool) → (a ≡ true → (b ≡ false) × (c ≡ false)) → (b ≡ true → c ≡ false) → Stepped a b c d e
  stepped_by true true c d e x y = absurd (let n : true ≡ false = (x refl).0 in cc)
  stepped_by true false true d e x y = absurd (let n : true ≡ false = (x refl).1 in cc)
  stepped_by true false false d e x y = with_width (number_of 9 value) refl
  stepped_by false true true d e x y = absurd (let n : true ≡ false = y refl in cc)
  stepped_by false true false d e x y = with_height (number_of 9 value) refl
  stepped_by false false true d e x y = with_rate (rate_of value) refl
  stepped_by false false false true e x y = with_test (is_420 value) Chroma
  stepped_by false false false false true x y = with_test (is_progressive value) Interlace
  stepped_by false false false false false x y = nothing_said

not_both : (l j k : ℕ) → (l == j) ≡ true → (j == k) ≡ false → (l == k) ≡ false
not_both l j k e n = grind (arith, nat_tests)

-- a piece, and those behind it
abbrev PieceRead : Said → List ℕ → List (List ℕ) → Result Said HeadFault → Type 0
PieceRead said piece pieces r = MatchResult r (λ s. head_after said (piece ∷ pieces) ≡ head_after s pieces) (λ f. head_after said (piece ∷ pieces) ≡ Err f)

piece_stepped : (said : Said) (piece : List ℕ) (pieces : List (List ℕ)) → PieceRead said piece pieces (said_after said (get_or piece 0 0) (drop 1 piece))
unfolding pieces_fault value_of value_fault
piece_stepped said piece pieces =
    let l : ℕ = get_or piece 0 0 in
    stepped_by (drop 1 piece) said (pieces_fault pieces) (value_of 87 pieces) (value_of 72 pieces) (value_of 70 pieces)
    (get_or piece 0 0 == 87) (get_or piece 0 0 == 72) (get_or piece 0 0 == 70) (get_or piece 0 0 == 67) (get_or piece 0 0 == 73)
    (λ e. (not_both (get_or piece 0 0) 87 72 e refl, not_both (get_or piece 0 0) 87 70 e refl)) (λ e. not_both (get_or piece 0 0) 72 70 e refl)

-- ---- the pieces of a text

abbrev is_piece : List ℕ → Bool
is_piece piece = nat_lt 0 (length piece)

abbrev with_piece : List ℕ → List (List ℕ) → List (List ℕ)
with_piece piece pieces = cond (is_piece piece) (piece ∷ pieces) pieces

no_pieces : pieces_of [] ≡ []
unfolding pieces_of
no_pieces = refl

past : (xs : List ℕ) (n : ℕ) → length xs ≤ n → drop n xs ≡ []
past xs n h = grind (arith, common_steps)

all_of : (xs : List ℕ) (n : ℕ) → length xs ≤ n → take n xs ≡ xs
all_of xs n h = grind (arith, common_steps)

pieces_next : (xs : List ℕ) (n : ℕ) → n ≡ position_or_len is_space xs → pieces_of xs ≡ with_piece (take n xs) (pieces_of (drop (n + 1) xs))
unfolding pieces_of
pieces_next xs n is = by (cases_lt n (length xs))
  where
    by : (n < length xs) ⊎ (length xs ≤ n) → pieces_of xs ≡ with_piece (take n xs) (pieces_of (drop (n + 1) xs))
    by (inl less) =
        ap (filter is_piece) (slice_split_first is_space xs 0 (omega (arith, is)))
        ∙ ap (λ (k : ℕ). with_piece (take k xs) (filter is_piece (slice_split is_space (drop (k + 1) xs)))) (sym is)
    by (inr end) =
        ap (filter is_piece) (slice_split_none is_space xs (λ k d h. fails_before_first is_space xs k d (omega (arith, is))))
        ∙ ap₂ (λ (a b : List ℕ). with_piece a (filter is_piece (slice_split is_space b))) (sym (all_of xs n end)) (sym (past xs (n + 1) (omega arith)))

-- ---- the loop over the text

-- what the pieces from a place on add
abbrev pub Reads : List ℕ → ℕ → Said → Type 0
Reads text from said = head_of_pieces (pieces_of text) ≡ head_after said (pieces_of (drop from text))

pub reads_none : (text : List ℕ) (said : Said) → said.width ≡ None → said.height ≡ None → (said.num ≡ 25) × (said.den ≡ 1) → Reads text 0 said
reads_none text said w h r = after_none said (pieces_of text) w h r

dropped : (i j : ℕ) (xs : List ℕ) → drop j (drop i xs) ≡ drop (i + j) xs
dropped i j xs = grind (arith, common_steps)

empty_test : (n : ℕ) → (n == 0) ≡ true → nat_lt 0 n ≡ false
empty_test n e = grind (arith, nat_tests)

some_test : (n : ℕ) → (n == 0) ≡ false → nat_lt 0 n ≡ true
some_test n e = grind (arith, nat_tests)

-- by the answer on a piece
pub piece_read : (text piece : List ℕ) (from n : ℕ) (said : Said) (r : Result Said HeadFault) → n ≡ position_or_len is_space (drop from text) → piece ≡ take n (drop from text) → r ≡ said_piece said piece
    → Reads text from said → MatchResult r (λ s. Reads text (from + n + 1) s) (λ f. head_of_pieces (pieces_of text) ≡ Err f)
piece_read text piece from n said r place is answer so_far =
    subst (λ (q : Result Said HeadFault). MatchResult q (λ s. Reads text (from + n + 1) s) (λ f. head_of_pieces (pieces_of text) ≡ Err f)) (sym answer) (go (length piece == 0) refl)
  where
    next : pieces_of (drop from text) ≡ with_piece piece (pieces_of (drop (from + n + 1) text))
    next = pieces_next (drop from text) n place ∙ ap₂ (λ (p rest : List ℕ). with_piece p (pieces_of rest)) (sym is) (dropped from (n + 1) text ∙ ap (λ (k : ℕ). drop k text) (sums from n))
      where
        sums : (a b : ℕ) → a + (b + 1) ≡ a + b + 1
        sums a b = omega arith

    read : (q : Result Said HeadFault) → PieceRead said piece (pieces_of (drop (from + n + 1) text)) q → pieces_of (drop from text) ≡ piece ∷ (pieces_of (drop (from + n + 1) text)) → MatchResult q (λ s. Reads text (from + n + 1) s) (λ f. head_of_pieces (pieces_of text) ≡ Err f)
    read (Ok s) step e = so_far ∙ ap (head_after said) e ∙ step
    read (Err f) step e = so_far ∙ ap (head_after said) e ∙ step

    go : (b : Bool) → (length piece == 0) ≡ b → MatchResult (cond b (Ok said) (said_after said (get_or piece 0 0) (drop 1 piece))) (λ s. Reads text (from + n + 1) s) (λ f. head_of_pieces (pieces_of text) ≡ Err f)
    go true e = so_far ∙ ap (head_after said) (next ∙ ap (λ (b : Bool). cond b (piece ∷ (pieces_of (drop (from + n + 1) text))) (pieces_of (drop (from + n + 1) text))) (empty_test (length piece) e))
    go false e = read (said_after said (get_or piece 0 0) (drop 1 piece)) (piece_stepped said piece (pieces_of (drop (from + n + 1) text))) (next ∙ ap (λ (b : Bool). cond b (piece ∷ (pieces_of (drop (from + n + 1) text))) (pieces_of (drop (from + n + 1) text))) (some_test (length piece) e))

pub reads_all : (text : List ℕ) (from : ℕ) (said : Said) → length text ≤ from → Reads text from said → head_of_pieces (pieces_of text) ≡ head_from said.width said.height (said.num, said.den)
reads_all text from said end so_far = so_far ∙ ap (λ (xs : List ℕ). head_after said (pieces_of xs)) (past text from end) ∙ ap (head_after said) no_pieces ∙ after_all said

-- what is handed on by `?` is the fault that was met
pub handed_on : (X r : Result FilmHead HeadFault) (f : HeadFault) → IsErrAnd r (λ e. e ≡ f) → X ≡ Err f → r ≡ X
handed_on X (Ok h) f e x = absurd e
handed_on X (Err g) f e x = ap (λ (q : HeadFault). Err q) e ∙ sym x

-- the pieces stand between the first word and the line feed
pub line_is : (line : List ℕ) (r : Result FilmHead HeadFault) → begins_film line ≡ true → r ≡ head_of_pieces (pieces_of (take (length line - 1 - 9) (drop 9 line))) → r ≡ head_of_line line
line_is line r begins is =
    is ∙ ap (λ (l : List ℕ). head_of_pieces (pieces_of l)) (by (cases_lt (length line) 10))
    ∙ ap (λ (b : Bool). cond b (head_of_pieces (pieces_of (drop 9 (take (length line - 1) line)))) (Err NotY4m)) (sym begins)
  where
    short : (xs : List ℕ) (n m : ℕ) → n ≤ m → drop m (take n xs) ≡ []
    short xs n m h = past (take n xs) m (within n xs h)
      where
        within : (n : ℕ) (xs : List ℕ) → n ≤ m → length (take n xs) ≤ m
        within n xs h = grind (arith, common_steps)

    by : (length line < 10) ⊎ (10 ≤ length line) → take (length line - 1 - 9) (drop 9 line) ≡ drop 9 (take (length line - 1) line)
    by (inl few) = let none : length line - 1 - 9 ≡ 0 = omega arith in ap (λ (k : ℕ). take k (drop 9 line)) none ∙ sym (short line (length line - 1) 9 (omega arith))
    by (inr many) = let sum : length line - 1 ≡ 9 + (length line - 1 - 9) = omega arith in sym (ap (λ (k : ℕ). drop 9 (take k line)) sum ∙ drop-take 9 (length line - 1 - 9) line)
