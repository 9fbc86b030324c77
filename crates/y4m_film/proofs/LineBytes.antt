-- A line is read byte by byte.
use Rattle.std.proofs.Common.{ℕ, suc, ◌+◌, ◌≡◌, ◌<◌, ◌≤◌, ◌⊎◌, inl, inr, min, List, [], ◌∷◌, ◌++◌, length, take, drop, get_or, set, Option, Some, None, true, false, refl, ap, ap₂, sym, ◌∙◌, arith, subst, length-drop, take-suc, take-suc-set}
use Rattle.std.specs.Prelude.{Result, Ok, Err, IfOk, IfErr, IfSome, nat_le, ◌≢◌}
use Rattle.std.specs.List.{position_or_len, before_first}
use Rattle.std.specs.Option.{option_map}
use Rattle.std.proofs.lemmas.Bool.{cases_lt}
use Rattle.std.proofs.lemmas.Bool.Decides.{nat_tests}
use Rattle.std.proofs.lemmas.List.{get_or-take, get_or-drop}
use Rattle.std.proofs.lemmas.List.Sums.{position_or_len_is, passes_at_first}
use Rattle.std.proofs.lemmas.Grind.{common_steps}
use Rattle.enc_edge.specs.declared.studio.Place.TheVariants.{Input}
use Rattle.enc_edge.specs.Seen.{Seen}
use Rattle.enc_edge.specs.Calls.{took, LaterFailed}
use Rattle.enc_edge.specs.Reads.{Took, ReadFailedWithin}
use Rattle.enc_edge.proofs.Spots.{took_none, read_step}
use Rattle.spec_film.specs.Films.{is_line_feed, line_of, most_line}
use Rattle.y4m_film.specs.declared.lines.LineEnd.{LineEnd}
use Rattle.y4m_film.specs.LineReads.{WholeLine, CutLine, LongLine, LineIs, LineUnread}

-- the first n bytes left stand in the line, and none of them is a line feed
pub record LineSoFar (n : ℕ) (line left : List ℕ) : Type 0 where
  pub long : n ≤ length left
  pub same : take n line ≡ take n left
  pub open_line : (k : ℕ) → k < n → is_line_feed (get_or left k 0) ≡ false

-- n bytes of a line were read
pub record Reading (n : ℕ) (line : List ℕ) (old new : Seen) : Type 0 where
  pub change : new ≡ took Input n old
  pub told : IfSome old.input.bytes (LineSoFar n line)

-- what a read of at most `room` bytes told
abbrev pub Read : ℕ → ℕ → List ℕ → Option (List ℕ) → Type 0
Read room n buf o = IfSome o (λ left. (n ≡ min room (length left)) × (take n buf ≡ take n left))

nothing_read : (line : List ℕ) (o : Option (List ℕ)) → IfSome o (LineSoFar 0 line)
nothing_read line None = tt
nothing_read line (Some left) = record { long = omega arith; same = refl; open_line = λ k h. absurd (omega arith) }

pub reading_none : (line : List ℕ) (s : Seen) → Reading 0 line s s
reading_none line s = record { change = sym (took_none s); told = nothing_read line s.input.bytes }

length_front : (n : ℕ) (xs : List ℕ) → length (take n xs) ≡ min n (length xs)
length_front n xs = grind (arith, common_steps)

front_front : (n m : ℕ) (xs : List ℕ) → n ≤ m → take n (take m xs) ≡ take n xs
front_front n m xs h = grind (arith, common_steps)

long_test : (a b : ℕ) → a < b → nat_le (a + 1) b ≡ true
long_test a b h = grind (arith, nat_tests)

short_test : (a b : ℕ) → b ≤ a → nat_le (a + 1) b ≡ false
short_test a b h = grind (arith, nat_tests)

-- where the first line feed stands tells all of the line
line_at : (most n : ℕ) (left : List ℕ) → position_or_len is_line_feed (take most left) ≡ n → n ≤ most → n ≤ length left
    → length (before_first is_line_feed (take most left)) ≡ n
line_at most n left place h k =
    let e : before_first is_line_feed (take most left) ≡ take n left = ap (λ (i : ℕ). take i (take most left)) place ∙ front_front n most left h in
    ap (λ (l : List ℕ). length l) e ∙ length_front n left ∙ omega arith

-- no line feed among as many bytes as a line may have
no_line : (most : ℕ) (left : List ℕ) (m : ℕ) → m ≡ min most (length left) → ((k : ℕ) → k < m → is_line_feed (get_or left k 0) ≡ false)
    → nat_le (length (before_first is_line_feed (take most left)) + 1) (length (take most left)) ≡ false
no_line most left m is open_line =
    let long : length (take most left) ≡ m = length_front most left ∙ sym is in
    let place : position_or_len is_line_feed (take most left) ≡ m =
    position_or_len_is is_line_feed (take most left) m 0 (omega (arith, long))
    (λ k h. ap is_line_feed (get_or-take most left k 0 (omega arith)) ∙ open_line k h) (λ h. absurd (omega (arith, long))) in
    let at = line_at most m left place (omega arith) (omega arith) in
    short_test (length (before_first is_line_feed (take most left))) (length (take most left)) (omega (arith, at, long))

-- a line feed behind n bytes of which none is one
line_found : (most : ℕ) (left : List ℕ) (n : ℕ) → n < most → n < length left → ((k : ℕ) → k < n → is_line_feed (get_or left k 0) ≡ false) → is_line_feed (get_or left n 0) ≡ true
    → (nat_le (length (before_first is_line_feed (take most left)) + 1) (length (take most left)) ≡ true) × (length (before_first is_line_feed (take most left)) ≡ n)
line_found most left n less long open_line here =
    let all : length (take most left) ≡ min most (length left) = length_front most left in
    let place : position_or_len is_line_feed (take most left) ≡ n =
    position_or_len_is is_line_feed (take most left) n 0 (omega (arith, all))
    (λ k h. ap is_line_feed (get_or-take most left k 0 (omega arith)) ∙ open_line k h) (λ h. ap is_line_feed (get_or-take most left n 0 less) ∙ here) in
    let at = line_at most n left place (omega arith) (omega arith) in
    (long_test (length (before_first is_line_feed (take most left))) (length (take most left)) (omega (arith, at, all)), at)

-- n bytes of which none is a line feed stand in the line
in_line : (most n : ℕ) (left : List ℕ) → n ≤ most → n ≤ length left → ((k : ℕ) → k < n → is_line_feed (get_or left k 0) ≡ false) → n ≤ length (before_first is_line_feed (take most left))
in_line most n left room long open_line = by (cases_lt (position_or_len is_line_feed (take most left)) n)
  where
    all : length (take most left) ≡ min most (length left)
    all = length_front most left

    by : (position_or_len is_line_feed (take most left) < n) ⊎ (n ≤ position_or_len is_line_feed (take most left)) → n ≤ length (before_first is_line_feed (take most left))
    by (inl early) =
        let p : ℕ = position_or_len is_line_feed (take most left) in
        let passes : is_line_feed (get_or (take most left) (position_or_len is_line_feed (take most left)) 0) ≡ true = passes_at_first is_line_feed (take most left) 0 (omega (arith, all)) in
        let fails : is_line_feed (get_or (take most left) (position_or_len is_line_feed (take most left)) 0) ≡ false = ap is_line_feed (get_or-take most left (position_or_len is_line_feed (take most left)) 0 (omega arith)) ∙ open_line (position_or_len is_line_feed (take most left)) early in
        absurd (let n : true ≡ false = sym passes ∙ fails in cc)
    by (inr late) = front (take most left) (position_or_len is_line_feed (take most left)) (omega (arith, all)) late
      where
        front : (xs : List ℕ) (p : ℕ) → n ≤ length xs → n ≤ p → n ≤ length (take p xs)
        front xs p h k = omega (arith, length_front p xs)

-- the byte that was read
byte_at : (n : ℕ) (buf left : List ℕ) → take 1 buf ≡ take 1 (drop n left) → length buf ≡ 1 → get_or left n 0 ≡ get_or buf 0 0
byte_at n buf left same one =
    ap (λ (k : ℕ). get_or left k 0) (same_place n) ∙ sym (get_or-drop n left 0 0) ∙ sym (get_or-take 1 (drop n left) 0 0 (omega arith)) ∙ ap (λ (l : List ℕ). get_or l 0 0) (sym same) ∙ get_or-take 1 buf 0 0 (omega arith)
  where
    same_place : (n : ℕ) → n ≡ n + 0
    same_place n = omega arith

put_front : (n : ℕ) (line left : List ℕ) (b : ℕ) → n < length line → n < length left → take n line ≡ take n left → b ≡ get_or left n 0 → take (n + 1) (set line n b) ≡ take (n + 1) left
put_front n line left b h k same is =
    ap (λ (m : ℕ). take m (set line n b)) (one n) ∙ take-suc-set line n b h ∙ ap₂ (λ (xs : List ℕ) (c : ℕ). xs ++ (c ∷ [])) same is ∙ sym (take-suc left n 0 k) ∙ ap (λ (m : ℕ). take m left) (sym (one n))
  where
    one : (n : ℕ) → n + 1 ≡ suc n
    one n = omega arith

pub reading_more : (n room r : ℕ) (line buf : List ℕ) (first mid new : Seen) → room ≡ 1 → length buf ≡ 1 → r ≢ 0 → r ≤ 1 → n < length line → is_line_feed (get_or buf 0 0) ≡ false
    → Reading n line first mid → Read room r buf mid.input.bytes → new ≡ took Input r mid → Reading (n + 1) (set line n (get_or buf 0 0)) first new
reading_more n room r line buf first mid new one whole some most1 inside unlike reading read change =
    let r1 : r ≡ 1 = omega arith in
    record {
      change = read_step n 1 first mid new reading.change (change ∙ ap (λ (k : ℕ). took Input k mid) r1);
      told = go first.input.bytes reading.told (subst (λ (k : ℕ). Read room k buf (option_map (drop n) first.input.bytes)) r1 (subst (λ (s : Seen). Read room r buf s.input.bytes) reading.change read));
    }
  where
    go : (o : Option (List ℕ)) → IfSome o (LineSoFar n line) → Read room 1 buf (option_map (drop n) o) → IfSome o (LineSoFar (n + 1) (set line n (get_or buf 0 0)))
    go None so_far read = tt
    go (Some left) so_far read =
        let long : n < length left = omega (arith, read.0, length-drop n left, so_far.long) in
        let same : get_or left n 0 ≡ get_or buf 0 0 = byte_at n buf left read.1 whole in
        record {
          long = omega arith;
          same = put_front n line left (get_or buf 0 0) inside long so_far.same (sym same);
          open_line = λ k h. step k (cases_lt k n) h;
        }
      where
        step : (k : ℕ) → (k < n) ⊎ (n ≤ k) → k < n + 1 → is_line_feed (get_or left k 0) ≡ false
        step k (inl early) h = so_far.open_line k early
        step k (inr late) h = ap (λ (i : ℕ). is_line_feed (get_or left i 0)) (last late h) ∙ ap is_line_feed (byte_at n buf left read.1 whole) ∙ unlike
          where
            last : n ≤ k → k < n + 1 → k ≡ n
            last a b = omega arith

-- the input ended before a line feed
cut_told : (n room : ℕ) (line buf : List ℕ) (o : Option (List ℕ)) → room ≡ 1 → n < most_line → IfSome o (LineSoFar n line) → Read room 0 buf (option_map (drop n) o) → IfSome o (CutLine n line)
cut_told n room line buf None one most so_far read = tt
cut_told n room line buf (Some left) one most so_far read =
    let at_end : length left ≡ n = omega (arith, read.0, length-drop n left, so_far.long) in
    (at_end, no_line most_line left n (omega (arith, so_far.long, at_end)) so_far.open_line, so_far.same ∙ whole left n at_end)
  where
    whole : (xs : List ℕ) (k : ℕ) → length xs ≡ k → take k xs ≡ xs
    whole xs k e = grind (arith, common_steps)

pub line_cut : (n room r : ℕ) (line buf : List ℕ) (first mid new : Seen) → room ≡ 1 → r ≡ 0 → n < most_line → Reading n line first mid → Read room r buf mid.input.bytes → new ≡ took Input r mid
    → (n < most_line) × Took n (CutLine n line) first new
line_cut n room r line buf first mid new one nothing most reading read change = (
  most,
  record {
    change = change ∙ ap (λ (k : ℕ). took Input k mid) nothing ∙ took_none mid ∙ reading.change;
    content = cut_told n room line buf first.input.bytes one most reading.told
        (subst (λ (s : Seen). Read room 0 buf s.input.bytes) reading.change (subst (λ (k : ℕ). Read room k buf mid.input.bytes) nothing read));
  },
)

-- the line is too long
long_told : (line : List ℕ) (o : Option (List ℕ)) → IfSome o (LineSoFar most_line line) → IfSome o (LongLine line)
long_told line None so_far = tt
long_told line (Some left) so_far = (so_far.long, no_line most_line left most_line (omega (arith, so_far.long)) so_far.open_line, so_far.same)

pub line_long : (n : ℕ) (line : List ℕ) (first mid : Seen) → n ≡ most_line → Reading n line first mid → Took most_line (LongLine line) first mid
line_long n line first mid is reading = record {
  change = reading.change ∙ ap (λ (k : ℕ). took Input k first) is;
  content = long_told line first.input.bytes (subst (λ (k : ℕ). IfSome first.input.bytes (LineSoFar k line)) is reading.told);
}

-- its line feed was read
found : (n room : ℕ) (line buf : List ℕ) (o : Option (List ℕ)) → room ≡ 1 → length buf ≡ 1 → n < most_line → n < length line → is_line_feed (get_or buf 0 0) ≡ true → IfSome o (LineSoFar n line) → Read room 1 buf (option_map (drop n) o)
    → IfSome o (WholeLine (n + 1) (set line n (get_or buf 0 0)))
found n room line buf None one whole most inside here so_far read = tt
found n room line buf (Some left) one whole most inside here so_far read =
    let long : n < length left = omega (arith, read.0, length-drop n left, so_far.long) in
    let same : get_or left n 0 ≡ get_or buf 0 0 = byte_at n buf left read.1 whole in
    let f = line_found most_line left n most long so_far.open_line (ap is_line_feed same ∙ here) in
    (long_step n (length left) long, f.0, ap (λ (k : ℕ). k + 1) f.1, put_front n line left (get_or buf 0 0) inside long so_far.same (sym same))
  where
    long_step : (a b : ℕ) → a < b → a + 1 ≤ b
    long_step a b h = omega arith

pub line_whole : (n room r : ℕ) (line buf : List ℕ) (first mid new : Seen) → room ≡ 1 → length buf ≡ 1 → r ≢ 0 → r ≤ 1 → n < most_line → n < length line → is_line_feed (get_or buf 0 0) ≡ true
    → Reading n line first mid → Read room r buf mid.input.bytes → new ≡ took Input r mid → (1 ≤ n + 1) × (n + 1 ≤ most_line) × Took (n + 1) (WholeLine (n + 1) (set line n (get_or buf 0 0))) first new
line_whole n room r line buf first mid new one whole some most1 most inside here reading read change =
    let r1 : r ≡ 1 = omega arith in (
      omega arith,
      omega arith,
      record {
        change = read_step n 1 first mid new reading.change (change ∙ ap (λ (k : ℕ). took Input k mid) r1);
        content = found n room line buf first.input.bytes one whole most inside here reading.told
            (subst (λ (k : ℕ). Read room k buf (option_map (drop n) first.input.bytes)) r1 (subst (λ (s : Seen). Read room r buf s.input.bytes) reading.change read));
      },
    )

-- a read failed behind n bytes
unread_told : (n : ℕ) (line : List ℕ) (o : Option (List ℕ)) → n < most_line → IfSome o (LineSoFar n line) → IfSome o (λ left. n ≤ length (line_of left))
unread_told n line None most so_far = tt
unread_told n line (Some left) most so_far = in_line most_line n left (omega arith) so_far.long so_far.open_line

pub line_unread : (n room : ℕ) (line : List ℕ) (first mid new : Seen) → room ≡ 1 → n < most_line → Reading n line first mid → ReadFailedWithin room mid new → LineUnread first new
line_unread n room line first mid new one most reading failed =
    let none : failed.count ≡ 0 = omega (arith, failed.few) in
    record {
      count = n;
      few = most;
      told = unread_told n line first.input.bytes most reading.told;
      failed = subst (λ (s : Seen). LaterFailed Input s new) (ap (λ (k : ℕ). took Input k mid) none ∙ took_none mid ∙ reading.change) failed.failed;
    }

-- by how the reading ended
pub by_end : (line : List ℕ) (old new : Seen) (end other : LineEnd) → end ≡ other → LineIs line old new end → LineIs line old new other
by_end line old new end other is t = subst (LineIs line old new) is t

-- the error is of any kind
pub if_err : {A E X : Type 0} (r : Result A E) → X → IfErr r (λ _. X)
if_err (Ok a) x = tt
if_err (Err e) x = x

pub err_then : {A E X Y : Type 0} (r : Result A E) → (X → Y) → IfErr r (λ _. X) → IfErr r (λ _. Y)
err_then (Ok a) f x = tt
err_then (Err e) f x = f x

pub ok_then : {A E X Y : Type 0} (r : Result A E) → (X → Y) → IfOk r (λ _. X) → IfOk r (λ _. Y)
ok_then (Ok a) f x = f x
ok_then (Err e) f x = tt

pub ok_both : {A E X Y Z : Type 0} (r : Result A E) → (X → Y → Z) → IfOk r (λ _. X) → IfOk r (λ _. Y) → IfOk r (λ _. Z)
ok_both (Ok a) f x y = f x y
ok_both (Err e) f x y = tt
