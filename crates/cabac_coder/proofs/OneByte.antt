-- One more byte of the whole number.
use Rattle.std.proofs.Common.{ℕ, ◌≡◌, ◌+◌, ◌-◌, ◌*◌, ◌^◌, ◌<◌, ◌≤◌, Bool, true, false, cond, List, [], ◌++◌, take, drop, length, refl, sym, ap, ap₂, ◌∙◌, arith, pow_pos, pow-add, length-append, append_assoc, append-nil, drop_of_length-le, length-drop, length-take-le, take-append-drop, mod-eq_of_lt, lit<}
use Rattle.std.proofs.lemmas.List.{take-append-le, drop-append-le}
use Rattle.spec_bits.specs.Bits.{value, digits}
use Rattle.spec_bits.proofs.Digits.{length-digits, value-digits, value-append, digits-value, digits-append}
use Rattle.cabac_coder.specs.Emitted.{Emitted, emitted, pending, run_of}

-- eight digits more
pub pow-byte : (o : ℕ) → 2 ^ (8 * (o + 1)) ≡ 256 * 2 ^ (8 * o)
pow-byte o =
    let e : 8 * (o + 1) ≡ 8 * o + 8 = omega arith in
    let p : 2 ^ (8 * o + 8) ≡ 2 ^ (8 * o) * 2 ^ 8 = pow-add 2 (8 * o) 8 in
    ap (λ n. 2 ^ n) e ∙ omega (arith, p)

pub run_below : (carry : Bool) (o : ℕ) → run_of carry o < 2 ^ (8 * o)
run_below true o = pow_pos (8 * o)
run_below false o = omega (arith, pow_pos (8 * o))

abbrev emitted_of : List Bool → ℕ → ℕ → ℕ → ℕ → Emitted
emitted_of s r m n c = record { start = s; room = r; made = m; number = n; count = c }

same_emitted : {s t : List Bool} {r m n c o k : ℕ} → s ≡ t → n ≡ o → c ≡ k → emitted_of s r m n c ≡ emitted_of t r m o k
same_emitted p q w = cc

-- a byte that a carry may turn
pub held_more : (base held o room made : ℕ) (first : Bool) (text : List Bool) →
    emitted base first held (o + 1) text room made
    ≡ record {
      start = take base text;
      room = room;
      made = made;
      number = 256 * (emitted base first held o text room made).number + 255;
      count = (emitted base first held o text room made).count + 8;
    }
held_more base held o room made first text =
    same_emitted refl (rw (pow-byte o) (omega (arith, pow_pos (8 * o)))) (omega arith)

-- the run of the outstanding bytes after the number n
value-run : (carry : Bool) (o n : ℕ) → value n (digits (8 * o) (run_of carry o)) ≡ n * 2 ^ (8 * o) + run_of carry o
value-run carry o n = value-digits (8 * o) (run_of carry o) n ∙ ap (λ x. n * 2 ^ (8 * o) + x) (mod-eq_of_lt (run_below carry o))

value-held : (held : ℕ) (carry : Bool) (n : ℕ) → held ≤ 254 → value n (digits 8 (held + cond carry 1 0)) ≡ 256 * n + (held + cond carry 1 0)
value-held held true n h = let b : held + 1 < 2 ^ 8 = omega arith in value-digits 8 (held + 1) n ∙ omega (arith, mod-eq_of_lt b)
value-held held false n h = let b : held + 0 < 2 ^ 8 = omega arith in value-digits 8 (held + 0) n ∙ omega (arith, mod-eq_of_lt b)

-- the bits ys after those that are written, and then a byte that is held
settled : (base next room made P : ℕ) (text ys : List Bool) → base ≤ length text → value 0 (drop base text) ≡ P →
    emitted base false next 0 (text ++ ys) room made
    ≡ emitted_of (take base text) room made (256 * value P ys + next) (length text - base + length ys + 8)
settled base next room made P text ys h e =
    let v : value 0 (drop base (text ++ ys)) ≡ value P ys =
    ap (value 0) (drop-append-le base text ys h) ∙ value-append (drop base text) ys 0 ∙ ap (λ n. value n ys) e in
    let l : length (text ++ ys) ≡ length text + length ys = length-append text ys in
    same_emitted (take-append-le base text ys h) (omega (arith, v)) (omega (arith, l))

-- what is written where a byte settles
abbrev pub written : Bool → Bool → ℕ → ℕ → List Bool
written carry first held o = cond first [] (digits 8 (held + cond carry 1 0)) ++ digits (8 * o) (run_of carry o)

pub resolved : (carry first : Bool) (base held o next room made : ℕ) (text : List Bool) → base ≤ length text → (first ≡ true → length text ≡ base) →
    (first ≡ true → held ≡ 0) → held ≤ 254 →
    (carry ≡ true → (emitted base first held o text room made).number + 1 < 2 ^ (emitted base first held o text room made).count) →
    emitted base false next 0 (text ++ written carry first held o) room made
    ≡ record {
      start = take base text;
      room = room;
      made = made;
      number = 256 * (emitted base first held o text room made).number + (cond carry 256 0 + next);
      count = (emitted base first held o text room made).count + 8;
    }
resolved true true base held o next room made text h f z b k =
    let n : pending held o (value 0 (drop base text)) + 1 < 2 ^ (0 + 8 * o) = k refl in
    let e : 0 + 8 * o ≡ 8 * o = omega arith in
    let p : 2 ^ (0 + 8 * o) ≡ 2 ^ (8 * o) = ap (λ n. 2 ^ n) e in
    absurd (omega (arith, pow_pos (8 * o)))
resolved false true base held o next room made text h f z b k =
    let d : drop base text ≡ [] = drop_of_length-le text (omega (arith, f refl)) in
    let v : value 0 (drop base text) ≡ 0 = ap (value 0) d in
    let a : value 0 (digits (8 * o) (run_of false o)) ≡ 0 * 2 ^ (8 * o) + run_of false o = value-run false o 0 in
    let l : length (digits (8 * o) (run_of false o)) ≡ 8 * o = length-digits (8 * o) (run_of false o) in
    settled base next room made 0 text (digits (8 * o) (run_of false o)) h v
    ∙ same_emitted refl (rw (v, z refl) (omega arith)) (omega (arith, f refl))
resolved true false base held o next room made text h f z b k =
    let P : ℕ = value 0 (drop base text) in
    let a : value P (digits 8 (held + 1) ++ digits (8 * o) 0) ≡ (256 * P + (held + 1)) * 2 ^ (8 * o) + 0 =
    value-append (digits 8 (held + 1)) (digits (8 * o) 0) P ∙ ap (λ n. value n (digits (8 * o) 0)) (value-held held true P b) ∙ value-run true o (256 * P + (held + 1)) in
    let l : length (digits 8 (held + 1) ++ digits (8 * o) 0) ≡ 8 + 8 * o =
    length-append (digits 8 (held + 1)) (digits (8 * o) 0) ∙ ap₂ (λ x y. x + y) (length-digits 8 (held + 1)) (length-digits (8 * o) 0) in
    settled base next room made P text (digits 8 (held + 1) ++ digits (8 * o) 0) h refl
    ∙ same_emitted refl (omega (arith, pow_pos (8 * o))) (omega arith)
resolved false false base held o next room made text h f z b k =
    let P : ℕ = value 0 (drop base text) in
    let a : value P (digits 8 (held + 0) ++ digits (8 * o) (run_of false o)) ≡ (256 * P + (held + 0)) * 2 ^ (8 * o) + run_of false o =
    value-append (digits 8 (held + 0)) (digits (8 * o) (run_of false o)) P ∙ ap (λ n. value n (digits (8 * o) (run_of false o))) (value-held held false P b)
    ∙ value-run false o (256 * P + (held + 0)) in
    let l : length (digits 8 (held + 0) ++ digits (8 * o) (run_of false o)) ≡ 8 + 8 * o =
    length-append (digits 8 (held + 0)) (digits (8 * o) (run_of false o)) ∙ ap₂ (λ x y. x + y) (length-digits 8 (held + 0)) (length-digits (8 * o) (run_of false o)) in
    settled base next room made P text (digits 8 (held + 0) ++ digits (8 * o) (run_of false o)) h refl
    ∙ same_emitted refl (omega (arith, pow_pos (8 * o))) (omega arith)

-- ---- writing the run

pub run_more : (carry : Bool) (o : ℕ) → digits (8 * o) (run_of carry o) ++ digits 8 (cond carry 0 255) ≡ digits (8 * (o + 1)) (run_of carry (o + 1))
run_more true o =
    let e : 8 * o + 8 ≡ 8 * (o + 1) = omega arith in
    sym (digits-append (8 * o) 8 0 0 (run_below true o) (lit< tt)) ∙ ap (λ n. digits n 0) e
run_more false o =
    let e : 8 * o + 8 ≡ 8 * (o + 1) = omega arith in
    let r : run_of false o * 2 ^ 8 + 255 ≡ run_of false (o + 1) = omega (arith, pow-byte o, pow_pos (8 * o)) in
    sym (digits-append (8 * o) 8 (run_of false o) 255 (run_below false o) (lit< tt)) ∙ ap₂ (λ n v. digits n v) e r

pub length-behind : (text : List Bool) (n v : ℕ) → length (text ++ digits n v) ≡ length text + n
length-behind text n v = length-append text (digits n v) ∙ ap (λ m. length text + m) (length-digits n v)

-- ---- the room

-- so many bits more fit behind the number's digits
abbrev pub Fitting : ℕ → Emitted → Type 0
Fitting n e = length e.start + e.count + n ≤ e.room

pub run_room : (first : Bool) (base held v o room made n : ℕ) (text : List Bool) → base ≤ length text → (first ≡ true → length text ≡ base) →
    Fitting n (emitted base first held o text room made) → length (text ++ cond first [] (digits 8 v)) + 8 * o + n ≤ room
run_room true base held v o room made n text h f k =
    let t : length (take base text) ≡ base = length-take-le base text h in
    let a : length (text ++ []) ≡ length text = ap length (append-nil text) in
    omega (arith, f refl)
run_room false base held v o room made n text h f k =
    let t : length (take base text) ≡ base = length-take-le base text h in
    let a : length (text ++ digits 8 v) ≡ length text + 8 = length-behind text 8 v in
    omega arith

-- what is written, and then the digits that are left
pub resolved_in_turn : (carry first : Bool) (base held o next room made : ℕ) (text : List Bool) → base ≤ length text → (first ≡ true → length text ≡ base) →
    (first ≡ true → held ≡ 0) → held ≤ 254 →
    (carry ≡ true → (emitted base first held o text room made).number + 1 < 2 ^ (emitted base first held o text room made).count) →
    emitted base false next 0 ((text ++ cond first [] (digits 8 (held + cond carry 1 0))) ++ digits (8 * o) (run_of carry o)) room made
    ≡ record {
      start = take base text;
      room = room;
      made = made;
      number = 256 * (emitted base first held o text room made).number + (cond carry 256 0 + next);
      count = (emitted base first held o text room made).count + 8;
    }
resolved_in_turn carry first base held o next room made text h f z b k =
    ap (λ xs. emitted base false next 0 xs room made) (append_assoc text (cond first [] (digits 8 (held + cond carry 1 0))) (digits (8 * o) (run_of carry o)))
    ∙ resolved carry first base held o next room made text h f z b k

eightfold : (carry : Bool) → cond carry 256 0 ≡ 256 * cond carry 1 0
eightfold true = refl
eightfold false = refl

pub finished : (carry first : Bool) (base held o room made size last : ℕ) (text : List Bool) → base ≤ length text → (first ≡ true → length text ≡ base) →
    (first ≡ true → held ≡ 0) → held ≤ 254 → last < 2 ^ size →
    (carry ≡ true → (emitted base first held o text room made).number + 1 < 2 ^ (emitted base first held o text room made).count) →
    ((text ++ cond first [] (digits 8 (held + cond carry 1 0))) ++ digits (8 * o) (run_of carry o)) ++ digits size last
    ≡ take base text ++ digits ((emitted base first held o text room made).count + size) (((emitted base first held o text room made).number + cond carry 1 0) * 2 ^ size + last)
finished carry first base held o room made size last text h f z b l k =
    let all : List Bool = (text ++ cond first [] (digits 8 (held + cond carry 1 0))) ++ digits (8 * o) (run_of carry o) in
    let e : emitted base false 0 0 all room made ≡ record {
      start = take base text;
      room = room;
      made = made;
      number = 256 * (emitted base first held o text room made).number + (cond carry 256 0 + 0);
      count = (emitted base first held o text room made).count + 8;
    } = resolved_in_turn carry first base held o 0 room made text h f z b k in
    let t : take base all ≡ take base text = ap (λ (x : Emitted). x.start) e in
    let n : pending 0 0 (value 0 (drop base all)) ≡ 256 * (emitted base first held o text room made).number + (cond carry 256 0 + 0) = ap (λ (x : Emitted). x.number) e in
    let c : length all - base + 8 + 8 * 0 ≡ (emitted base first held o text room made).count + 8 = ap (λ (x : Emitted). x.count) e in
    let d : cond carry 256 0 ≡ 256 * cond carry 1 0 = eightfold carry in
    let w : List Bool = drop base all in
    let y : w ++ digits size last ≡ digits (length (w ++ digits size last)) (value 0 (w ++ digits size last)) = sym (digits-value (w ++ digits size last) 0) in
    let s : length (w ++ digits size last) ≡ (emitted base first held o text room made).count + size = length-behind w size last ∙ omega (arith, length-drop base all) in
    let p : value 0 w ≡ (emitted base first held o text room made).number + cond carry 1 0 = omega arith in
    let v : value 0 (w ++ digits size last) ≡ ((emitted base first held o text room made).number + cond carry 1 0) * 2 ^ size + last =
    value-append w (digits size last) 0 ∙ value-digits size last (value 0 w) ∙ ap₂ (λ x y. x * 2 ^ size + y) p (mod-eq_of_lt l) in
    ap (λ x. x ++ digits size last) (sym (take-append-drop base all)) ∙ append_assoc (take base all) w (digits size last)
    ∙ ap₂ (λ x y. x ++ y) t (y ∙ ap₂ (λ x y. digits x y) s v)
