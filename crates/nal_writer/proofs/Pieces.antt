-- A list of bytes that is written piece by piece, and the runs of a payload.
use Rattle.std.proofs.Common.{ℕ, ◌≡◌, ◌+◌, ◌-◌, ◌%◌, ◌<◌, ◌≤◌, Bool, true, false, List, [], ◌∷◌, ◌++◌, length, take, drop, get_or, refl, sym, ap, ap₂, subst, ◌∙◌, arith, length-append, append_assoc, append-nil, replicate}
use Rattle.std.specs.Prelude.{nat_le, ◌&&◌, ◌==◌, if◌then◌else◌}
use Rattle.std.proofs.lemmas.Bool.Decides.{nat_tests}
use Rattle.std.proofs.lemmas.List.{drop_more, drop_all, take_more, take_all, take_at, replicate-append-replicate, length-take-le, length-replicate}
use Rattle.spec_bits.specs.Bits.{bits_of_bytes}
use Rattle.spec_bits.specs.Units.{escape, zeros_after}
use Rattle.spec_bits.proofs.Digits.{bits_of_bytes-append, length-bits_of_bytes}
use Rattle.spec_bits.proofs.Escapes.{escape-none, escape-put, escape-keep}
use Rattle.std.specs.Prelude.{Result}
use Rattle.std.specs.Result.{is_err}
use Rattle.std.proofs.Common.{Ok, Err}
use Rattle.bit_strings.specs.BitText.{BitText, Appends}
use Rattle.nal_writer.specs.Runs.{IsRun, IsLonger, Grows}

abbrev pub more : BitText → List Bool → BitText
more t bits = record t { text = t.text ++ bits }

pub longer_none : (t : BitText) → IsLonger t t
longer_none t = record { bits = []; same = ap (λ bits. let r : BitText = record t { text = bits } in r) (sym (append-nil t.text)) }

pub longer_more : (s t u : BitText) (bits : List Bool) → IsLonger s t → u ≡ more t bits → IsLonger s u
longer_more s t u bits h e = record {
  bits = h.bits ++ bits;
  same = e ∙ ap (λ x. more x bits) h.same ∙ ap (λ b. let r : BitText = record s { text = b } in r) (append_assoc s.text h.bits bits);
}

pub longer_longer : (s t u : BitText) → IsLonger s t → IsLonger t u → IsLonger s u
longer_longer s t u h k = longer_more s t u k.bits h k.same

-- what is cut back is as before
pub cut_back : (old now new : BitText) (start : ℕ) → start ≡ length old.text → IsLonger old now → new ≡ record now { text = take start now.text } → new ≡ old
cut_back old now new start e h k =
    k ∙ ap (λ x. let r : BitText = record x { text = take start x.text } in r) h.same
    ∙ ap (λ b. let r : BitText = record old { text = b } in r) (take_at old.text h.bits start (sym e))

-- of all bytes, those that are left are still to be written
pub record Going (start now : BitText) (left all : List ℕ) : Type 0 where
  pub longer : IsLonger start now
  pub text : now.text ++ bits_of_bytes left ≡ start.text ++ bits_of_bytes all
  pub whole : length now.text % 8 ≡ 0

pub going_start : (start : BitText) (all : List ℕ) → length start.text % 8 ≡ 0 → Going start start all all
going_start start all h = record { longer = longer_none start; text = refl; whole = h }

pub going_same : (start now : BitText) (left other all : List ℕ) → left ≡ other → Going start now left all → Going start now other all
going_same start now left other all e h = subst (λ l. Going start now l all) e h

pub going_more : (start now later : BitText) (piece left all : List ℕ) → Going start now (piece ++ left) all → later ≡ more now (bits_of_bytes piece) → Going start later left all
going_more start now later piece left all h e =
    let t : later.text ≡ now.text ++ bits_of_bytes piece = ap (λ x. x.text) e in
    record {
      longer = longer_more start now later (bits_of_bytes piece) h.longer e;
      text = ap (λ b. b ++ bits_of_bytes left) t ∙ append_assoc now.text (bits_of_bytes piece) (bits_of_bytes left)
          ∙ ap (λ b. now.text ++ b) (sym (bits_of_bytes-append piece left)) ∙ h.text;
      whole = omega (arith, ap length t, length-append now.text (bits_of_bytes piece), length-bits_of_bytes piece, h.whole);
    }

-- a piece that doesn't fit shows that all doesn't
pub going_full : (start now : BitText) (piece left all : List ℕ) → Going start now (piece ++ left) all → now.room < length now.text + length (bits_of_bytes piece) → start.room < length start.text + length (bits_of_bytes all)
going_full start now piece left all h k =
    let r : now.room ≡ start.room = ap (λ x. x.room) h.longer.same in
    let e : length now.text + length (bits_of_bytes (piece ++ left)) ≡ length start.text + length (bits_of_bytes all) =
    sym (length-append now.text (bits_of_bytes (piece ++ left))) ∙ ap length h.text ∙ length-append start.text (bits_of_bytes all) in
    omega (arith, ap length (bits_of_bytes-append piece left), length-append (bits_of_bytes piece) (bits_of_bytes left))

pub going_last_full : (start now : BitText) (piece all : List ℕ) → Going start now piece all → now.room < length now.text + length (bits_of_bytes piece) → start.room < length start.text + length (bits_of_bytes all)
going_last_full start now piece all h k = going_full start now piece [] all (going_same start now piece (piece ++ []) all (sym (append-nil piece)) h) k

pub going_fits : (start now : BitText) (piece all : List ℕ) → Going start now piece all → length now.text + length (bits_of_bytes piece) ≤ now.room → length start.text + length (bits_of_bytes all) ≤ start.room
going_fits start now piece all h k =
    let r : now.room ≡ start.room = ap (λ x. x.room) h.longer.same in
    let e : length now.text + length (bits_of_bytes piece) ≡ length start.text + length (bits_of_bytes all) =
    sym (length-append now.text (bits_of_bytes piece)) ∙ ap length h.text ∙ length-append start.text (bits_of_bytes all) in
    omega arith

pub going_done : (start now later : BitText) (piece all : List ℕ) → Going start now piece all → later ≡ more now (bits_of_bytes piece) → later ≡ more start (bits_of_bytes all)
going_done start now later piece all h e =
    e ∙ ap (λ x. let r : BitText = record x { text = now.text ++ bits_of_bytes piece } in r) h.longer.same
    ∙ ap (λ b. let r : BitText = record start { text = b } in r) h.text

-- ---- runs

-- so far no byte 03 is needed; zeros: how many 00 stand before place i
pub record Scanned (bytes : List ℕ) (i zeros : ℕ) : Type 0 where
  pub same : escape 0 bytes ≡ take i bytes ++ escape zeros (drop i bytes)
  pub few : zeros ≤ i

pub scanned_none : (bytes : List ℕ) → Scanned bytes 0 0
scanned_none bytes = record { same = refl; few = omega arith }

here : (bytes : List ℕ) (i b : ℕ) → i < length bytes → b ≡ get_or bytes i 0 → drop i bytes ≡ b ∷ drop (i + 1) bytes
here bytes i b h e = drop_more bytes i 0 h ∙ ap (λ x. x ∷ drop (i + 1) bytes) (sym e)

pub scanned_more : (bytes : List ℕ) (i zeros b next : ℕ) → i < length bytes → b ≡ get_or bytes i 0 → (nat_le 2 zeros && nat_le b 3) ≡ false → next ≡ zeros_after zeros b → Scanned bytes i zeros → Scanned bytes (i + 1) next
scanned_more bytes i zeros b next h e t n s =
    record {
      same = s.same ∙ ap (λ l. take i bytes ++ escape zeros l) (here bytes i b h e)
          ∙ ap (λ l. take i bytes ++ l) (escape-keep zeros b (drop (i + 1) bytes) t)
          ∙ sym (append_assoc (take i bytes) (b ∷ []) (escape (zeros_after zeros b) (drop (i + 1) bytes)))
          ∙ ap (λ l. l ++ escape (zeros_after zeros b) (drop (i + 1) bytes)) (ap (λ x. take i bytes ++ x ∷ []) e ∙ sym (take_more bytes i 0 h))
          ∙ ap (λ z. take (i + 1) bytes ++ escape z (drop (i + 1) bytes)) (sym n);
      few = subst (λ z. z ≤ i + 1) (sym n) (small (b == 0));
    }
  where
    small : (t : Bool) → (if t then zeros + 1 else 0) ≤ i + 1
    small true = omega (arith, s.few)
    small false = omega arith

-- a byte above 3 ends each run of zeros
pub scanned_past : (bytes : List ℕ) (i zeros b : ℕ) → i < length bytes → b ≡ get_or bytes i 0 → 3 < b → Scanned bytes i zeros → Scanned bytes (i + 1) 0
scanned_past bytes i zeros b h e large s = scanned_more bytes i zeros b 0 h e (kept (nat_le 2 zeros)) (ended (b == 0) not_zero) s
  where
    above : nat_le b 3 ≡ false
    above = grind (arith, nat_tests)

    not_zero : (b == 0) ≡ false
    not_zero = grind (arith, nat_tests)

    kept : (x : Bool) → (x && nat_le b 3) ≡ false
    kept true = above
    kept false = refl

    ended : (x : Bool) → x ≡ false → 0 ≡ (if x then zeros + 1 else 0)
    ended true f = absurd cc
    ended false f = refl

pub run_here : (bytes : List ℕ) (i zeros b : ℕ) → i < length bytes → b ≡ get_or bytes i 0 → (nat_le 2 zeros && nat_le b 3) ≡ true → Scanned bytes i zeros → IsRun bytes i
run_here bytes i zeros b h e t s =
    let two : 2 ≤ zeros = first (nat_le 2 zeros) (nat_le b 3) refl t in
    record {
      within = omega arith;
      whole = λ w. absurd (omega arith);
      parted = λ _. (
        omega (arith, s.few),
        s.same ∙ ap (λ l. take i bytes ++ escape zeros l) (here bytes i b h e)
            ∙ ap (λ l. take i bytes ++ l) (escape-put zeros b (drop (i + 1) bytes) t)
            ∙ ap (λ l. take i bytes ++ (3 ∷ escape 0 l)) (sym (here bytes i b h e)),
      );
    }
  where
    first : (p q : Bool) → nat_le 2 zeros ≡ p → (p && q) ≡ true → 2 ≤ zeros
    first true q w h = grind (arith, nat_tests)
    first false q w h = absurd cc

pub run_all : (bytes : List ℕ) (n zeros : ℕ) → n ≡ length bytes → Scanned bytes n zeros → IsRun bytes n
run_all bytes n zeros e s = record {
  within = omega arith;
  whole = λ _. s.same ∙ ap₂ (λ x y. x ++ escape zeros y) (take_all n bytes (omega arith)) (drop_all n bytes (omega arith)) ∙ ap (λ l. bytes ++ l) (escape-none zeros) ∙ append-nil bytes;
  parted = λ h. absurd (omega arith);
}

-- a run, and the byte 03 behind it
pub run_parts : (bytes rest : List ℕ) (n : ℕ) → IsRun bytes n → n < length bytes → rest ≡ drop n bytes → escape 0 bytes ≡ take n bytes ++ (3 ∷ [] ++ escape 0 rest)
run_parts bytes rest n r h e = (r.parted h).1 ∙ ap (λ l. take n bytes ++ (3 ∷ escape 0 l)) (sym e)

pub run_last : (bytes : List ℕ) (n : ℕ) → IsRun bytes n → length bytes ≤ n → escape 0 bytes ≡ bytes
run_last bytes n r h = r.whole (omega (arith, r.within))

-- ---- answers

pub last_piece : {E : Type 0} (start now new : BitText) (piece all : List ℕ) (r : Result (Unit {0}) E) → Going start now piece all → Appends now new (bits_of_bytes piece) r → Grows start new (bits_of_bytes all) r
last_piece start now new piece all (Ok x) h a = (going_fits start now piece all h a.0, going_done start now new piece all h a.1)
last_piece start now new piece all (Err e) h a = (going_last_full start now piece all h a.0, subst (λ t. IsLonger start t) (sym a.1) h.longer)

pub last_grown : {E : Type 0} (start now new : BitText) (piece all : List ℕ) (r : Result (Unit {0}) E) → Going start now piece all → Grows now new (bits_of_bytes piece) r → Grows start new (bits_of_bytes all) r
last_grown start now new piece all (Ok x) h a = (going_fits start now piece all h a.0, going_done start now new piece all h a.1)
last_grown start now new piece all (Err e) h a = (going_last_full start now piece all h a.0, longer_longer start now new h.longer a.1)

pub stopped : (start now new : BitText) (piece left all : List ℕ) → Going start now (piece ++ left) all → (now.room < length now.text + length (bits_of_bytes piece)) × (new ≡ now) → (start.room < length start.text + length (bits_of_bytes all)) × IsLonger start new
stopped start now new piece left all h a = (going_full start now piece left all h a.0, subst (λ t. IsLonger start t) (sym a.1) h.longer)

pub stopped_grown : (start now new : BitText) (piece left all : List ℕ) → Going start now (piece ++ left) all → (now.room < length now.text + length (bits_of_bytes piece)) × IsLonger now new → (start.room < length start.text + length (bits_of_bytes all)) × IsLonger start new
stopped_grown start now new piece left all h a = (going_full start now piece left all h a.0, longer_longer start now new h.longer a.1)

pub failed : {E : Type 0} (old now : BitText) (bits : List Bool) (r : Result (Unit {0}) E) → is_err r ≡ true → Grows old now bits r → (old.room < length old.text + length bits) × IsLonger old now
failed old now bits (Ok x) e h = absurd cc
failed old now bits (Err x) e h = h

pub succeeded : {E : Type 0} (old now : BitText) (bits : List Bool) (r : Result (Unit {0}) E) → is_err r ≡ false → Grows old now bits r → (length old.text + length bits ≤ old.room) × (now ≡ more old bits)
succeeded old now bits (Ok x) e h = h
succeeded old now bits (Err x) e h = absurd cc

-- a run stands in front of what is left, then the byte 03
pub run_going : (start now : BitText) (rest : List ℕ) (n : ℕ) (all : List ℕ) → IsRun rest n → n < length rest → Going start now (escape 0 rest) all → Going start now (take n rest ++ (3 ∷ [] ++ escape 0 (drop n rest))) all
run_going start now rest n all r h g = going_same start now (escape 0 rest) (take n rest ++ (3 ∷ [] ++ escape 0 (drop n rest))) all (r.parted h).1 g

pub run_length : (rest : List ℕ) (n : ℕ) → IsRun rest n → n < length rest → length (escape 0 rest) ≡ n + (1 + length (escape 0 (drop n rest)))
run_length rest n r h =
    ap length (r.parted h).1 ∙ length-append (take n rest) (3 ∷ escape 0 (drop n rest)) ∙ omega (arith, length-take-le n rest r.within)

pub fill_going : (start now : BitText) (m n : ℕ) (all : List ℕ) → m ≤ n → Going start now (replicate n 255) all → Going start now (replicate m 255 ++ replicate (n - m) 255) all
fill_going start now m n all h g =
    let e : m + (n - m) ≡ n = omega arith in
    going_same start now (replicate n 255) (replicate m 255 ++ replicate (n - m) 255) all (sym (replicate-append-replicate m (n - m) 255 ∙ ap (λ k. replicate k 255) e)) g

pub take_fill : (m n x : ℕ) → m ≤ n → take m (replicate n x) ≡ replicate m x
take_fill m n x h =
    let e : m + (n - m) ≡ n = omega arith in
    ap (λ k. take m (replicate k x)) (sym e) ∙ ap (λ l. take m l) (sym (replicate-append-replicate m (n - m) x)) ∙ take_at (replicate m x) (replicate (n - m) x) m (length-replicate m x)
