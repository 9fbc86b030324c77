-- A list of bits that is written piece by piece.
use Rattle.std.proofs.Common.{ℕ, zero, suc, ◌≡◌, ◌+◌, ◌<◌, ◌≤◌, Bool, true, false, List, [], ◌∷◌, ◌++◌, length, take, drop, get_or, refl, sym, ap, subst, ◌∙◌, arith, length-append, append_assoc, append-nil, Ok, Err}
use Rattle.std.specs.Prelude.{Result}
use Rattle.std.specs.Result.{is_err}
use Rattle.std.proofs.lemmas.List.{drop_more, drop_all, take_at}
use Rattle.spec_bits.specs.declared.Field.{Field}
use Rattle.spec_bits.specs.declared.fields.Field.TheVariants.{U}
use Rattle.spec_bits.specs.Fields.{field_bits, fields_bits, FieldFits, FieldsFit}
use Rattle.spec_bits.proofs.FieldLists.{fields_bits-none, fields_bits-cons, fields_bits-append}
use Rattle.bit_strings.specs.BitText.{BitText, Appends}
use Rattle.param_sets.specs.Pieces.{IsLonger, Grows}

abbrev pub more : BitText → List Bool → BitText
more t bits = record t { text = t.text ++ bits }

pub longer_none : (t : BitText) → IsLonger t t
longer_none t = record { bits = []; same = ap (λ bits. let r : BitText = record t { text = bits } in r) (sym (append-nil t.text)) }

pub longer_more : (s t u : BitText) (bits : List Bool) → IsLonger s t → u ≡ more t bits → IsLonger s u
longer_more s t u bits h e = record {
  bits = h.bits ++ bits;
  same = e ∙ ap (λ x. more x bits) h.same ∙ ap (λ b. let r : BitText = record s { text = b } in r) (append_assoc s.text h.bits bits);
}

pub longer_longer : (s t u : BitText) → IsLonger s t → IsLonger t u → IsLonger s u
longer_longer s t u h k = longer_more s t u k.bits h k.same

-- what is cut back is as before
pub cut_back : (old now new : BitText) (start : ℕ) → start ≡ length old.text → IsLonger old now → new ≡ record now { text = take start now.text } → new ≡ old
cut_back old now new start e h k =
    k ∙ ap (λ x. let r : BitText = record x { text = take start x.text } in r) h.same
    ∙ ap (λ b. let r : BitText = record old { text = b } in r) (take_at old.text h.bits start (sym e))

-- of all bits, those that are left are still to be written
pub record Going (start now : BitText) (left all : List Bool) : Type 0 where
  pub longer : IsLonger start now
  pub text : now.text ++ left ≡ start.text ++ all

pub going_start : (start : BitText) (all : List Bool) → Going start start all all
going_start start all = record { longer = longer_none start; text = refl }

pub going_same : (start now : BitText) (left other all : List Bool) → left ≡ other → Going start now left all → Going start now other all
going_same start now left other all e h = subst (λ l. Going start now l all) e h

pub going_more : (start now later : BitText) (piece left all : List Bool) → Going start now (piece ++ left) all → later ≡ more now piece → Going start later left all
going_more start now later piece left all h e =
    let t : later.text ≡ now.text ++ piece = ap (λ x. x.text) e in
    record {
      longer = longer_more start now later piece h.longer e;
      text = ap (λ b. b ++ left) t ∙ append_assoc now.text piece left ∙ h.text;
    }

going_full : (start now : BitText) (piece left all : List Bool) → Going start now (piece ++ left) all → now.room < length now.text + length piece → start.room < length start.text + length all
going_full start now piece left all h k =
    let r : now.room ≡ start.room = ap (λ x. x.room) h.longer.same in
    let e : length now.text + length (piece ++ left) ≡ length start.text + length all =
    sym (length-append now.text (piece ++ left)) ∙ ap length h.text ∙ length-append start.text all in
    omega (arith, length-append piece left)

pub going_fits : (start now : BitText) (piece all : List Bool) → Going start now piece all → length now.text + length piece ≤ now.room → length start.text + length all ≤ start.room
going_fits start now piece all h k =
    let r : now.room ≡ start.room = ap (λ x. x.room) h.longer.same in
    let e : length now.text + length piece ≡ length start.text + length all =
    sym (length-append now.text piece) ∙ ap length h.text ∙ length-append start.text all in
    omega arith

pub going_done : (start now later : BitText) (piece all : List Bool) → Going start now piece all → later ≡ more now piece → later ≡ more start all
going_done start now later piece all h e =
    e ∙ ap (λ x. let r : BitText = record x { text = now.text ++ piece } in r) h.longer.same
    ∙ ap (λ b. let r : BitText = record start { text = b } in r) h.text

pub stopped : (start now new : BitText) (piece left all : List Bool) → Going start now (piece ++ left) all → (now.room < length now.text + length piece) × IsLonger now new → (start.room < length start.text + length all) × IsLonger start new
stopped start now new piece left all h a = (going_full start now piece left all h a.0, longer_longer start now new h.longer a.1)

pub last_grown : {E : Type 0} (start now new : BitText) (piece all : List Bool) (r : Result (Unit {0}) E) → Going start now piece all → Grows now new piece r → Grows start new all r
last_grown start now new piece all (Ok x) h a = (going_fits start now piece all h a.0, going_done start now new piece all h a.1)
last_grown start now new piece all (Err e) h a = stopped start now new piece [] all (going_same start now piece (piece ++ []) all (sym (append-nil piece)) h) a

pub failed : {E : Type 0} (old now : BitText) (bits : List Bool) (r : Result (Unit {0}) E) → is_err r ≡ true → Grows old now bits r → (old.room < length old.text + length bits) × IsLonger old now
failed old now bits (Ok x) e h = absurd cc
failed old now bits (Err x) e h = h

pub succeeded : {E : Type 0} (old now : BitText) (bits : List Bool) (r : Result (Unit {0}) E) → is_err r ≡ false → Grows old now bits r → (length old.text + length bits ≤ old.room) × (now ≡ more old bits)
succeeded old now bits (Ok x) e h = h
succeeded old now bits (Err x) e h = absurd cc

-- an appending call may also grow
pub grown : {E : Type 0} (old now : BitText) (bits : List Bool) (r : Result (Unit {0}) E) → Appends old now bits r → Grows old now bits r
grown old now bits (Ok x) h = h
grown old now bits (Err x) h = (h.0, subst (λ t. IsLonger old t) (sym h.1) (longer_none old))

pub same_bits : {E : Type 0} (old now : BitText) (bits other : List Bool) (r : Result (Unit {0}) E) → bits ≡ other → Grows old now bits r → Grows old now other r
same_bits old now bits other r e h = subst (λ b. Grows old now b r) e h

-- ---- fields

pub fits_at : (fields : List Field) (i : ℕ) (d : Field) → i < length fields → FieldsFit fields → FieldFits (get_or fields i d)
fits_at [] i d h k = absurd (omega arith)
fits_at (f ∷ fields) zero d h k = k.0
fits_at (f ∷ fields) (suc i) d h k = fits_at fields i d (omega arith) k.1

pub field_here : (fields : List Field) (i : ℕ) (d : Field) → i < length fields → fields_bits (drop i fields) ≡ field_bits (get_or fields i d) ++ fields_bits (drop (i + 1) fields)
field_here fields i d h = ap fields_bits (drop_more fields i d h) ∙ fields_bits-cons (get_or fields i d) (drop (i + 1) fields)

pub fields_over : (fields : List Field) (i : ℕ) → length fields ≤ i → fields_bits (drop i fields) ≡ []
fields_over fields i h = ap fields_bits (drop_all i fields h) ∙ fields_bits-none

-- fields in two parts
pub parts : (start now : BitText) (xs ys : List Field) (all : List Bool) → Going start now (fields_bits (xs ++ ys)) all → Going start now (fields_bits xs ++ fields_bits ys) all
parts start now xs ys all h = going_same start now (fields_bits (xs ++ ys)) (fields_bits xs ++ fields_bits ys) all (fields_bits-append xs ys) h

pub field_going : (start now : BitText) (fields : List Field) (i : ℕ) (all : List Bool) → i < length fields → Going start now (fields_bits (drop i fields)) all
    → Going start now (field_bits (get_or fields i (U 0 0)) ++ fields_bits (drop (i + 1) fields)) all
field_going start now fields i all h g = going_same start now (fields_bits (drop i fields)) (field_bits (get_or fields i (U 0 0)) ++ fields_bits (drop (i + 1) fields)) all (field_here fields i (U 0 0) h) g

pub still_fits : (now new : BitText) (bits : List Bool) → (length now.text + length bits ≤ now.room) × (new ≡ more now bits) → length new.text ≤ new.room
still_fits now new bits h = omega (arith, h.0, ap (λ t. length t.text) h.1, ap (λ t. t.room) h.1, length-append now.text bits)

pub going_over : (start now : BitText) (all : List Bool) → length now.text ≤ now.room → Going start now [] all → (length start.text + length all ≤ start.room) × (now ≡ more start all)
going_over start now all h g = (
  going_fits start now [] all g (omega arith),
  going_done start now now [] all g (ap (λ b. let r : BitText = record now { text = b } in r) (sym (append-nil now.text))),
)

pub stopped_same : (start now new : BitText) (piece left all : List Bool) → Going start now (piece ++ left) all → (now.room < length now.text + length piece) × (new ≡ now) → (start.room < length start.text + length all) × IsLonger start new
stopped_same start now new piece left all h a = (going_full start now piece left all h a.0, subst (λ t. IsLonger start t) (sym a.1) h.longer)
