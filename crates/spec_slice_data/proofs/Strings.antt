-- The strings of sequences and of slices, one item at a time.
use Rattle.std.proofs.Common.{◌≡◌, ℕ, ◌+◌, ◌<◌, List, [], ◌∷◌, ◌++◌, refl, sym, length, get_or, take, append_assoc}
use Rattle.std.proofs.lemmas.List.{take_more, append-nil}
use Rattle.spec_syntax.specs.declared.Bin.{Bin}
use Rattle.spec_syntax.specs.Sequences.{sequence_string}
use Rattle.spec_slice_data.specs.Coding.{strings_of, ended_string}

pub sequence_push : {A : Type 0} (string : List A → A → List Bin) (before xs : List A) (y : A) → sequence_string string before (xs ++ y ∷ []) ≡ sequence_string string before xs ++ string (before ++ xs) y
unfolding sequence_string
sequence_push string before [] y = rw (append-nil (string before y), append-nil before) refl
sequence_push string before (x ∷ xs) y =
    rw (sequence_push string (before ++ x ∷ []) xs y, append_assoc before (x ∷ []) xs) (sym (append_assoc (string before x) (sequence_string string (before ++ x ∷ []) xs) (string (before ++ x ∷ xs) y)))

-- one item more
pub sequence_more : {A : Type 0} (string : List A → A → List Bin) (xs : List A) (i : ℕ) (d : A) → i < length xs → sequence_string string [] (take (i + 1) xs) ≡ sequence_string string [] (take i xs) ++ string (take i xs) (get_or xs i d)
sequence_more string xs i d h = rw (take_more xs i d h) (sequence_push string [] (take i xs) (get_or xs i d))

pub strings_none : {R : Type 0} (string : List R → R → List Bin) (n : ℕ) → strings_of string n [] ≡ []
unfolding strings_of sequence_string
strings_none string n = refl

pub strings_push : {R : Type 0} (string : List R → R → List Bin) (n : ℕ) (before : List R) (r : R) → strings_of string n (before ++ r ∷ []) ≡ strings_of string n before ++ ended_string string n before r
unfolding strings_of
strings_push string n before r = sequence_push (ended_string string n) [] before r

pub strings_more : {R : Type 0} (string : List R → R → List Bin) (n : ℕ) (records : List R) (k : ℕ) (d : R) → k < length records
    → strings_of string n (take (k + 1) records) ≡ strings_of string n (take k records) ++ ended_string string n (take k records) (get_or records k d)
unfolding strings_of
strings_more string n records k d h = sequence_more (ended_string string n) records k d h
