-- Slices are read back.
use Rattle.std.proofs.Common.{◌≡◌, ℕ, zero, suc, ◌+◌, ◌<◌, ◌≤◌, ◌==◌, Bool, true, false, List, [], ◌∷◌, ◌++◌, refl, sym, subst, arith, length, append_assoc}
use Rattle.std.proofs.lemmas.Bool.Decides.{nat_tests}
use Rattle.std.proofs.lemmas.List.{length-append}
use Rattle.enc_tables.specs.declared.records.CtxState.{CtxState}
use Rattle.spec_cabac.specs.Bins.{EndsOnce}
use Rattle.spec_cabac.specs.Law.{ReadsAll}
use Rattle.spec_cabac.proofs.Law.{reads_all}
use Rattle.spec_syntax.specs.declared.Bin.{Bin}
use Rattle.spec_syntax.specs.Syntax.{Syntax, done, bin, at, ◌>>=◌, Reads}
use Rattle.spec_syntax.specs.Elements.{end_of_slice}
use Rattle.spec_syntax.specs.Sequences.{sequence_string, ReadsEach}
use Rattle.spec_syntax.proofs.Walks.{reads_then}
use Rattle.spec_slice_data.specs.Coding.{asked, GoesOn, strings_of, slice_string, ended_string, AllGoOn, AreWritten, IsReadBack}
use Rattle.spec_slice_data.specs.Decoding.{decoded_from}
use Rattle.spec_slice_data.specs.Slice.{slice_data}
use Rattle.spec_slice_data.proofs.Decoded.{decoded_walk, ends_once, goes_on_append}

-- ---- over bins

-- the number of a macroblock against that of all
last_is : (k n : ℕ) → k + 1 ≡ n → (k + 1 == n) ≡ true
last_is k n h = grind (arith, nat_tests)

not_last : (k n : ℕ) → k + 1 < n → (k + 1 == n) ≡ false
not_last k n h = grind (arith, nat_tests)

pub reads_slice : {R : Type 0} (mb : List R → Syntax R) (string : List R → R → List Bin) (total n : ℕ) (before : List R) (r : R) (rest : List R)
    → length before + length (r ∷ rest) ≡ total → length (r ∷ rest) ≤ n → ReadsEach mb string before (r ∷ rest)
    → Reads (slice_data mb n before) (sequence_string (ended_string string total) before (r ∷ rest)) (before ++ r ∷ rest)
unfolding slice_data sequence_string
reads_slice mb string total zero before r rest t l h = absurd (omega arith)
reads_slice mb string total (suc n) before r [] t l h =
    let e : (length before + 1 == total) ≡ true = last_is (length before) total (omega arith) in
    rw (e, append_assoc (string before r) (at end_of_slice true ∷ []) [])
    (reads_then (λ r. bin end_of_slice >>= λ last. elim last [ true ↦ done (before ++ r ∷ []) | false ↦ slice_data mb n (before ++ r ∷ []) ]) h.0 (record { walk = (refl, refl) }))
reads_slice mb string total (suc n) before r (next ∷ rest) t l h =
    let e : (length before + 1 == total) ≡ false = not_last (length before) total (omega arith) in
    let tail = reads_slice mb string total n (before ++ r ∷ []) next rest (omega (arith, length-append before (r ∷ []))) (omega arith) h.1 in
    let same : (before ++ r ∷ []) ++ next ∷ rest ≡ before ++ r ∷ next ∷ rest = append_assoc before (r ∷ []) (next ∷ rest) in
    rw (e, append_assoc (string before r) (at end_of_slice false ∷ []) (sequence_string (ended_string string total) (before ++ r ∷ []) (next ∷ rest)))
    (reads_then (λ r. bin end_of_slice >>= λ last. elim last [ true ↦ done (before ++ r ∷ []) | false ↦ slice_data mb n (before ++ r ∷ []) ]) h.0 (record { walk = (refl, (rw same at tail).walk) }))

pub slice_bins : {R : Type 0} (mb : List R → Syntax R) (string : List R → R → List Bin) (n : ℕ) (records : List R) → length records ≤ n → AreWritten mb string records
    → Reads (slice_data mb n []) (slice_string string records) records
unfolding slice_string strings_of
slice_bins mb string n [] l h = absurd (omega (arith, h.some))
slice_bins mb string n (r ∷ rest) l h = reads_slice mb string (length (r ∷ rest)) n [] r rest (omega arith) l h.each

-- ---- the end of the code

-- a string that goes on to its last bin, which ends the code
record EndsAtLast (bins : List Bin) : Type 0 where
  before : List Bin
  same : bins ≡ before ++ at end_of_slice true ∷ []
  go_on : GoesOn before

one_bin : (b : Bool) → b ≡ false → GoesOn (at end_of_slice b ∷ [])
unfolding GoesOn
one_bin b e = (rw e refl, tt)

ends_at_last : {R : Type 0} (string : List R → R → List Bin) (total : ℕ) (before : List R) (r : R) (rest : List R)
    → length before + length (r ∷ rest) ≡ total → AllGoOn string before (r ∷ rest) → EndsAtLast (sequence_string (ended_string string total) before (r ∷ rest))
unfolding sequence_string
ends_at_last string total before r [] t h =
    let e : (length before + 1 == total) ≡ true = last_is (length before) total (omega arith) in
    record { before = string before r; same = rw (e, append_assoc (string before r) (at end_of_slice true ∷ []) []) refl; go_on = h.0 }
ends_at_last string total before r (next ∷ rest) t h =
    let e : (length before + 1 == total) ≡ false = not_last (length before) total (omega arith) in
    let tail = ends_at_last string total (before ++ r ∷ []) next rest (omega (arith, length-append before (r ∷ []))) h.1 in
    record {
      before = ended_string string total before r ++ tail.before;
      same = rw tail.same (sym (append_assoc (ended_string string total before r) tail.before (at end_of_slice true ∷ [])));
      go_on = goes_on_append (ended_string string total before r) tail.before (goes_on_append (string before r) (at end_of_slice (length before + 1 == total) ∷ []) h.0 (one_bin _ e)) tail.go_on;
    }

pub slice_ends : {R : Type 0} (mb : List R → Syntax R) (string : List R → R → List Bin) (states : List CtxState) (records : List R) → AreWritten mb string records → EndsOnce (asked states (slice_string string records))
unfolding slice_string strings_of
slice_ends mb string states [] h = absurd (omega (arith, h.some))
slice_ends mb string states (r ∷ rest) h =
    let l = ends_at_last string (length (r ∷ rest)) [] r rest (omega arith) h.go_on in
    subst (λ (bins : List Bin). EndsOnce (asked states bins)) (sym l.same) (ends_once states l.before l.go_on)

-- ---- through the arithmetic decoder

pub slice_read_back : {R : Type 0} (mb : List R → Syntax R) (string : List R → R → List Bin) (n : ℕ) (states : List CtxState) (records : List R) (rest : List Bool)
    → length records ≤ n → AreWritten mb string records → IsReadBack mb string n states records rest
unfolding decoded_from
slice_read_back mb string n states records rest l h =
    let a : ReadsAll (asked states (slice_string string records)) rest = reads_all (asked states (slice_string string records)) rest (slice_ends mb string states records h) in
    record {
      last = a.last;
      reads = rw a.starts (decoded_walk (slice_data mb n []) (slice_string string records) records states a.first a.last (slice_bins mb string n records l h).walk a.gives);
      ended = a.ended;
      left = a.left;
      count = a.count;
    }
