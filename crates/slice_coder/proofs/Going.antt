-- The bins of a slice grow by a macroblock at a time.
use Rattle.std.proofs.Common.{◌≡◌, ℕ, ◌+◌, ◌<◌, ◌≤◌, ◌==◌, true, false, List, [], ◌∷◌, ◌++◌, length, refl, sym, ap, subst, ◌∙◌, arith, append_assoc, length-append}
use Rattle.std.proofs.lemmas.Bool.Decides.{nat_tests}
use Rattle.enc_tables.specs.declared.records.MbRecord.{MbRecord}
use Rattle.spec_syntax.specs.declared.Bin.{Bin}
use Rattle.spec_syntax.specs.Syntax.{at}
use Rattle.spec_syntax.specs.Elements.{end_of_slice}
use Rattle.spec_slice_data.specs.Coding.{strings_of, slice_string}
use Rattle.spec_slice_data.proofs.Strings.{strings_none, strings_push}
use Rattle.cabac_coder.specs.State.{CoderState}
use Rattle.bin_writer.specs.Coding.{Coding, coding, IsReady, Codes, CodesPlain}
use Rattle.bin_writer.proofs.Coding.{codes_none, codes_then, codes_plainly}
use Rattle.slice_coder.specs.Strings.{flag_before, flag_behind, Opened}

not_none : (n : ℕ) → (n + 1 == 0) ≡ false
not_none n = grind (arith, nat_tests)

not_last : (n count : ℕ) → n < count → (n == count) ≡ false
not_last n count h = grind (arith, nat_tests)

not_zero : (n : ℕ) → 0 < n → (n == 0) ≡ false
not_zero n h = grind (arith, nat_tests)

is_last : (n : ℕ) → (n == n) ≡ true
is_last n = grind (arith, nat_tests)

flag_next : (count n : ℕ) → flag_behind count (n + 1) ≡ at end_of_slice (n + 1 == count) ∷ []
flag_next count n = rw (not_none n) refl

last_flag : (count : ℕ) → 0 < count → flag_behind count count ≡ at end_of_slice true ∷ []
last_flag count h = rw (not_zero count h, is_last count) refl

before_is_behind : (count n : ℕ) → n < count → flag_before n ≡ flag_behind count n
before_is_behind count n h = rw (not_last n count h) refl

-- there is no macroblock before the first one
pub plain_none : (n : ℕ) (coder : CoderState) → n ≤ 0 → coder.ended ≡ false → CodesPlain coder (flag_before n) coder
plain_none n coder h live =
    let none : n ≡ 0 = omega arith in
    let same : CodesPlain coder [] coder = record { coded = λ states known. codes_none (record { live = live; known = known }); live = live } in
    subst (λ (k : ℕ). CodesPlain coder (flag_before k) coder) (sym none) same

pub opened_none : (string : List MbRecord → MbRecord → List Bin) (count : ℕ) (start : Coding) → IsReady start → Opened string count [] start start
opened_none string count start ready = record { bins = []; codes = codes_none ready; so = sym (strings_none string count) }

pub opened_more : (string : List MbRecord → MbRecord → List Bin) (count n : ℕ) (before : List MbRecord) (mb : MbRecord) (start now next : Coding) (coder : CoderState) → Opened string count before start now
    → length before ≡ n → n < count → CodesPlain now.coder (flag_before n) coder → Codes (coding coder now.states) (string before mb) next → Opened string count (before ++ mb ∷ []) start next
opened_more string count n before mb start now next coder o long inside flag coded =
    let flags : flag_before n ≡ flag_behind count (length before) = before_is_behind count n inside ∙ ap (λ (k : ℕ). flag_behind count k) (sym long) in
    let more : length (before ++ mb ∷ []) ≡ length before + 1 = length-append before (mb ∷ []) in
    let last : flag_behind count (length (before ++ mb ∷ [])) ≡ at end_of_slice (length before + 1 == count) ∷ [] = ap (λ (k : ℕ). flag_behind count k) more ∙ flag_next count (length before) in
    record {
      bins = (o.bins ++ flag_before n) ++ string before mb;
      codes = codes_then (codes_then o.codes (codes_plainly o.codes.ready flag)) coded;
      so =
          ap (λ (xs : List Bin). ((o.bins ++ xs) ++ string before mb) ++ flag_behind count (length (before ++ mb ∷ []))) flags
          ∙ ap (λ (xs : List Bin). ((o.bins ++ flag_behind count (length before)) ++ string before mb) ++ xs) last
          ∙ ap (λ (xs : List Bin). (xs ++ string before mb) ++ (at end_of_slice (length before + 1 == count) ∷ [])) o.so
          ∙ append_assoc (strings_of string count before) (string before mb) (at end_of_slice (length before + 1 == count) ∷ [])
          ∙ sym (strings_push string count before mb);
    }

-- all bins, with the last flag
pub opened_all : (string : List MbRecord → MbRecord → List Bin) (count : ℕ) (records : List MbRecord) (start now : Coding) (o : Opened string count records start now) → 0 < count → length records ≡ count
    → o.bins ++ at end_of_slice true ∷ [] ≡ slice_string string records
unfolding slice_string strings_of
opened_all string count records start now o some long =
    ap (λ (xs : List Bin). o.bins ++ xs) (sym (last_flag count some) ∙ ap (λ (k : ℕ). flag_behind count k) (sym long)) ∙ o.so ∙ ap (λ (k : ℕ). strings_of string k records) (sym long)
