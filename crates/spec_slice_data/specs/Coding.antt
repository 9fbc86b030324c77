-- The data of a slice as it is written: the bins of its macroblocks and of end_of_slice_flag, and their code (ITU-T H.264, clauses 7.3.4 and
-- 9.3.4); and that a decoder reads it back.
use Rattle.std.specs.Prelude.{◌≡◌, ℕ, ◌+◌, ◌==◌, ◌<◌, ◌&&◌, Bool, true, false, List, [], ◌∷◌, ◌++◌, length, Some}
use Rattle.enc_tables.specs.declared.records.CtxState.{CtxState}
use Rattle.spec_cabac.specs.Bins.{Bin as Decision}
use Rattle.spec_cabac.specs.Bins.Bin.{Answered}
use Rattle.spec_cabac.specs.Decoder.{Reader}
use Rattle.spec_cabac.specs.Code.{arith_code}
use Rattle.spec_syntax.specs.declared.Bin.{Bin}
use Rattle.spec_syntax.specs.Syntax.{Syntax, at}
use Rattle.spec_syntax.specs.Elements.{end_of_slice}
use Rattle.spec_syntax.specs.Sequences.{sequence_string, ReadsEach}
use Rattle.spec_slice_data.specs.Decoding.{is_terminate, request, after, after_all, decoded_from}
use Rattle.spec_slice_data.specs.Slice.{slice_data}

-- what the arithmetic coder codes for bins, and its decoder is asked for, from these states on
unfoldable pub asked : List CtxState → List Bin → List Decision
asked states [] = []
asked states (b ∷ bins) = Answered (request states b.ctx) b.bit ∷ asked (after states b) bins

-- no bin ends the code
abbrev pub ends_code : Bin → Bool
ends_code b = is_terminate b.ctx && b.bit

unfoldable pub GoesOn : List Bin → Type 0
GoesOn [] = Unit {0}
GoesOn (b ∷ bins) = (ends_code b ≡ false) × GoesOn bins

-- the string of a macroblock, and whether it is the last of so many
abbrev pub ended_string : {R : Type 0} → (List R → R → List Bin) → ℕ → List R → R → List Bin
ended_string string n before r = string before r ++ at end_of_slice (length before + 1 == n) ∷ []

-- the bins of the first macroblocks of a slice of so many
unfoldable pub strings_of : {R : Type 0} → (List R → R → List Bin) → ℕ → List R → List Bin
strings_of string n records = sequence_string (ended_string string n) [] records

-- the bins of a slice
unfoldable pub slice_string : {R : Type 0} → (List R → R → List Bin) → List R → List Bin
slice_string string records = strings_of string (length records) records

-- no macroblock's string ends the code
abbrev pub AllGoOn : {R : Type 0} → (List R → R → List Bin) → List R → List R → Type 0
AllGoOn string before [] = Unit {0}
AllGoOn string before (r ∷ rest) = GoesOn (string before r) × AllGoOn string (before ++ r ∷ []) rest

-- the macroblocks of a slice, each with a string that its reader reads back and that doesn't end the code
pub record AreWritten {R : Type 0} (mb : List R → Syntax R) (string : List R → R → List Bin) (records : List R) : Type 0 where
  pub some : 0 < length records
  pub each : ReadsEach mb string [] records
  pub go_on : AllGoOn string [] records

-- the code of a slice, from these states on
abbrev pub slice_code : {R : Type 0} → (List R → R → List Bin) → List CtxState → List R → List Bool
slice_code string states records = arith_code (asked states (slice_string string records))

-- the decoder, at the start of the code, reads the slice's data as exactly the records, has taken exactly the code's bits then, whatever follows them, and leaves the states after the slice's bins
pub record IsReadBack {R : Type 0} (mb : List R → Syntax R) (string : List R → R → List Bin) (n : ℕ) (states : List CtxState) (records : List R) (rest : List Bool) : Type 0 where
  pub last : Reader
  pub reads : decoded_from (slice_data mb n []) states (slice_code string states records ++ rest) ≡ Some (record { value = records; states = after_all states (slice_string string records); decoder = last })
  pub ended : last.ended ≡ true
  pub left : last.left ≡ rest
  pub count : last.read ≡ length (slice_code string states records)
