-- The bins of the first macroblocks of a slice.
use Rattle.std.specs.Prelude.{◌≡◌, ℕ, ◌==◌, false, if◌then◌else◌, List, [], ◌∷◌, ◌++◌, length}
use Rattle.enc_tables.specs.declared.records.MbRecord.{MbRecord}
use Rattle.spec_headers.specs.declared.heads.SliceHead.{SliceHead}
use Rattle.spec_partitions.specs.Near.{Near, SliceFacts, near_in, last_qp, last_has_delta}
use Rattle.spec_macroblock.specs.Strings.{macroblock_string}
use Rattle.spec_syntax.specs.declared.Bin.{Bin}
use Rattle.spec_syntax.specs.Syntax.{at}
use Rattle.spec_syntax.specs.Elements.{end_of_slice}
use Rattle.spec_slice_data.specs.Coding.{strings_of}
use Rattle.bin_writer.specs.Coding.{Coding, Codes}
use Rattle.slice_coder.specs.declared.place.Place.{Place}

-- what the slice says to all its macroblocks
abbrev pub facts_at : Place → SliceHead → SliceFacts
facts_at place h = record {
  kind = h.kind;
  width = place.across;
  first = h.first_mb;
  qp = h.qp;
  t8x8 = place.t8x8;
  refs0 = h.refs0;
  refs1 = h.refs1;
}

-- what is known behind these macroblocks of the slice
abbrev pub near_at : Place → SliceHead → List MbRecord → Near
near_at place h before = near_in (facts_at place h) before

-- the bins of a macroblock behind these
abbrev pub string_at : Place → SliceHead → List MbRecord → MbRecord → List Bin
string_at place h before mb = macroblock_string (near_at place h before) mb

-- a macroblock has the QP of the ones before it, of which none changed it
pub record Follows (h : SliceHead) (before : List MbRecord) (mb : MbRecord) : Type 0 where
  pub qp : last_qp h.qp before ≡ mb.qp
  pub no_delta : last_has_delta false h.qp before ≡ false

-- end_of_slice_flag of the macroblock before macroblock n, if there is one
abbrev pub flag_before : ℕ → List Bin
flag_before n = if n == 0 then [] else at end_of_slice false ∷ []

-- end_of_slice_flag of the last of n macroblocks, in a slice of so many
abbrev pub flag_behind : ℕ → ℕ → List Bin
flag_behind count n = if n == 0 then [] else at end_of_slice (n == count) ∷ []

-- the bins of these first macroblocks of a slice of so many, but for the flag behind the last of them, lead from start to now
pub record Opened (string : List MbRecord → MbRecord → List Bin) (count : ℕ) (records : List MbRecord) (start now : Coding) : Type 0 where
  pub bins : List Bin
  pub codes : Codes start bins now
  pub so : bins ++ flag_behind count (length records) ≡ strings_of string count records
