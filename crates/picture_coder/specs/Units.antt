-- The units of slices.
use Rattle.std.specs.Prelude.{ℕ, Bool, false, List, [], ◌∷◌, ◌++◌, map}
use Rattle.enc_tables.specs.declared.records.PlanStep.{PlanStep}
use Rattle.spec_bits.specs.Bits.{bits_of_bytes}
use Rattle.spec_bits.specs.Units.{written}
use Rattle.spec_decoder.specs.Macroblocks.{Slice as Read}
use Rattle.spec_slice_payload.specs.Layer.{Slice}
use Rattle.spec_pictures.specs.Coded.{CodedSlice}
use Rattle.spec_pictures.specs.Accesses.{slice_nal}
use Rattle.spec_encoding.specs.Encoding.{with_payload}
use Rattle.spec_film_coder.specs.Pictures.{Shape, format}

-- the units of the slices of a picture (clauses 7.3.1 and B.1.1); the first has a start code of four bytes where it is `long`
unfoldable pub units_of : Bool → PlanStep → List (CodedSlice Read) → List ℕ
units_of long st [] = []
units_of long st (c ∷ cs) = written (long, slice_nal st.idr st.kind c) ++ units_of false st cs

-- their bits
abbrev pub bits_for : Shape → Bool → PlanStep → List Slice → List Bool
bits_for s long st slices = bits_of_bytes (units_of long st (map (with_payload (format s)) slices))
