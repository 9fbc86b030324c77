-- slice_layer_without_partitioning_rbsp in arithmetic code as it is written (ITU-T H.264, clauses 7.3.2.8, 7.3.2.10 and 7.3.4).
use Rattle.std.specs.Prelude.{ℕ, Bool, List, ◌++◌, length}
use Rattle.enc_tables.specs.declared.records.MbRecord.{MbRecord}
use Rattle.spec_headers.specs.declared.heads.SliceHead.{SliceHead}
use Rattle.spec_bits.specs.Bits.{bytes_of_bits}
use Rattle.spec_bits.specs.Golomb.{align_bits}
use Rattle.spec_headers.specs.HeadFields.{slice_head_bits}
use Rattle.spec_macroblock.specs.Strings.{macroblock_string}
use Rattle.spec_slice_data.specs.Coding.{slice_code}
use Rattle.spec_syntax.specs.declared.Bin.{Bin}
use Rattle.spec_slice_payload.specs.Layer.{Slice, Format, near_of, states_of}

abbrev pub string_after : Format → SliceHead → List MbRecord → MbRecord → List Bin
string_after f h before mb = macroblock_string (near_of f h before) mb

-- the header with ones to the byte, and the code of the macroblocks, whose last bit is the stop bit
unfoldable pub layer_bits : Format → Slice → List Bool
layer_bits f s = slice_head_bits s.head ++ slice_code (string_after f s.head) (states_of s.head) s.records

-- with zeros to the byte
unfoldable pub layer_payload : Format → Slice → List ℕ
layer_payload f s = let bits = layer_bits f s in bytes_of_bits (bits ++ align_bits (length bits))
