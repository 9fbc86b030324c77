-- Parameter sets in their payloads (ITU-T H.264, clauses 7.3.2.1 and 7.3.2.2), and how large their pictures are in macroblocks.
use Rattle.std.specs.Prelude.{ℕ, ◌&&◌, nat_le, Bool, false, not, List, [], ◌∷◌, length, Option, Some, None, option_and_then, if◌then◌else◌}
use Rattle.std.specs.List.{list_all}
use Rattle.spec_basics.specs.Sizes.{in_macroblocks}
use Rattle.spec_headers.specs.declared.heads.SeqHead.{SeqHead}
use Rattle.spec_bits.specs.Bits.{bits_of_bytes}
use Rattle.spec_reading.specs.Reader.{Reader, read}

-- rbsp_trailing_bits of a payload of whole bytes: a 1, and zeros to its end, which is near (clause 7.3.2.11)
abbrev pub is_trail : List Bool → Bool
is_trail [] = false
is_trail (b ∷ bits) = b && list_all not bits && nat_le (length bits) 7

abbrev pub ended : {A : Type 0} → A × List Bool → Option A
ended (value, left) = if is_trail left then Some value else None

-- a parameter set: its fields, and nothing behind them but the trailing bits
unfoldable pub read_set : {A : Type 0} → Reader A → List ℕ → Option A
read_set fields payload = option_and_then ended (read fields (bits_of_bytes payload))

-- how many macroblocks a picture is wide and high
abbrev pub across_of : SeqHead → ℕ
across_of s = in_macroblocks s.width

abbrev pub down_of : SeqHead → ℕ
down_of s = in_macroblocks s.height
