-- slice_layer_without_partitioning_rbsp in arithmetic code as it is read: the slice's header, its data and its trailing bits (ITU-T H.264,
-- clauses 7.3.2.8, 7.3.2.10 and 7.3.4).
use Rattle.std.specs.Prelude.{ℕ, ◌-◌, ◌%◌, Bool, true, false, not, ◌&&◌, nat_le, List, [], length, take, drop, get_or, Option, Some, None, option_map, option_and_then, if◌then◌else◌}
use Rattle.std.specs.List.{list_all}
use Rattle.enc_tables.specs.declared.records.MbRecord.{MbRecord}
use Rattle.spec_headers.specs.declared.heads.SliceHead.{SliceHead}
use Rattle.spec_bits.specs.Bits.{bits_of_bytes}
use Rattle.spec_cabac.specs.Decoder.{Reader}
use Rattle.spec_macroblock.specs.Macroblock.{macroblock}
use Rattle.spec_reading.specs.Reader.{read}
use Rattle.spec_headers.specs.HeadReaders.{slice_head}
use Rattle.spec_lists.specs.References.{Reference}
use Rattle.spec_lists.specs.Lists.{lists_of}
use Rattle.spec_lists.specs.Colocated.{colocated_at}
use Rattle.spec_slice_data.specs.Decoding.{decoded_from}
use Rattle.spec_slice_data.specs.Slice.{slice_data}
use Rattle.spec_syntax.specs.Syntax.{Syntax}
use Rattle.spec_slice_payload.specs.Allowed.{all_allowed}
use Rattle.spec_slice_payload.specs.Layer.{Slice, Format, Colocated, view_of, states_of}

abbrev pub macroblock_after : Format → Colocated → SliceHead → List MbRecord → Syntax MbRecord
macroblock_after f c h before = macroblock (view_of f c h before)

-- The bits behind the ones to the next byte; nothing where one of them is zero (cabac_alignment_one_bit, clause 7.3.4). The payload is whole
-- bytes, so the bits to the next byte are as many as the bits that are left are more than whole bytes.
abbrev pub aligned : List Bool → Option (List Bool)
aligned left = if list_all (λ b. b) (take (length left % 8) left) then Some (drop (length left % 8) left) else None

-- rbsp_slice_trailing_bits: the stop bit is the last bit that the arithmetic decoder has taken (clause 9.3.1.2), and behind it
-- are zeros to the end, which is in the same byte
abbrev pub is_stopped : List Bool → Reader → Bool
is_stopped bits r = get_or bits (r.read - 1) false && list_all not r.left && nat_le (length r.left) 7

-- slice_data, with the trailing bits: at most as many macroblocks as the picture has from the slice's first one on. Nothing where the bits
-- end elsewhere, and where an intra macroblock has a mode whose neighbours aren't available.
unfoldable pub read_data : Format → Colocated → SliceHead → List Bool → Option (List MbRecord)
read_data f c h bits =
    option_and_then (λ d. if is_stopped bits d.decoder && all_allowed f.across h.first_mb h.first_mb d.value then Some d.value else None)
    (decoded_from (slice_data (macroblock_after f c h) (f.total - h.first_mb) []) (states_of h) bits)

-- with the motion of the co-located picture, the macroblocks
abbrev pub with_data : Format → Colocated → SliceHead → List Bool → Option Slice
with_data f c head left = option_map (λ records. record { head = head; records = records }) (option_and_then (read_data f c head) (aligned left))

-- the lists by the header, and then the data
abbrev pub with_head : Format → List Reference → SliceHead × List Bool → Option Slice
with_head f held (head, left) = option_and_then (λ lists. with_data f (colocated_at lists) head left) (lists_of head held)

-- a slice from the bytes of its payload, by whether its picture is an IDR picture, and with the held references in view
unfoldable pub read_layer : Format → Bool → List Reference → List ℕ → Option Slice
read_layer f idr held payload = option_and_then (with_head f held) (read (slice_head idr true) (bits_of_bytes payload))
