-- Worked rows: heads and messages of small films, in their units.
use Rattle.std.proofs.Common.{◌≡◌, [], ◌∷◌, ◌++◌, refl}
use Rattle.std.specs.Prelude.{true, false, Some, None, replicate}
use Rattle.std.specs.Int.Count.{count_leading_zeros}
use Rattle.spec_headers.specs.declared.heads.SeqHead.{SeqHead}
use Rattle.spec_headers.specs.declared.heads.SliceHead.{SliceHead}
use Rattle.spec_bits.specs.declared.fields.Field.TheVariants.{U, Ue}
use Rattle.enc_tables.specs.declared.records.SliceKind.TheVariants.{I, P, B}
use Rattle.spec_bits.specs.Bits.{digits, bytes_of_bits}
use Rattle.spec_bits.specs.Golomb.{ue_bits, se_bits, trail_bits}
use Rattle.spec_bits.specs.Fields.{fields_bits}
use Rattle.spec_headers.specs.HeadFields.{cropping_fields, buffer_fields, usability_fields, sequence_fields, format_fields, place_fields, picture_fields, list_fields, marking_fields, init_fields, slice_fields, slice_head_bits, sequence_payload, picture_payload, payload_of}
use Rattle.spec_headers.specs.MessageFields.{message_fields}
use Rattle.spec_bits.specs.Units.{escape, unit_bytes}

stored_head : SeqHead
stored_head = record { width = 16; height = 16; level = 51; refs = 1; timing = None }

stored_sequence : unit_bytes true 3 7 (sequence_payload stored_head) ≡ 0 ∷ 0 ∷ 0 ∷ 1 ∷ 0x67 ∷ 0x64 ∷ 0 ∷ 0x33 ∷ 0xAC ∷ 0x1B ∷ 0x1A ∷ 0x9E ∷ 0x40 ∷ []
unfolding stored_head unit_bytes escape sequence_payload sequence_fields format_fields cropping_fields usability_fields fields_bits digits ue_bits se_bits trail_bits bytes_of_bits count_leading_zeros
stored_sequence = refl

stored_picture : unit_bytes true 3 8 (picture_payload false false) ≡ 0 ∷ 0 ∷ 0 ∷ 1 ∷ 0x68 ∷ 0xCE ∷ 0x38 ∷ 0x30 ∷ []
unfolding unit_bytes escape picture_payload picture_fields fields_bits digits ue_bits se_bits trail_bits bytes_of_bits count_leading_zeros
stored_picture = refl

stored_slice : SliceHead
stored_slice = record { first_mb = 0; kind = I; idr = true; frame_num = 0; idr_id = 0; poc = 0; refs0 = 0; refs1 = 0; moved = None; qp = 26; cabac = false }

-- the slice's header and the type of its first macroblock, I_PCM
stored_slice_begins : bytes_of_bits (slice_head_bits stored_slice ++ ue_bits 25 ++ replicate 2 false) ≡ 0x88 ∷ 0x80 ∷ 0 ∷ 0x40 ∷ 0 ∷ 0x08 ∷ 0x68 ∷ []
unfolding stored_slice slice_head_bits slice_fields place_fields list_fields marking_fields init_fields fields_bits digits ue_bits se_bits bytes_of_bits count_leading_zeros
stored_slice_begins = refl

coded_head : SeqHead
coded_head = record { width = 16; height = 16; level = 13; refs = 2; timing = Some (record { num = 25; den = 1; rate = 1000000; cpb = 1000000; reorder = true }) }

coded_sequence : unit_bytes true 3 7 (sequence_payload coded_head) ≡ 0 ∷ 0 ∷ 0 ∷ 1 ∷ 0x67 ∷ 0x64 ∷ 0 ∷ 0x0D ∷ 0xAC ∷ 0x1B ∷ 0x1A ∷ 0xDE ∷ 0x84 ∷ 0 ∷ 0 ∷ 3 ∷ 0 ∷ 4 ∷ 0 ∷ 0 ∷ 3 ∷ 0 ∷ 0xCB ∷ 0x80 ∷ 0 ∷ 3 ∷ 0xD0 ∷ 0x90 ∷ 0 ∷ 0x1E ∷ 0x84 ∷ 0x9F ∷ 0xDE ∷ 0xE0 ∷ 0x1E ∷ 0x24 ∷ 0x4A ∷ 0x70 ∷ []
unfolding coded_head unit_bytes escape sequence_payload sequence_fields format_fields cropping_fields usability_fields buffer_fields fields_bits digits ue_bits se_bits trail_bits bytes_of_bits count_leading_zeros
coded_sequence = refl

coded_picture : unit_bytes true 3 8 (picture_payload true true) ≡ 0 ∷ 0 ∷ 0 ∷ 1 ∷ 0x68 ∷ 0xEE ∷ 0x38 ∷ 0xB0 ∷ []
unfolding unit_bytes escape picture_payload picture_fields fields_bits digits ue_bits se_bits trail_bits bytes_of_bits count_leading_zeros
coded_picture = refl

coded_slice : SliceHead
coded_slice = record { first_mb = 0; kind = I; idr = true; frame_num = 0; idr_id = 0; poc = 0; refs0 = 0; refs1 = 0; moved = None; qp = 24; cabac = true }

coded_slice_begins : bytes_of_bits (slice_head_bits coded_slice) ≡ 0x88 ∷ 0x80 ∷ 0 ∷ 0x40 ∷ 0 ∷ 0x02 ∷ 0xFF ∷ []
unfolding coded_slice slice_head_bits slice_fields place_fields list_fields marking_fields init_fields fields_bits digits ue_bits se_bits bytes_of_bits count_leading_zeros
coded_slice_begins = refl

-- a P slice that follows the IDR picture
next_slice : SliceHead
next_slice = record { first_mb = 0; kind = P; idr = false; frame_num = 1; idr_id = 0; poc = 2; refs0 = 1; refs1 = 0; moved = None; qp = 26; cabac = true }

next_slice_begins : bytes_of_bits (slice_head_bits next_slice) ≡ 0x9A ∷ 0 ∷ 2 ∷ 0 ∷ 5 ∷ 0x9F ∷ []
unfolding next_slice slice_head_bits slice_fields place_fields list_fields marking_fields init_fields fields_bits digits ue_bits se_bits bytes_of_bits count_leading_zeros
next_slice_begins = refl

-- the first B slice of a group, between two references
between_slice : SliceHead
between_slice = record { first_mb = 0; kind = B; idr = false; frame_num = 2; idr_id = 0; poc = 2; refs0 = 1; refs1 = 1; moved = None; qp = 26; cabac = true }

between_slice_begins : bytes_of_bits (slice_head_bits between_slice) ≡ 0x9E ∷ 0 ∷ 4 ∷ 0 ∷ 5 ∷ 0xE7 ∷ []
unfolding between_slice slice_head_bits slice_fields place_fields list_fields marking_fields init_fields fields_bits digits ue_bits se_bits bytes_of_bits count_leading_zeros
between_slice_begins = refl

-- the messages of an IDR picture that is shown one place later than it is coded, and of the P picture behind it
first_messages : unit_bytes false 0 6 (payload_of (message_fields (Some 45000) 0 2)) ≡ 0 ∷ 0 ∷ 1 ∷ 6 ∷ 0 ∷ 9 ∷ 0x80 ∷ 0 ∷ 0x57 ∷ 0xE4 ∷ 0 ∷ 0 ∷ 3 ∷ 0 ∷ 0 ∷ 0x40 ∷ 1 ∷ 6 ∷ 0 ∷ 0 ∷ 3 ∷ 0 ∷ 0 ∷ 3 ∷ 0 ∷ 2 ∷ 0x80 ∷ []
unfolding message_fields unit_bytes escape fields_bits digits ue_bits trail_bits bytes_of_bits count_leading_zeros
first_messages = refl

next_messages : unit_bytes false 0 6 (payload_of (message_fields None 2 6)) ≡ 0 ∷ 0 ∷ 1 ∷ 6 ∷ 1 ∷ 6 ∷ 0 ∷ 0 ∷ 3 ∷ 2 ∷ 0 ∷ 0 ∷ 6 ∷ 0x80 ∷ []
unfolding message_fields unit_bytes escape fields_bits digits trail_bits bytes_of_bits
next_messages = refl

-- 18 samples are padded by 14
padded_sides : cropping_fields 18 18 ≡ U 1 1 ∷ Ue 0 ∷ Ue 7 ∷ Ue 0 ∷ Ue 7 ∷ []
unfolding cropping_fields
padded_sides = refl
