-- Worked rows, computed from the definitions.
use Rattle.std.specs.Int.Count.{count_leading_zeros}
use Rattle.std.proofs.Common.{◌≡◌, [], ◌∷◌, replicate, refl}
use Rattle.spec_film.specs.declared.FilmHead.{FilmHead}
use Rattle.spec_film.specs.Films.{Planes}
use Rattle.spec_bits.specs.Bits.{digits, bits_of_bytes, bytes_of_bits}
use Rattle.spec_bits.specs.Golomb.{ue_bits, se_bits, trail_bits, align_bits}
use Rattle.spec_bits.specs.Fields.{fields_bits}
use Rattle.spec_headers.specs.HeadFields.{cropping_fields, usability_fields, sequence_fields, format_fields, place_fields, picture_fields, slice_fields, list_fields, marking_fields, init_fields, slice_head_bits, sequence_payload, picture_payload}
use Rattle.spec_bits.specs.Units.{escape, unit_bytes}
use Rattle.spec_stream.specs.Stored.{block_at, macroblock_samples, pcm_bits, pcm_slice_bits, macroblocks_of, stored_slice_bits, stored_picture, stored_pictures, stored_stream}

grey_head : FilmHead
grey_head = record { width = 16; height = 16; num = 25; den = 1 }

grey : Planes
grey = record { luma = replicate 256 128; cb = replicate 64 128; cr = replicate 64 128 }

-- one grey picture of 16 by 16 samples is stored in 417 bytes
grey_stream : stored_stream grey_head (grey ∷ []) ≡
    0x00 ∷ 0x00 ∷ 0x00 ∷ 0x01 ∷ 0x67 ∷ 0x64 ∷ 0x00 ∷ 0x33 ∷ 0xAC ∷ 0x1B ∷ 0x1A ∷ 0x9E ∷ 0x40
    ∷ 0x00 ∷ 0x00 ∷ 0x00 ∷ 0x01 ∷ 0x68 ∷ 0xCE ∷ 0x38 ∷ 0x30
    ∷ 0x00 ∷ 0x00 ∷ 0x01 ∷ 0x65 ∷ 0x88 ∷ 0x80 ∷ 0x00 ∷ 0x40 ∷ 0x00 ∷ 0x08 ∷ 0x68
    ∷ replicate 385 0x80
unfolding grey_head grey digits bits_of_bytes bytes_of_bits ue_bits se_bits trail_bits align_bits fields_bits cropping_fields usability_fields sequence_fields format_fields place_fields picture_fields slice_fields list_fields marking_fields init_fields slice_head_bits sequence_payload picture_payload escape unit_bytes block_at macroblock_samples pcm_bits pcm_slice_bits macroblocks_of stored_slice_bits stored_picture stored_pictures count_leading_zeros
grey_stream = refl
