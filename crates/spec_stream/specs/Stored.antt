-- The bytes of a stored stream: for each picture a sequence parameter set, a picture parameter set and one IDR slice of I_PCM macroblocks.
use Rattle.std.specs.Prelude.{ℕ, ◌+◌, ◌*◌, ◌/◌, ◌%◌, true, false, Bool, List, [], ◌∷◌, ◌++◌, length, take, drop, map, None}
use Rattle.std.specs.List.{flat_map, range_with_len}
use Rattle.spec_basics.specs.Sizes.{in_macroblocks}
use Rattle.enc_tables.specs.declared.records.SliceKind.TheVariants.{I}
use Rattle.spec_film.specs.declared.FilmHead.{FilmHead}
use Rattle.spec_film.specs.Films.{Planes}
use Rattle.spec_headers.specs.declared.heads.SeqHead.{SeqHead}
use Rattle.spec_headers.specs.declared.heads.SliceHead.{SliceHead}
use Rattle.spec_bits.specs.Bits.{digits, bits_of_bytes, bytes_of_bits}
use Rattle.spec_bits.specs.Golomb.{ue_bits, align_bits}
use Rattle.spec_headers.specs.HeadFields.{sequence_payload, picture_payload, slice_head_bits}
use Rattle.spec_bits.specs.Units.{unit_bytes}

-- in a plane of rows of this width, the samples of `rows` rows from row y on, in each those of `columns` columns from column x on, in raster scan
unfoldable pub block_at : ℕ → ℕ → ℕ → ℕ → ℕ → List ℕ → List ℕ
block_at width columns rows x y samples = flat_map (λ j. take columns (drop ((y + j) * width + x) samples)) (range_with_len 0 rows)

-- the 384 samples of macroblock k of pictures that are this many macroblocks wide: luma, Cb, Cr (clauses 6.4.1 and 7.3.5)
unfoldable pub macroblock_samples : ℕ → Planes → ℕ → List ℕ
macroblock_samples across p k =
    block_at (16 * across) 16 16 (16 * (k % across)) (16 * (k / across)) p.luma
    ++ (block_at (8 * across) 8 8 (8 * (k % across)) (8 * (k / across)) p.cb
    ++ block_at (8 * across) 8 8 (8 * (k % across)) (8 * (k / across)) p.cr)

-- an I_PCM macroblock behind this many bits: mb_type 25, zeros to the byte, the samples (clause 7.3.5, table 7-11)
unfoldable pub pcm_bits : ℕ → List ℕ → List Bool
pcm_bits before samples = ue_bits 25 ++ (align_bits (before + length (ue_bits 25)) ++ bits_of_bytes samples)

-- macroblocks one after another, behind this many bits
unfoldable pub pcm_slice_bits : ℕ → List (List ℕ) → List Bool
pcm_slice_bits before [] = []
pcm_slice_bits before (m ∷ ms) = pcm_bits before m ++ pcm_slice_bits (before + length (pcm_bits before m)) ms

-- how many macroblocks a picture is wide and high
abbrev pub mbs_across : FilmHead → ℕ
mbs_across h = in_macroblocks h.width

abbrev pub mbs_down : FilmHead → ℕ
mbs_down h = in_macroblocks h.height

-- the macroblocks of a picture in raster scan
unfoldable pub macroblocks_of : ℕ → ℕ → Planes → List (List ℕ)
macroblocks_of across down p = map (macroblock_samples across p) (range_with_len 0 (across * down))

-- level 5.1, one reference frame, no usability information
abbrev pub stored_sequence : FilmHead → SeqHead
stored_sequence h = record { width = h.width; height = h.height; level = 51; refs = 1; timing = None }

-- the slice head of the picture of this number: each picture is an IDR picture
abbrev pub stored_slice_head : ℕ → SliceHead
stored_slice_head number = record { first_mb = 0; kind = I; idr = true; frame_num = 0; idr_id = number % 2; poc = 0; refs0 = 0; refs1 = 0; moved = None; qp = 26; cabac = false }

-- the slice: its head, the macroblocks, and the trailing bits 1000 0000
unfoldable pub stored_slice_bits : ℕ → ℕ → ℕ → Planes → List Bool
stored_slice_bits across down number p =
    let head = slice_head_bits (stored_slice_head number) in
    head ++ (pcm_slice_bits (length head) (macroblocks_of across down p) ++ digits 8 128)

-- the access unit of a picture (clause 7.4.1.2.3): nal_unit_type 7, 8 and 5, nal_ref_idc 3
unfoldable pub stored_picture : FilmHead → ℕ → Planes → List ℕ
stored_picture h number p =
    unit_bytes true 3 7 (sequence_payload (stored_sequence h))
    ++ (unit_bytes true 3 8 (picture_payload false false)
    ++ unit_bytes false 3 5 (bytes_of_bits (stored_slice_bits (mbs_across h) (mbs_down h) number p)))

-- the pictures from this number on
unfoldable pub stored_pictures : FilmHead → ℕ → List Planes → List ℕ
stored_pictures h number [] = []
stored_pictures h number (p ∷ ps) = stored_picture h number p ++ stored_pictures h (number + 1) ps

-- the stream that stores the pictures
abbrev pub stored_stream : FilmHead → List Planes → List ℕ
stored_stream h ps = stored_pictures h 0 ps
