-- Reading a slice of I_PCM macroblocks.
use Rattle.std.specs.Prelude.{ℕ, zero, suc, ◌%◌, ◌==◌, nat_le, Bool, true, false, not, List, [], ◌∷◌, length, take, drop, Option, Some, None, option_and_then, if◌then◌else◌}
use Rattle.std.specs.List.{list_all}
use Rattle.std.specs.Option.{option_map}
use Rattle.spec_headers.specs.declared.heads.SliceHead.{SliceHead}
use Rattle.spec_bits.specs.Bits.{bits_of_bytes, bytes_of_bits}
use Rattle.spec_reading.specs.Reader.{read, ue}
use Rattle.spec_headers.specs.HeadReaders.{idr_slice}

-- The payload is whole bytes, so the bits to the next byte are as many as the bits that are left are more than whole bytes.
abbrev pub bits_to_byte : List Bool → ℕ
bits_to_byte left = length left % 8

-- the bits behind zeros to the byte; nothing where one of them isn't zero (pcm_alignment_zero_bit, clause 7.3.5)
abbrev pub aligned : List Bool → Option (List Bool)
aligned left = if list_all not (take (bits_to_byte left) left) then Some (drop (bits_to_byte left) left) else None

-- 256 luma, 64 Cb and 64 Cr samples of 8 bits
abbrev pub pcm_samples : List Bool → Option (List ℕ × List Bool)
pcm_samples left = if nat_le 3072 (length left) then Some (bytes_of_bits (take 3072 left), drop 3072 left) else None

-- mb_type 25 is I_PCM (table 7-11); no other type is read
abbrev pub pcm_typed : ℕ × List Bool → Option (List Bool)
pcm_typed (kind, left) = if kind == 25 then Some left else None

-- a macroblock, and the bits behind it (clause 7.3.5)
unfoldable pub pcm_macroblock : List Bool → Option (List ℕ × List Bool)
pcm_macroblock left = option_and_then pcm_samples (option_and_then aligned (option_and_then pcm_typed (read ue left)))

-- one byte 1000 0000: the slice's trailing bits (clause 7.3.2.11)
abbrev pub is_trailing : List Bool → Bool
is_trailing (true ∷ false ∷ false ∷ false ∷ false ∷ false ∷ false ∷ false ∷ []) = true
is_trailing left = false

-- the macroblocks up to the trailing bits; the number bounds how many are looked for
unfoldable pub pcm_macroblocks : ℕ → List Bool → Option (List (List ℕ))
pcm_macroblocks zero left = None
pcm_macroblocks (suc most) left =
    if is_trailing left then Some []
    else option_and_then (λ m. option_map (λ ms. m.0 ∷ ms) (pcm_macroblocks most m.1)) (pcm_macroblock left)

abbrev pub with_macroblocks : SliceHead × List Bool → Option (SliceHead × List (List ℕ))
with_macroblocks (head, left) = option_map (λ ms. (head, ms)) (pcm_macroblocks (length left) left)

-- a slice of an IDR picture from the bytes of its payload, where entropy_coding_mode_flag is 0: its header, and the samples of its macroblocks in order
unfoldable pub read_pcm_slice : List ℕ → Option (SliceHead × List (List ℕ))
read_pcm_slice payload = option_and_then with_macroblocks (read (idr_slice false) (bits_of_bytes payload))
