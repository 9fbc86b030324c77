-- Macroblocks and slices as a decoder reads them (ITU-T H.264, clauses 7.3.2.8, 7.3.4 and 7.3.5).
use Rattle.std.specs.Prelude.{ℕ, ◌*◌, Bool, List, map, Option, None, option_map, if◌then◌else◌}
use Rattle.enc_tables.specs.declared.records.MbKind.TheVariants as kinds
use Rattle.enc_tables.specs.declared.records.MbRecord.{MbRecord}
use Rattle.enc_tables.specs.Records.{blank_record}
use Rattle.spec_headers.specs.declared.heads.SeqHead.{SeqHead}
use Rattle.spec_headers.specs.declared.heads.SliceHead.{SliceHead}
use Rattle.spec_decoder.specs.Pcm.{read_pcm_slice}
use Rattle.spec_lists.specs.References.{Reference}
use Rattle.spec_slice_payload.specs.Layer as layer
use Rattle.spec_slice_payload.specs.Layer.{Format}
use Rattle.spec_slice_payload.specs.Reading.{read_layer}
use Rattle.spec_decoder.specs.Sets.{across_of, down_of}

-- what the parameter sets tell a slice
abbrev pub format_of : SeqHead → Bool → Format
format_of s t8x8 = record { across = across_of s; total = across_of s * down_of s; t8x8 = t8x8 }

-- an I_PCM macroblock has its 256 luma, 64 Cb and 64 Cr samples, any other macroblock what its record tells
pub data Macroblock : Type 0 where
  pcm : List ℕ → Macroblock
  coded : MbRecord → Macroblock

abbrev pub record_of : Macroblock → MbRecord
record_of (pcm samples) = blank_record kinds.Pcm 0
record_of (coded mb) = mb

pub record Slice : Type 0 where
  pub head : SliceHead
  -- its macroblocks in order
  pub macroblocks : List Macroblock

-- a slice in arithmetic code
abbrev pub of_records : layer.Slice → Slice
of_records s = record { head = s.head; macroblocks = map coded s.records }

-- a slice of I_PCM macroblocks
abbrev pub of_samples : SliceHead × List (List ℕ) → Slice
of_samples (head, ms) = record { head = head; macroblocks = map pcm ms }

-- A slice from the bytes of its payload, by the parameter sets, by whether its picture is an IDR picture, and with the held references in
-- view: where entropy_coding_mode_flag is 1, in arithmetic code; where it is 0, of I_PCM macroblocks of an IDR picture, and no others are
-- read then.
unfoldable pub read_slice : SeqHead → Bool × Bool → Bool → List Reference → List ℕ → Option Slice
read_slice s flags idr held payload =
    if flags.0 then option_map of_records (read_layer (format_of s flags.1) idr held payload)
    else if idr then option_map of_samples (read_pcm_slice payload)
    else None
