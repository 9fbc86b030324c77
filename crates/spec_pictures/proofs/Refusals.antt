-- Rows of streams that break one rule each give nothing, beside the like streams that keep it. A slice is its header alone here, which its
-- payload names.
use Rattle.std.proofs.Common.{ℕ, ◌≡◌, List, [], ◌∷◌, map, Bool, true, false, Some, None, refl}
use Rattle.std.specs.Prelude.{get_or, is_some, option_and_then}
use Rattle.std.specs.Int.Count.{count_leading_zeros}
use Rattle.enc_tables.specs.declared.records.SliceKind.{SliceKind}
use Rattle.enc_tables.specs.declared.records.SliceKind.TheVariants.{I, P, B}
use Rattle.spec_headers.specs.declared.heads.SliceHead.{SliceHead}
use Rattle.spec_bits.specs.Bits.{digits, bits_of_bytes, bytes_of_bits}
use Rattle.spec_bits.specs.Golomb.{ue_bits, se_bits, trail_bits}
use Rattle.spec_bits.specs.Fields.{fields_bits}
use Rattle.spec_headers.specs.HeadFields.{sequence_payload, sequence_fields, format_fields, cropping_fields, usability_fields, picture_payload, picture_fields}
use Rattle.spec_bits.specs.Units.{Nal}
use Rattle.spec_reading.specs.Reader.{u_behind, ue_behind, se, signed_at, fixed, flag}
use Rattle.spec_headers.specs.HeadReaders.{sequence, cropping, picture}
use Rattle.spec_decoder.specs.Sets.{read_set}
use Rattle.spec_decoder.specs.Output.{placed}
use Rattle.spec_film.specs.Cropping.{cropped_plane}
use Rattle.spec_lists.specs.References.{slid}
use Rattle.spec_lists.specs.Heads.{common}
use Rattle.spec_decoder.specs.Pictures.{Reading, Decoder, start, made, shown, joined, slice_step, with_slice, step, steps, all_shown}
use Rattle.spec_pictures.specs.Accesses.{picture_nal}

head : SliceKind → Bool → ℕ → ℕ → ℕ → SliceHead
head kind idr number idr_id poc = record { first_mb = 0; kind = kind; idr = idr; frame_num = number; idr_id = idr_id; poc = poc; refs0 = 0; refs1 = 0; moved = None; qp = 26; cabac = true }

toy : List SliceHead → Reading SliceHead
toy heads = record {
  slice = λ s flags idr held payload. elim payload [ [] ↦ None | n ∷ ns ↦ Some (get_or heads n (head I true 0 0 0)) ];
  head = λ h. h;
  count = λ h. 1;
  planes = λ s held slices. record { luma = []; cb = []; cr = [] };
  motion = λ slices. [];
}

-- a decoder that has read parameter sets
ready : Decoder SliceHead
ready = record start { sequence_set = Some (record { width = 16; height = 16; level = 51; refs = 2; timing = None }); picture_set = Some (true, true); sets_before = true }

-- the unit of the slice with the header at a place
slice : ℕ → ℕ → ℕ → Nal
slice kind ref_idc n = record { ref_idc = ref_idc; kind = kind; payload = n ∷ 1 ∷ [] }

sets : Nal
sets = picture_nal (true, true)

-- whether units give pictures
taken : List SliceHead → List Nal → Bool
taken heads units = is_some (option_and_then all_shown (steps (toy heads) (Some ready) units))

-- an IDR picture has frame_num 0 and picture order count 0 (clauses 7.4.3 and 8.2.1)
numbers : map (λ h. taken (h ∷ []) (slice 5 3 0 ∷ [])) (head I true 0 0 0 ∷ head I true 1 0 0 ∷ head I true 0 0 2 ∷ []) ≡ true ∷ false ∷ false ∷ []
unfolding head toy ready slice taken slid common made shown joined slice_step with_slice step steps placed cropped_plane
numbers = refl

-- of two IDR pictures, one after the other, each has its own idr_pic_id; with another picture between them they may have the same (clause 7.4.3)
identifiers : map (taken (head I true 0 0 0 ∷ head I true 0 1 0 ∷ head P false 1 0 2 ∷ [])) ((slice 5 3 0 ∷ slice 5 3 1 ∷ []) ∷ (slice 5 3 0 ∷ slice 5 3 0 ∷ []) ∷ (slice 5 3 0 ∷ slice 1 2 2 ∷ slice 5 3 0 ∷ []) ∷ []) ≡ true ∷ false ∷ true ∷ []
unfolding head toy ready slice taken slid common made shown joined slice_step with_slice step steps placed cropped_plane
identifiers = refl

-- parameter sets stand before an IDR picture: not before another, and not at the end
parameter_sets : map (taken (head I true 0 0 0 ∷ head I true 0 1 0 ∷ head P false 1 0 2 ∷ [])) ((slice 5 3 0 ∷ sets ∷ slice 5 3 1 ∷ []) ∷ (slice 5 3 0 ∷ sets ∷ slice 1 2 2 ∷ []) ∷ (slice 5 3 0 ∷ sets ∷ []) ∷ []) ≡ true ∷ false ∷ false ∷ []
unfolding head toy ready slice sets taken slid common made shown joined slice_step with_slice step steps placed cropped_plane read_set picture picture_payload picture_fields digits bits_of_bytes bytes_of_bits ue_bits se_bits trail_bits fields_bits u_behind ue_behind se signed_at fixed flag count_leading_zeros
parameter_sets = refl

-- no two pictures since an IDR picture have the same picture order count (clause 8.2.1)
orders : map (taken (head I true 0 0 0 ∷ head P false 1 0 2 ∷ head P false 2 0 4 ∷ head P false 2 0 2 ∷ head P false 1 0 0 ∷ [])) ((slice 5 3 0 ∷ slice 1 2 1 ∷ slice 1 2 2 ∷ []) ∷ (slice 5 3 0 ∷ slice 1 2 1 ∷ slice 1 2 3 ∷ []) ∷ (slice 5 3 0 ∷ slice 1 2 4 ∷ []) ∷ []) ≡ true ∷ false ∷ false ∷ []
unfolding head toy ready slice taken slid common made shown joined slice_step with_slice step steps placed cropped_plane
orders = refl

-- P pictures are references and B pictures aren't: nal_ref_idc 0 of a P slice, and another of a B slice (clause 7.4.1)
references : map (taken (head I true 0 0 0 ∷ head P false 1 0 4 ∷ head B false 2 0 2 ∷ [])) ((slice 5 3 0 ∷ slice 1 2 1 ∷ slice 1 0 2 ∷ []) ∷ (slice 5 3 0 ∷ slice 1 0 1 ∷ []) ∷ (slice 5 3 0 ∷ slice 1 2 1 ∷ slice 1 1 2 ∷ []) ∷ []) ≡ true ∷ false ∷ false ∷ []
unfolding head toy ready slice taken slid common made shown joined slice_step with_slice step steps placed cropped_plane
references = refl

-- pictures of fewer than 16 columns or rows
sizes : map (λ s. is_some (read_set sequence (sequence_payload s))) (record { width = 16; height = 18; level = 51; refs = 1; timing = None } ∷ record { width = 14; height = 16; level = 51; refs = 1; timing = None } ∷ record { width = 16; height = 2; level = 51; refs = 1; timing = None } ∷ []) ≡ true ∷ false ∷ false ∷ []
unfolding read_set sequence cropping sequence_payload sequence_fields format_fields cropping_fields usability_fields digits bits_of_bytes bytes_of_bits ue_bits trail_bits fields_bits u_behind ue_behind fixed flag count_leading_zeros
sizes = refl
