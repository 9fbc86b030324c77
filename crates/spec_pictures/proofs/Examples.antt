-- A worked stream: an IDR picture, a group of a P picture and two B pictures, a group of one P picture, and an IDR picture. A slice is its
-- header alone here, and shows a picture of one number, which is told by its payload; a B picture adds those of its lists.
use Rattle.std.proofs.Common.{ℕ, ◌+◌, ◌*◌, ◌≡◌, List, [], ◌∷◌, map, Bool, true, false, Option, Some, None, refl}
use Rattle.std.specs.Prelude.{get_or}
use Rattle.std.specs.List.{flat_map, sum_by}
use Rattle.std.specs.Int.Count.{count_leading_zeros}
use Rattle.enc_tables.specs.declared.records.SliceKind.{SliceKind}
use Rattle.enc_tables.specs.declared.records.SliceKind.TheVariants.{I, P, B}
use Rattle.spec_film.specs.Films.{Planes}
use Rattle.spec_headers.specs.declared.heads.SeqHead.{SeqHead}
use Rattle.spec_headers.specs.declared.heads.SliceHead.{SliceHead}
use Rattle.spec_bits.specs.Bits.{digits, bits_of_bytes, bytes_of_bits}
use Rattle.spec_bits.specs.Golomb.{ue_bits, se_bits, trail_bits}
use Rattle.spec_bits.specs.Fields.{fields_bits}
use Rattle.spec_headers.specs.HeadFields.{sequence_payload, sequence_fields, format_fields, cropping_fields, usability_fields, picture_payload, picture_fields}
use Rattle.spec_bits.specs.Units.{unit_bytes, escape, parted, unescape, units_of}
use Rattle.spec_reading.specs.Reader.{u_behind, ue_behind, se, signed_at, fixed, flag}
use Rattle.spec_headers.specs.HeadReaders.{sequence, cropping, picture}
use Rattle.spec_decoder.specs.Sets.{read_set}
use Rattle.spec_decoder.specs.Output.{placed}
use Rattle.spec_film.specs.Cropping.{cropped_plane}
use Rattle.spec_lists.specs.References.{Reference, slid}
use Rattle.spec_lists.specs.Heads.{common}
use Rattle.spec_lists.specs.Lists.{Lists, no_lists, nearer_first, nearest_first, lists_of}
use Rattle.spec_decoder.specs.Passed.{is_passed}
use Rattle.spec_decoder.specs.Pictures.{Reading, made, shown, joined, slice_step, with_slice, step, steps, decode_by}
use Rattle.spec_pictures.specs.Accesses.{Access, access_nals, access_bytes, accesses_bytes}

head : SliceKind → Bool → ℕ → ℕ → ℕ → ℕ → SliceHead
head kind idr number poc refs0 refs1 = record { first_mb = 0; kind = kind; idr = idr; frame_num = number; idr_id = 0; poc = poc; refs0 = refs0; refs1 = refs1; moved = None; qp = 26; cabac = true }

-- slices by their payloads: those of the worked stream, and others that break a rule
heads : ℕ → SliceHead
heads n =
    get_or
    (head I true 0 0 0 0 ∷ head P false 1 6 1 0 ∷ head B false 2 2 1 1 ∷ head B false 2 4 1 1 ∷ head P false 2 8 2 0 ∷ head I true 0 0 0 0 ∷ []) n (head I true 0 0 0 0)

pub record Slice : Type 0 where
  pub head : SliceHead
  pub number : ℕ

first_sample : Reference → ℕ
first_sample r = get_or r.planes.luma 0 0

lists : SliceHead → List Reference → Lists
lists h held = elim (lists_of h held) [ None ↦ no_lists | Some l ↦ l ]

toy : Reading Slice
toy = record {
  slice = λ s flags idr held payload. elim payload [ [] ↦ None | n ∷ ns ↦ Some (record { head = heads (n * 1); number = n }) ];
  head = λ s. s.head;
  count = λ s. 1;
  planes = λ s held slices. record { luma = flat_map (λ x. (100 * x.number + sum_by first_sample (lists x.head held).list0 + sum_by first_sample (lists x.head held).list1) ∷ []) slices; cb = []; cr = [] };
  motion = λ slices. [];
}

seq : SeqHead
seq = record { width = 16; height = 16; level = 51; refs = 2; timing = None }

access : ℕ → SliceKind → Bool → Access Slice
access n kind idr = record {
  step = record { display = 0; kind = kind; idr = idr; frame_num = 0; poc = 0 };
  before = [];
  slices = record { payload = n ∷ 1 ∷ []; slice = record { head = heads n; number = n } } ∷ [];
  behind = [];
}

shown_numbers : Option (List Planes) → List ℕ
shown_numbers None = []
shown_numbers (Some ps) = map (λ p. get_or p.luma 0 0) ps

row : shown_numbers (decode_by toy (accesses_bytes seq (true, true) (access 0 I true ∷ access 1 P false ∷ access 2 B false ∷ access 3 B false ∷ access 4 P false ∷ access 5 I true ∷ [])))
    ≡ 0 ∷ 300 ∷ 400 ∷ 100 ∷ 500 ∷ 500 ∷ []
unfolding head heads toy seq access first_sample lists shown_numbers accesses_bytes access_bytes access_nals unit_bytes escape parted unescape units_of digits bits_of_bytes bytes_of_bits ue_bits se_bits trail_bits fields_bits
    sequence_payload sequence_fields format_fields cropping_fields usability_fields picture_payload picture_fields u_behind ue_behind se signed_at fixed flag sequence cropping picture read_set placed cropped_plane slid common nearer_first
    nearest_first lists_of is_passed made shown joined slice_step with_slice step steps decode_by count_leading_zeros
row = refl
