-- What the headers of slices must say (ITU-T H.264, clause 7.4.3).
use Rattle.std.specs.Prelude.{ℕ, ◌+◌, ◌%◌, ◌==◌, ◌&&◌, nat_lt, nat_eq, not, Bool, true, false, List, [], ◌∷◌, Option, Some, None, if◌then◌else◌}
use Rattle.std.specs.Cmp.Lexicographic.{pointwise}
use Rattle.enc_tables.specs.declared.records.SliceKind.{SliceKind}
use Rattle.enc_tables.specs.declared.records.SliceKind.TheVariants.{I, P, B}
use Rattle.spec_headers.specs.declared.heads.SliceHead.{SliceHead}
use Rattle.spec_bits.specs.Bits.{digit}
use Rattle.spec_headers.specs.Heads.{kind_number}
use Rattle.spec_lists.specs.References.{Reference}

-- whether later pictures may refer to pictures of this kind: here to all but B pictures
abbrev pub is_referred : SliceKind → Bool
is_referred I = true
is_referred P = true
is_referred B = false

-- nal_ref_idc: 0 of pictures that aren't references, 3 of other IDR pictures, 2 of others
abbrev pub ref_idc_of : Bool → SliceKind → ℕ
ref_idc_of true I = 3
ref_idc_of true P = 3
ref_idc_of true B = 0
ref_idc_of false I = 2
ref_idc_of false P = 2
ref_idc_of false B = 0

abbrev pub fits_ref_idc : SliceKind → ℕ → Bool
fits_ref_idc I ref_idc = nat_lt 0 ref_idc
fits_ref_idc P ref_idc = nat_lt 0 ref_idc
fits_ref_idc B ref_idc = ref_idc == 0

-- the frame_num of the newest reference
abbrev pub newest_number : List Reference → ℕ
newest_number [] = 0
newest_number (r ∷ rs) = r.frame_num

-- frame_num is 0 of an IDR picture, and of any other one more than that of the newest reference, modulo MaxFrameNum: there are no gaps.
-- PicOrderCnt is pic_order_cnt_lsb, since all of them are below half of MaxPicOrderCntLsb (clause 8.2.1.1); it is 0 of an IDR picture.
abbrev pub is_numbered : Bool → ℕ → ℕ → List Reference → Bool
is_numbered idr frame_num poc held =
    if idr then (frame_num == 0) && (poc == 0) else (frame_num == (newest_number held + 1) % 65536) && nat_lt poc 32768

-- the idr_pic_id of a picture, where it is an IDR picture
abbrev pub idr_id_of : Bool → ℕ → Option ℕ
idr_id_of true idr_id = Some idr_id
idr_id_of false idr_id = None

-- whether the idr_pic_id of a picture, where it is an IDR picture, isn't that of the picture before, where this is one too
abbrev pub is_other : Option ℕ → Option ℕ → Bool
is_other None before = true
is_other (Some idr_id) None = true
is_other (Some idr_id) (Some before) = not (before == idr_id)

-- one number more where there is one
abbrev pub number_or_none : Option ℕ → ℕ
number_or_none None = 0
number_or_none (Some n) = n + 1

-- what the headers of all slices of a picture have in common: all but first_mb_in_slice and slice_qp_delta
unfoldable pub common : SliceHead → List ℕ
common h =
    kind_number h.kind ∷ digit h.idr ∷ h.frame_num ∷ h.idr_id ∷ h.poc ∷ h.refs0 ∷ h.refs1 ∷ number_or_none h.moved ∷ digit h.cabac ∷ []

abbrev pub agree : SliceHead → SliceHead → Bool
agree g h = pointwise nat_eq (common g) (common h)
