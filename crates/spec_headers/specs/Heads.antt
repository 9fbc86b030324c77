-- Slice headers made from what they say (ITU-T H.264, clause 7.4.3), and the number of their slice_type: what readers and writers share.
use Rattle.std.specs.Prelude.{ℕ, ◌-◌, ◌^◌, ◌<◌, ◌≤◌, Bool, true, false, Option, Some, None}
use Rattle.spec_headers.specs.declared.heads.SliceHead.{SliceHead}
use Rattle.enc_tables.specs.declared.records.SliceKind.{SliceKind}
use Rattle.enc_tables.specs.declared.records.SliceKind.TheVariants.{I, P, B}

-- slice_type: all slices of the picture are of this kind (table 7-6)
abbrev pub kind_number : SliceKind → ℕ
kind_number I = 7
kind_number P = 5
kind_number B = 6

-- the header of a slice of an IDR picture
unfoldable pub idr_head : ℕ → ℕ → ℕ → ℕ → ℕ → Bool → SliceHead
idr_head first_mb frame_num idr_id poc qp cabac =
    record { first_mb = first_mb; kind = I; idr = true; frame_num = frame_num; idr_id = idr_id; poc = poc; refs0 = 0; refs1 = 0; moved = None; qp = qp; cabac = cabac }

-- the header of a P or B slice
unfoldable pub other_head : ℕ → SliceKind → ℕ → ℕ → ℕ → ℕ → Option ℕ → ℕ → Bool → SliceHead
other_head first_mb kind frame_num poc refs0 refs1 moved qp cabac =
    record { first_mb = first_mb; kind = kind; idr = false; frame_num = frame_num; idr_id = 0; poc = poc; refs0 = refs0; refs1 = refs1; moved = moved; qp = qp; cabac = cabac }

-- the numbers that such a header has room for
abbrev pub MovedFits : Option ℕ → Type 0
MovedFits None = Unit {0}
MovedFits (Some n) = n < 2 ^ 32 - 1

pub record OtherFits (first_mb frame_num poc refs0 : ℕ) (moved : Option ℕ) (qp : ℕ) : Type 0 where
  pub first_mb_fits : first_mb < 2 ^ 32 - 1
  pub frame_num_fits : frame_num < 2 ^ 16
  pub poc_fits : poc < 2 ^ 16
  pub some : 1 ≤ refs0
  pub few : refs0 ≤ 4
  pub moved_fits : MovedFits moved
  pub qp_fits : qp ≤ 51
