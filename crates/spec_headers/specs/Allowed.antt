-- Which heads a stream may have.
use Rattle.std.specs.Prelude.{ℕ, ◌-◌, ◌%◌, ◌^◌, ◌<◌, ◌≤◌, ◌≡◌, true, IfSome, false, None}
use Rattle.spec_headers.specs.declared.heads.SeqHead.{SeqHead}
use Rattle.spec_headers.specs.declared.heads.Timing.{Timing}
use Rattle.spec_headers.specs.declared.heads.SliceHead.{SliceHead}
use Rattle.enc_tables.specs.declared.records.SliceKind.{SliceKind}
use Rattle.enc_tables.specs.declared.records.SliceKind.TheVariants.{I, P, B}

-- A clock that neither stands still nor passes its 32 bits (num_units_in_tick and time_scale, clause E.2.1), and a rate and a buffer in whole
-- units of the syntax, 64 bits a second and 16 bits (clause E.2.2)
pub record IsTiming (t : Timing) : Type 0 where
  pub num_from : 1 ≤ t.num
  pub num_to : t.num < 2 ^ 31
  pub den_from : 1 ≤ t.den
  pub den_to : t.den < 2 ^ 32
  pub rate_from : 64 ≤ t.rate
  pub rate_to : t.rate < 2 ^ 32
  pub rate_whole : t.rate % 64 ≡ 0
  pub cpb_from : 16 ≤ t.cpb
  pub cpb_to : t.cpb < 2 ^ 32
  pub cpb_whole : t.cpb % 16 ≡ 0

-- even sides from 16 on, of 4096 by 2304 samples at most, and one to four reference pictures
pub record IsSeqHead (h : SeqHead) : Type 0 where
  pub width_from : 16 ≤ h.width
  pub width_to : h.width ≤ 4096
  pub width_even : h.width % 2 ≡ 0
  pub height_from : 16 ≤ h.height
  pub height_to : h.height ≤ 2304
  pub height_even : h.height % 2 ≡ 0
  pub refs_from : 1 ≤ h.refs
  pub refs_to : h.refs ≤ 4
  pub timing : IfSome h.timing IsTiming

-- inter slices have entries in their lists
abbrev pub HasLists : SliceKind → ℕ → ℕ → Type 0
HasLists I refs0 refs1 = Unit {0}
HasLists P refs0 refs1 = 1 ≤ refs0
HasLists B refs0 refs1 = (1 ≤ refs0) × (1 ≤ refs1)

-- A header as pictures of a stream have it: an IDR picture has an I slice and refers to nothing; others have P or B slices that refer to up to
-- four pictures by a list
abbrev pub FitsKind : SliceKind → SliceHead → Type 0
FitsKind I h = (h.idr ≡ true) × (h.idr_id ≤ 1) × (h.refs0 ≡ 0) × (h.refs1 ≡ 0) × (h.moved ≡ None)
FitsKind P h = (h.idr ≡ false) × (h.idr_id ≡ 0) × (1 ≤ h.refs0) × (h.refs0 ≤ 4) × (h.refs1 ≡ 0)
FitsKind B h = (h.idr ≡ false) × (h.idr_id ≡ 0) × (1 ≤ h.refs0) × (h.refs0 ≤ 4) × (1 ≤ h.refs1) × (h.refs1 ≤ 4)

pub record IsStreamHead (h : SliceHead) : Type 0 where
  pub first_mb : h.first_mb < 2 ^ 32 - 1
  pub frame_num : h.frame_num < 2 ^ 16
  pub poc : h.poc < 2 ^ 16
  pub moved : IfSome h.moved (λ difference. difference < 2 ^ 16)
  pub kind : FitsKind h.kind h
  pub qp : h.qp ≤ 51

pub record IsSliceHead (h : SliceHead) : Type 0 where
  pub first_mb : h.first_mb < 2 ^ 32 - 1
  pub idr_id : h.idr_id ≤ 1
  pub intra : h.idr ≡ true → h.kind ≡ I
  pub lists : HasLists h.kind h.refs0 h.refs1
  pub qp : h.qp ≤ 51
