-- Which slices there are: their headers, and the records that the syntax can give.
use Rattle.std.specs.Prelude.{◌≡◌, ℕ, ◌+◌, ◌-◌, ◌^◌, ◌<◌, ◌≤◌, Bool, true, false, List, [], ◌∷◌, ◌++◌, length}
use Rattle.enc_tables.specs.declared.records.MbRecord.{MbRecord}
use Rattle.enc_tables.specs.declared.records.SliceKind.{SliceKind}
use Rattle.enc_tables.specs.declared.records.SliceKind.TheVariants.{I, P, B}
use Rattle.spec_headers.specs.declared.heads.SliceHead.{SliceHead}
use Rattle.spec_headers.specs.Heads.{idr_head, other_head, OtherFits}
use Rattle.spec_intra.specs.Near.{macroblock_avail}
use Rattle.spec_partitions.specs.Near.{Near}
use Rattle.spec_partitions.specs.Records.{HasMotion}
use Rattle.spec_macroblock.specs.Records.{NearModes, IsRecord}
use Rattle.spec_slice_payload.specs.Allowed.{modes_allowed}
use Rattle.spec_slice_payload.specs.Layer.{Slice, Format, Colocated, near_of, view_of}

-- a header of a slice of an IDR picture in arithmetic code
pub record IsIdrHead (h : SliceHead) : Type 0 where
  pub same : h ≡ idr_head h.first_mb h.frame_num h.idr_id h.poc h.qp true
  pub first_mb_fits : h.first_mb < 2 ^ 32 - 1
  pub frame_num_fits : h.frame_num < 2 ^ 16
  pub idr_id_fits : h.idr_id ≤ 1
  pub poc_fits : h.poc < 2 ^ 16
  pub qp_fits : h.qp ≤ 51

-- a header of a P or B slice in arithmetic code
abbrev pub KindFits : SliceKind → ℕ → Type 0
KindFits I refs1 = ⊥
KindFits P refs1 = refs1 ≡ 0
KindFits B refs1 = (1 ≤ refs1) × (refs1 ≤ 4)

pub record IsOtherHead (h : SliceHead) : Type 0 where
  pub same : h ≡ other_head h.first_mb h.kind h.frame_num h.poc h.refs0 h.refs1 h.moved h.qp true
  pub kind_fits : KindFits h.kind h.refs1
  pub fits : OtherFits h.first_mb h.frame_num h.poc h.refs0 h.moved h.qp

abbrev pub IsHead : Bool → SliceHead → Type 0
IsHead true h = IsIdrHead h
IsHead false h = IsOtherHead h

-- a record that the syntax can give behind these
pub record IsNext (f : Format) (c : Colocated) (h : SliceHead) (before : List MbRecord) (mb : MbRecord) : Type 0 where
  pub written : IsRecord (near_of f h before) mb
  pub motion : HasMotion (view_of f c h before) mb
  pub allowed : modes_allowed (macroblock_avail f.across h.first_mb (h.first_mb + length before)) mb ≡ true

-- each record is one that the syntax can give behind those before it
abbrev pub AreRecords : Format → Colocated → SliceHead → List MbRecord → List MbRecord → Type 0
AreRecords f c h before [] = Unit {0}
AreRecords f c h before (mb ∷ rest) = IsNext f c h before mb × AreRecords f c h (before ++ mb ∷ []) rest

-- what IsRecord asks of the macroblocks around
pub record NeighboursHaveModes (near : Near) : Type 0 where
  pub left : NearModes near.left
  pub above : NearModes near.above

pub record IsSlice (f : Format) (c : Colocated) (idr : Bool) (s : Slice) : Type 0 where
  pub head_fits : IsHead idr s.head
  pub some : 0 < length s.records
  pub fits : s.head.first_mb + length s.records ≤ f.total
  pub each : AreRecords f c s.head [] s.records
