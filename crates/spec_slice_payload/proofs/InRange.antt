-- The references of all records of a slice are below the lengths of its lists, and no vector is longer than those that are written.
use Rattle.std.proofs.Common.{◌≡◌, ℕ, ◌<◌, true, List, [], length, get_or, Option, Some, None}
use Rattle.enc_tables.specs.declared.records.MbRecord.{MbRecord}
use Rattle.spec_headers.specs.declared.heads.SliceHead.{SliceHead}
use Rattle.enc_tables.specs.Kinds.{has_motion}
use Rattle.spec_partitions.specs.Near.{near_in}
use Rattle.enc_tables.specs.Records.{no_record}
use Rattle.spec_partitions.specs.InRange.{AllFit, NearFits, ViewFits, HasEntries}
use Rattle.spec_partitions.specs.Small.{AllSmall, NearSmall, ViewSmall}
use Rattle.spec_partitions.proofs.SmallVectors.{vectors_small}
use Rattle.spec_macroblock.proofs.InRange.{references_fit}
use Rattle.spec_slice_payload.specs.Layer.{Format, Colocated, view_of}
use Rattle.spec_slice_payload.specs.Slices.{IsNext, AreRecords}
use Rattle.spec_slice_payload.proofs.Carried.{IfThere, Around, all_have}

-- ---- references

abbrev Fits : ℕ → ℕ → MbRecord → Type 0
Fits a b r = AllFit a b r.motion

near_fits : (a b : ℕ) (n : Option MbRecord) → IfThere (Fits a b) n → NearFits a b n
unfolding IfThere NearFits
near_fits a b None h = tt
near_fits a b (Some n) h = h

next_fits : (f : Format) (c : Colocated) (h : SliceHead) (before : List MbRecord) (mb : MbRecord) → HasEntries h.kind h.refs0 h.refs1 → Around (Fits h.refs0 h.refs1) f c h before → IsNext f c h before mb → Fits h.refs0 h.refs1 mb
unfolding near_in
next_fits f c h before mb entries a n =
    let there : ViewFits (view_of f c h before) = record {
      left = near_fits h.refs0 h.refs1 _ a.left;
      above = near_fits h.refs0 h.refs1 _ a.above;
      above_right = near_fits h.refs0 h.refs1 _ a.above_right;
      above_left = near_fits h.refs0 h.refs1 _ a.above_left;
    } in
    references_fit (view_of f c h before) mb n.written n.motion there entries

abbrev Any : MbRecord → Type 0
Any r = Unit {0}

-- of every block of every macroblock of a slice
pub all_fit : (f : Format) (c : Colocated) (h : SliceHead) (records : List MbRecord) → 0 < f.across → HasEntries h.kind h.refs0 h.refs1 → AreRecords f c h [] records → (i : ℕ) → i < length records → AllFit h.refs0 h.refs1 (get_or records i no_record).motion
all_fit f c h records some entries k =
    (all_have Any (Fits h.refs0 h.refs1) f c h records some (λ before mb a n own. next_fits f c h before mb entries a n) (record { at = λ i lt. tt }) k).at

-- ---- vectors

abbrev pub IsSmall : ℕ → MbRecord → Type 0
IsSmall most r = AllSmall most r.motion

-- where vectors are written
abbrev pub WritesSmall : ℕ → MbRecord → Type 0
WritesSmall most r = has_motion r.kind ≡ true → AllSmall most r.motion

near_small : (most : ℕ) (n : Option MbRecord) → IfThere (IsSmall most) n → NearSmall most n
unfolding IfThere NearSmall
near_small most None h = tt
near_small most (Some n) h = h

pub view_small : (most : ℕ) (f : Format) (c : Colocated) (h : SliceHead) (before : List MbRecord) → Around (IsSmall most) f c h before → ViewSmall most (view_of f c h before)
view_small most f c h before a = record {
  left = near_small most _ a.left;
  above = near_small most _ a.above;
  above_right = near_small most _ a.above_right;
  above_left = near_small most _ a.above_left;
}

next_small : (most : ℕ) (f : Format) (c : Colocated) (h : SliceHead) (before : List MbRecord) (mb : MbRecord) → Around (IsSmall most) f c h before → IsNext f c h before mb → WritesSmall most mb → IsSmall most mb
next_small most f c h before mb a n own = vectors_small most (view_of f c h before) mb n.motion (view_small most f c h before a) own

pub all_small : (most : ℕ) (f : Format) (c : Colocated) (h : SliceHead) (records : List MbRecord) → 0 < f.across → AreRecords f c h [] records
    → ((i : ℕ) → i < length records → has_motion (get_or records i no_record).kind ≡ true → AllSmall most (get_or records i no_record).motion)
    → (i : ℕ) → i < length records → AllSmall most (get_or records i no_record).motion
all_small most f c h records some k own = (all_have (WritesSmall most) (IsSmall most) f c h records some (λ before mb a n w. next_small most f c h before mb a n w) (record { at = own }) k).at
