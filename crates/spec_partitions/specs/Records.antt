-- Which records of partitions the syntax can give, and what their motion is (ITU-T H.264, clauses 7.4.5, 7.4.5.1 and 8.4.1).
use Rattle.std.specs.Prelude.{◌≡◌, ℕ, ◌<◌, Bool, true, false, not, ◌&&◌, ◌||◌, ℤ, pos, negsuc}
use Rattle.enc_tables.specs.declared.records.MbKind.{MbKind}
use Rattle.enc_tables.specs.declared.records.MbRecord.{MbRecord}
use Rattle.enc_tables.specs.declared.records.SliceKind.{SliceKind}
use Rattle.enc_tables.specs.Kinds.{is_nxn, is_16x16, is_skipped, is_direct, has_motion}
use Rattle.enc_tables.specs.Records.{zero_vector, is_used}
use Rattle.spec_syntax.specs.Inter.{is_p, is_b, IsDifference}
use Rattle.spec_partitions.specs.Near.{Near, View}
use Rattle.spec_partitions.specs.Partitions.{shape_of, part_count, part_ref, part_mvd, written_of}
use Rattle.spec_partitions.specs.Derived.{motion_by}

-- the macroblocks of slices of a kind that are read
abbrev pub is_coded_intra : MbKind → Bool
is_coded_intra kind = is_nxn kind || is_16x16 kind

abbrev pub is_in : SliceKind → MbKind → Bool
is_in SliceKind.I kind = is_coded_intra kind
is_in SliceKind.P kind = is_coded_intra kind || is_p kind || (is_skipped kind && not (is_direct kind))
is_in SliceKind.B kind = is_coded_intra kind || is_b kind || (is_skipped kind && is_direct kind)

-- a reference is below the number of entries, of which there are at most four; -1 is none
abbrev pub RefFits : ℕ → ℤ → Type 0
RefFits entries (pos index) = (index < entries) × (index < 4)
RefFits entries (negsuc n) = n ≡ 0

-- partitions of P macroblocks use list 0 alone, those of B macroblocks one list or both
abbrev pub UsesFit : SliceKind → Bool → Bool → Type 0
UsesFit SliceKind.I first second = ⊥
UsesFit SliceKind.P first second = (first ≡ true) × (second ≡ false)
UsesFit SliceKind.B first second = (first || second) ≡ true

pub record PartFits (near : Near) (mb : MbRecord) (part : ℕ) : Type 0 where
  pub first : RefFits near.refs0 (part_ref mb 0 part)
  pub second : RefFits near.refs1 (part_ref mb 1 part)
  pub uses : UsesFit near.kind (is_used (part_ref mb 0 part)) (is_used (part_ref mb 1 part))

-- vector differences are written where the list is used
pub record MvdFits (mb : MbRecord) (list : ℕ) (part : ℕ) : Type 0 where
  pub across : IsDifference (part_mvd mb list part).x
  pub down : IsDifference (part_mvd mb list part).y
  pub blank : is_used (part_ref mb list part) ≡ false → part_mvd mb list part ≡ zero_vector

-- what is written of all partitions
pub record WritesParts (near : Near) (mb : MbRecord) : Type 0 where
  pub parts_fit : has_motion mb.kind ≡ true → (part : ℕ) → part < part_count (shape_of mb.kind) → PartFits near mb part
  pub mvds_fit : has_motion mb.kind ≡ true → (list : ℕ) → list < 2 → (part : ℕ) → part < part_count (shape_of mb.kind) → MvdFits mb list part

-- motion is what follows from what is written and from the blocks around
pub record HasMotion (view : View) (mb : MbRecord) : Type 0 where
  pub same : mb.motion ≡ motion_by view mb.kind (written_of mb)
