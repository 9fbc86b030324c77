-- Inter macroblocks as the encoder makes them, field by field, and what has to be known of their levels and partitions.
use Rattle.std.specs.Prelude.{◌≡◌, ℕ, ◌<◌, ◌==◌, ◌&&◌, ◌++◌, ◌/◌, Bool, true, cond, not, if◌then◌else◌, List, length, replicate, ℤ, pos, false}
use Rattle.enc_tables.specs.declared.records.MbKind.{MbKind}
use Rattle.enc_tables.specs.declared.records.MbRecord.{MbRecord}
use Rattle.enc_tables.specs.declared.records.Motion.{Motion}
use Rattle.enc_tables.specs.declared.records.Vector.{Vector}
use Rattle.enc_tables.specs.Records.{zero_vector}
use Rattle.enc_tables.specs.Kinds.{has_motion}
use Rattle.spec_film.specs.Films.{Planes}
use Rattle.spec_residual.specs.Blocks.{nonzero_levels}
use Rattle.spec_partitions.specs.Near.{Near}
use Rattle.spec_partitions.specs.Partitions.{shape_of, part_count, written_of, mvd_from}
use Rattle.spec_partitions.specs.Records.{PartFits, MvdFits}
use Rattle.spec_macroblock.specs.Records.{AreLevels}
use Rattle.spec_reconstruction.specs.declared.Site.{Site}
use Rattle.spec_reconstruction.specs.Records.{luma_pattern, chroma_pattern}
use Rattle.spec_coded.specs.Levels.{whole_levels4, whole_levels8, takes_8x8}
use Rattle.spec_reconstruction.specs.Chroma.{chroma_dc_levels, chroma_ac_levels}

-- a record of these levels
unfoldable pub inter_record : MbKind → Bool → List Motion → List Vector → ℕ → List ℤ → List ℤ → List ℤ → MbRecord
inter_record kind transform8 motion mvd qp luma dc ac = record {
  kind = kind;
  transform8 = transform8;
  modes = replicate 16 0;
  chroma_mode = 0;
  motion = motion;
  mvd = mvd;
  luma_cbp = luma_pattern luma;
  chroma_cbp = chroma_pattern dc ac;
  qp = qp;
  luma_dc = replicate 16 (pos 0);
  luma = luma;
  chroma_dc = dc;
  chroma_ac = ac;
}

-- as many levels as a macroblock has, each in its range
pub record LevelsFit (luma dc ac : List ℤ) : Type 0 where
  pub luma_length : length luma ≡ 256
  pub luma_levels : AreLevels luma
  pub dc_length : length dc ≡ 8
  pub dc_levels : AreLevels dc
  pub ac_length : length ac ≡ 120
  pub ac_levels : AreLevels ac

-- the 8x8 transform is said where it may be, and where there is some luma level
pub record FlagFits (t8x8 transform8 : Bool) (luma : List ℤ) : Type 0 where
  pub allowed : transform8 ≡ true → t8x8 ≡ true
  pub some : transform8 ≡ true → not (luma_pattern luma == 0) ≡ true

-- no level at all
pub record NoLevels (luma dc ac : List ℤ) : Type 0 where
  pub luma_none : luma_pattern luma ≡ 0
  pub chroma_none : chroma_pattern dc ac ≡ 0

-- what is written of the partitions is what the syntax can give
pub record PartsStand (near : Near) (mb : MbRecord) : Type 0 where
  pub parts_fit : has_motion mb.kind ≡ true → (part : ℕ) → part < part_count (shape_of mb.kind) → PartFits near mb part
  pub mvds_fit : has_motion mb.kind ≡ true → (list : ℕ) → list < 2 → (part : ℕ) → part < part_count (shape_of mb.kind) → MvdFits mb list part
  pub mvd_is : mb.mvd ≡ cond (has_motion mb.kind) (mvd_from mb.kind (written_of mb)) (replicate 8 zero_vector)

-- ---- the levels of a whole prediction

-- the luma levels of the transform that is taken
abbrev pub whole_luma : ℕ → Site → Bool → List ℕ → List ℕ → List ℤ
whole_luma wide site t8x8 source prediction =
    if takes_8x8 t8x8 (whole_levels4 wide site source prediction) (whole_levels8 wide site source prediction) then whole_levels8 wide site source prediction else whole_levels4 wide site source prediction

abbrev pub whole_flag : ℕ → Site → Bool → List ℕ → List ℕ → Bool
whole_flag wide site t8x8 source prediction =
    takes_8x8 t8x8 (whole_levels4 wide site source prediction) (whole_levels8 wide site source prediction) && not (nonzero_levels (whole_levels8 wide site source prediction) == 0)

abbrev pub whole_dc : ℕ → Site → Planes → Planes → List ℤ
whole_dc wide site source prediction = chroma_dc_levels false (wide / 2) site source.cb prediction.cb ++ chroma_dc_levels false (wide / 2) site source.cr prediction.cr

abbrev pub whole_ac : ℕ → Site → Planes → Planes → List ℤ
whole_ac wide site source prediction = chroma_ac_levels false (wide / 2) site source.cb prediction.cb ++ chroma_ac_levels false (wide / 2) site source.cr prediction.cr

abbrev pub whole_record : ℕ → Site → Bool → MbKind → List Motion → List Vector → Planes → Planes → MbRecord
whole_record wide site t8x8 kind motion mvd source prediction =
    inter_record kind (whole_flag wide site t8x8 source.luma prediction.luma) motion mvd site.qp (whole_luma wide site t8x8 source.luma prediction.luma)
    (whole_dc wide site source prediction) (whole_ac wide site source prediction)
