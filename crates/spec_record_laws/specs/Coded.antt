-- What macroblocks are coded from: samples of eight bits, and plans with modes in their ranges.
use Rattle.std.specs.Prelude.{◌≡◌, ℕ, ◌≤◌, ◌<◌, ◌/◌, ◌%◌, Bool, true, List, length, slice_index}
use Rattle.enc_tables.specs.declared.records.MbKind.{MbKind}
use Rattle.enc_tables.specs.declared.records.MbPlan.{MbPlan}
use Rattle.spec_film.specs.Films.{Planes}
use Rattle.spec_intra.specs.declared.Avail.{Avail}
use Rattle.spec_intra.specs.Near.{block_avail}
use Rattle.spec_basics.specs.Blocks.{block_column, block_row}
use Rattle.spec_intra.specs.Predictions.{is_allowed_nxn, is_allowed16, is_allowed_chroma}
use Rattle.spec_partitions.specs.Near.{Near}
use Rattle.spec_macroblock.specs.Records.{NearModes}
use Rattle.spec_reconstruction.specs.declared.Site.{Site}

-- samples of eight bits
pub record AreBytes (samples : List ℕ) : Type 0 where
  pub at : (k : ℕ) → slice_index samples k ≤ 255

pub record PlanesFit (p : Planes) : Type 0 where
  pub luma : AreBytes p.luma
  pub cb : AreBytes p.cb
  pub cr : AreBytes p.cr

-- the modes of a plan are in their ranges
pub record ModesFit (plan : MbPlan) : Type 0 where
  pub mode16 : plan.mode16 ≤ 3
  pub modes8_length : length plan.modes8 ≡ 4
  pub modes8 : (i : ℕ) → slice_index plan.modes8 i ≤ 8
  pub modes4_length : length plan.modes4 ≡ 16
  pub modes4 : (i : ℕ) → slice_index plan.modes4 i ≤ 8
  pub chroma_mode : plan.chroma_mode ≤ 3

-- the neighbours of 4x4 block b and of 8x8 block k of a macroblock that has these
abbrev pub avail4 : Avail → ℕ → Avail
avail4 mb b = block_avail 4 mb (block_column b) (block_row b)

abbrev pub avail8 : Avail → ℕ → Avail
avail8 mb k = block_avail 2 mb (k % 2) (k / 2)

-- the modes of a plan need no samples but those of neighbours that are available, where `mb` are the macroblock's
pub record ModesAllowed (t8x8 : Bool) (mb : Avail) (plan : MbPlan) : Type 0 where
  pub mode16 : is_allowed16 plan.mode16 mb ≡ true
  pub modes8 : t8x8 ≡ true → (k : ℕ) → k < 4 → is_allowed_nxn (slice_index plan.modes8 k) (avail8 mb k) ≡ true
  pub modes4 : (b : ℕ) → b < 16 → is_allowed_nxn (slice_index plan.modes4 b) (avail4 mb b) ≡ true
  pub chroma_mode : is_allowed_chroma plan.chroma_mode mb ≡ true

-- the kinds that are coded; Intra 8x8 where the 8x8 transform is in use
abbrev pub IsCodedKind : Bool → MbKind → Type 0
IsCodedKind t8x8 MbKind.Intra4 = Unit {0}
IsCodedKind t8x8 MbKind.Intra8 = t8x8 ≡ true
IsCodedKind t8x8 MbKind.Intra16 = Unit {0}
IsCodedKind t8x8 _ = ⊥

-- a macroblock that is coded with the quantisation parameter of the one before it
pub record Stands (near : Near) (site : Site) : Type 0 where
  pub left_modes : NearModes near.left
  pub above_modes : NearModes near.above
  pub same_qp : near.qp ≡ site.qp
  pub qp_fits : site.qp ≤ 51
