-- What is made of inter macroblocks.
use Rattle.std.specs.Prelude.{◌≡◌, ℕ, ◌<◌, Bool, true, false, cond, nat_le, List, take, drop, ℤ, Option, Some, None}
use Rattle.enc_tables.specs.declared.records.MbKind.{MbKind}
use Rattle.enc_tables.specs.declared.records.MbRecord.{MbRecord}
use Rattle.spec_basics.specs.Sums.{sad}
use Rattle.spec_coded.specs.Levels.{levelled, predicted_planes, is_blank}
use Rattle.spec_film.specs.Films.{Planes}
use Rattle.spec_reconstruction.specs.declared.Site.{Site}
use Rattle.spec_reconstruction.specs.Chroma.{chroma_qp}
use Rattle.spec_reconstruction.specs.Inter.{luma_predicted, inter_built}
use Rattle.spec_reconstruction.specs.InOrder.{levels_of_block}
use Rattle.spec_reconstruction.specs.Parts.{block_at}
use Rattle.spec_residual.specs.declared.BlockKind.TheVariants.{Luma4}
use Rattle.residual_coder.specs.Made.{IsQuantised, IsQuantised8, ChromaQuantised}
use Rattle.inter_coder.specs.declared.given.Pictures.{Pictures}
use Rattle.inter_coder.specs.declared.prediction.Predicted.{Predicted}
use Rattle.inter_coder.specs.Given.{wide_of, sources_in, source_in}

-- a prediction, as planes that hold the macroblock's samples alone
abbrev pub planes_at : Predicted → Planes
planes_at p = record { luma = p.luma; cb = p.cb; cr = p.cr }

-- ---- levels that the quantiser made

abbrev pub LumaCoded : ℕ → Bool → List ℤ → Type 0
LumaCoded qp true luma = (k : ℕ) → k < 4 → IsQuantised8 qp (levels_of_block 64 k luma)
LumaCoded qp false luma = (b : ℕ) → b < 16 → IsQuantised Luma4 qp (levels_of_block 16 b luma)

pub record IsCoded (qp : ℕ) (mb : MbRecord) : Type 0 where
  pub luma : LumaCoded qp mb.transform8 mb.luma
  pub cb : ChromaQuantised (chroma_qp qp) (take 4 mb.chroma_dc) (take 60 mb.chroma_ac)
  pub cr : ChromaQuantised (chroma_qp qp) (drop 4 mb.chroma_dc) (drop 60 mb.chroma_ac)

-- ---- records and samples

-- a macroblock whose motion is known, with the levels of the source over what its motion predicts
abbrev pub made_by : Pictures → Bool → Site → MbRecord → MbRecord
made_by p t8x8 site mb = levelled (wide_of p) site t8x8 (source_in p) (predicted_planes (wide_of p) (sources_in p) site mb) mb

-- the planes with that macroblock
abbrev pub built_by : Pictures → Site → MbRecord → Planes → Planes
built_by p site mb planes = inter_built (wide_of p) (sources_in p) site mb planes

-- the sum of absolute differences of the source's luma and what a macroblock's motion predicts of it
abbrev pub difference_of : Pictures → Site → MbRecord → ℕ
difference_of p site mb = sad (block_at (wide_of p) site.x site.y 16 (source_in p).luma) (luma_predicted (wide_of p) (sources_in p) site mb)

-- a skipped macroblock, where it leaves no level
abbrev pub if_blank : MbRecord → Option MbRecord
if_blank mb = cond (is_blank mb) (Some mb) None

-- a direct macroblock: skipped where it leaves no level, and else taken where its prediction costs no more than the choice
abbrev pub direct_or : ℕ → ℕ → MbRecord → Option MbRecord
direct_or difference cost mb = cond (is_blank mb) (Some (record mb { kind = MbKind.BSkip })) (cond (nat_le difference cost) (Some mb) None)

-- a macroblock that was taken is built, and else nothing is changed
abbrev pub Taken : (MbRecord → Planes → Planes) → Planes → Planes → Option MbRecord → Type 0
Taken built old new None = new ≡ old
Taken built old new (Some mb) = new ≡ built mb old
