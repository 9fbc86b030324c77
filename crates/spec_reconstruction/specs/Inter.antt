-- The samples of inter macroblocks (ITU-T H.264, clauses 8.4.2.2, 8.4.2.3.1 and 8.5.1 to 8.5.4): predicted by the motion of their four 8x8
-- blocks, with the residual. `wide` is the width of the luma plane.
use Rattle.std.specs.Prelude.{ℕ, ℤ, pos, negsuc, List, [], length, map, slice_index_or, Option, Some, None, ◌+◌, ◌*◌, ◌/◌, ◌%◌, take, drop, if◌then◌else◌}
use Rattle.std.specs.List.{range_with_len, slice_get}
use Rattle.enc_tables.specs.declared.records.MbRecord.{MbRecord}
use Rattle.enc_tables.specs.declared.records.Motion.{Motion}
use Rattle.enc_tables.specs.declared.records.Vector.{Vector}
use Rattle.enc_tables.specs.Records.{no_motion, zero_vector}
use Rattle.spec_film.specs.Films.{Planes}
use Rattle.spec_inter.specs.Luma.{inter_luma}
use Rattle.spec_inter.specs.Chroma.{inter_chroma}
use Rattle.spec_inter.specs.Taps.{mean}
use Rattle.spec_reconstruction.specs.declared.Site.{Site}
use Rattle.spec_reconstruction.specs.Parts.{block_at, with_block}
use Rattle.spec_reconstruction.specs.Residuals.{built4, built8}
use Rattle.spec_reconstruction.specs.InOrder.{built_in_order}
use Rattle.spec_reconstruction.specs.Luma.{x4, y4, x8, y8, part16}
use Rattle.spec_reconstruction.specs.Chroma.{chroma_over}

-- the pictures of both lists
pub record Sources : Type 0 where
  pub list0 : List Planes
  pub list1 : List Planes

-- of I slices
abbrev pub no_sources : Sources
no_sources = record { list0 = []; list1 = [] }

-- the picture that a reference index means; none where the list isn't used
abbrev pub source_at : List Planes → ℤ → Option Planes
source_at list (pos k) = slice_get list k
source_at list (negsuc k) = None

-- a sample predicted from one list or both
abbrev pub from_both : (Planes → Vector → ℕ) → Option Planes → Option Planes → Vector → Vector → ℕ
from_both f None None v w = 0
from_both f (Some p) None v w = f p v
from_both f None (Some q) v w = f q w
from_both f (Some p) (Some q) v w = mean (f p v) (f q w)

unfoldable pub predicted_by : (Planes → Vector → ℕ) → Sources → Motion → ℕ
predicted_by f s m =
    from_both f (source_at s.list0 (slice_index_or m.refs 0 (negsuc 0))) (source_at s.list1 (slice_index_or m.refs 1 (negsuc 0)))
    (slice_index_or m.vectors 0 zero_vector) (slice_index_or m.vectors 1 zero_vector)

-- the motion of the 8x8 block at a column and a row of blocks of a macroblock
abbrev pub motion_of : MbRecord → ℕ → ℕ → Motion
motion_of mb column row = slice_index_or mb.motion (2 * row + column) no_motion

-- the luma prediction, row by row, and that of a chroma component
unfoldable pub luma_predicted : ℕ → Sources → Site → MbRecord → List ℕ
luma_predicted wide s site mb =
    map (λ k. predicted_by (λ p v. inter_luma wide (length p.luma / wide) p.luma (pos (site.x + k % 16)) (pos (site.y + k / 16)) v) s (motion_of mb (k % 16 / 8) (k / 16 / 8))) (range_with_len 0 256)

unfoldable pub chroma_predicted : (Planes → List ℕ) → ℕ → Sources → Site → MbRecord → List ℕ
chroma_predicted plane wide s site mb =
    map (λ k. predicted_by (λ p v. inter_chroma (wide / 2) (length (plane p) / (wide / 2)) (plane p) (pos (site.x / 2 + k % 8)) (pos (site.y / 2 + k / 8)) v) s (motion_of mb (k % 8 / 4) (k / 8 / 4))) (range_with_len 0 64)

-- a block built from its part of the prediction
unfoldable pub inter4 : ℕ → Site → List ℕ → ℕ → List ℤ → List ℕ → List ℕ
inter4 wide site prediction b levels plane = with_block wide (x4 site b) (y4 site b) 4 (built4 site.qp levels (part16 prediction b)) plane

unfoldable pub inter8 : ℕ → Site → List ℕ → ℕ → List ℤ → List ℕ → List ℕ
inter8 wide site prediction b levels plane =
    with_block wide (x8 site b) (y8 site b) 8 (built8 site.qp levels (block_at 16 (8 * (b % 2)) (8 * (b / 2)) 8 prediction)) plane

unfoldable pub inter_luma_built : ℕ → Sources → Site → MbRecord → List ℕ → List ℕ
inter_luma_built wide s site mb plane =
    if mb.transform8 then built_in_order (inter8 wide site (luma_predicted wide s site mb)) 64 mb.luma 4 plane
    else built_in_order (inter4 wide site (luma_predicted wide s site mb)) 16 mb.luma 16 plane

-- the planes with an inter macroblock
unfoldable pub inter_built : ℕ → Sources → Site → MbRecord → Planes → Planes
inter_built wide s site mb planes = record {
  luma = inter_luma_built wide s site mb planes.luma;
  cb = chroma_over (wide / 2) site (chroma_predicted (λ p. p.cb) wide s site mb) (take 4 mb.chroma_dc) (take 60 mb.chroma_ac) planes.cb;
  cr = chroma_over (wide / 2) site (chroma_predicted (λ p. p.cr) wide s site mb) (drop 4 mb.chroma_dc) (drop 60 mb.chroma_ac) planes.cr;
}
