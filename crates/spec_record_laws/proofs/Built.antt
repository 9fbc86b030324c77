-- What is built are samples of eight bits.
use Rattle.std.proofs.Common.{◌+◌, ◌*◌, ◌/◌, ◌&&◌, not, ℕ, zero, suc, ℤ, Bool, true, false, cond, List, length, take, drop}
use Rattle.std.proofs.lemmas.Bool.{cases_lt}
use Rattle.enc_tables.specs.declared.records.MbRecord.{MbRecord}
use Rattle.enc_tables.specs.Kinds.{is_16x16, is_intra, is_pcm}
use Rattle.enc_tables.specs.Steps.{steps}
use Rattle.spec_film.specs.Films.{Planes}
use Rattle.std.specs.Prelude.{slice_index}
use Rattle.spec_residual.specs.declared.BlockKind.{BlockKind}
use Rattle.spec_residual.specs.Rescaled.{luma_dc_rescaled, chroma_dc_rescaled}
use Rattle.spec_reconstruction.specs.declared.Site.{Site}
use Rattle.spec_reconstruction.specs.Parts.{block_rows, with_rows}
use Rattle.spec_reconstruction.specs.Residuals.{constructed, built4, built8, built_with_dc}
use Rattle.spec_reconstruction.specs.InOrder.{built_in_order, coded_in_order}
use Rattle.spec_reconstruction.specs.Luma.{build4, build8, build16, prediction16, unscanned, luma4_built, luma8_built, luma16_built}
use Rattle.spec_reconstruction.specs.Chroma.{build_chroma, prediction_chroma, chroma_qp, chroma_built, chroma_over}
use Rattle.spec_reconstruction.specs.Inter.{Sources, luma_predicted, inter4, inter8, inter_luma_built, inter_built}
use Rattle.spec_reconstruction.specs.Records.{luma_built, intra_built, site_of, macroblock_built, slice_built}
use Rattle.spec_record_laws.specs.Coded.{AreBytes, PlanesFit}
use Rattle.spec_record_laws.proofs.Bytes.{mapped_at, append_bytes, take_bytes, drop_bytes, none_bytes, cond_bytes, clip1_small}

-- ---- parts of planes

pub rows_bytes : (wide x y n : ℕ) (plane : List ℕ) (k : ℕ) → AreBytes plane → AreBytes (block_rows wide x y n plane k)
unfolding block_rows
rows_bytes wide x y n plane zero h = none_bytes
rows_bytes wide x y n plane (suc k) h = append_bytes _ _ (rows_bytes wide x y n plane k h) (take_bytes n _ (drop_bytes _ plane h))

pub written_bytes : (wide x y n : ℕ) (block : List ℕ) (k : ℕ) (plane : List ℕ) → AreBytes block → AreBytes plane → AreBytes (with_rows wide x y n block k plane)
unfolding with_rows
written_bytes wide x y n block zero plane b h = h
written_bytes wide x y n block (suc k) plane b h =
    let before = written_bytes wide x y n block k plane b h in
    append_bytes _ _ (take_bytes _ _ before) (append_bytes _ _ (take_bytes n _ (drop_bytes (k * n) block b)) (drop_bytes _ _ (drop_bytes _ _ before)))

-- ---- blocks

constructed_bytes : (n : ℕ) (prediction : List ℕ) (residual : List ℤ) → AreBytes (constructed n prediction residual)
unfolding constructed
constructed_bytes n prediction residual = record { at = λ k. mapped_at n _ (λ k. clip1_small _) k (cases_lt k n) }

built4_bytes : (qp : ℕ) (levels : List ℤ) (prediction : List ℕ) → AreBytes (built4 qp levels prediction)
unfolding built4
built4_bytes qp levels prediction = constructed_bytes 16 prediction _

built8_bytes : (qp : ℕ) (levels : List ℤ) (prediction : List ℕ) → AreBytes (built8 qp levels prediction)
unfolding built8
built8_bytes qp levels prediction = constructed_bytes 64 prediction _

built_dc_bytes : (kind : BlockKind) (qp : ℕ) (dc : ℤ) (levels : List ℤ) (prediction : List ℕ) → AreBytes (built_with_dc kind qp dc levels prediction)
unfolding built_with_dc
built_dc_bytes kind qp dc levels prediction = constructed_bytes 16 prediction _

pub build4_bytes : (wide : ℕ) (site : Site) (modes : List ℕ) (b : ℕ) (levels : List ℤ) (plane : List ℕ) → AreBytes plane → AreBytes (build4 wide site modes b levels plane)
unfolding build4
build4_bytes wide site modes b levels plane h = written_bytes wide _ _ 4 _ 4 plane (built4_bytes site.qp levels _) h

pub build8_bytes : (wide : ℕ) (site : Site) (modes : List ℕ) (b : ℕ) (levels : List ℤ) (plane : List ℕ) → AreBytes plane → AreBytes (build8 wide site modes b levels plane)
unfolding build8
build8_bytes wide site modes b levels plane h = written_bytes wide _ _ 8 _ 8 plane (built8_bytes site.qp levels _) h

build16_bytes : (wide : ℕ) (site : Site) (prediction : List ℕ) (dcs : List ℤ) (b : ℕ) (levels : List ℤ) (plane : List ℕ) → AreBytes plane → AreBytes (build16 wide site prediction dcs b levels plane)
unfolding build16
build16_bytes wide site prediction dcs b levels plane h = written_bytes wide _ _ 4 _ 4 plane (built_dc_bytes _ site.qp _ levels _) h

build_chroma_bytes : (wide : ℕ) (site : Site) (prediction : List ℕ) (dcs : List ℤ) (b : ℕ) (levels : List ℤ) (plane : List ℕ) → AreBytes plane → AreBytes (build_chroma wide site prediction dcs b levels plane)
unfolding build_chroma
build_chroma_bytes wide site prediction dcs b levels plane h = written_bytes wide _ _ 4 _ 4 plane (built_dc_bytes _ _ _ _ _) h

-- ---- blocks in order

steps_bytes : (f : ℕ → List ℕ → List ℕ) (n : ℕ) (plane : List ℕ) → ((b : ℕ) (p : List ℕ) → AreBytes p → AreBytes (f b p)) → AreBytes plane → AreBytes (steps f n plane)
unfolding steps
steps_bytes f zero plane each h = h
steps_bytes f (suc n) plane each h = each n _ (steps_bytes f n plane each h)

pub coded_bytes : (build : ℕ → List ℤ → List ℕ → List ℕ) (choose : ℕ → List ℕ → List ℤ) (n : ℕ) (plane : List ℕ) → ((b : ℕ) (levels : List ℤ) (p : List ℕ) → AreBytes p → AreBytes (build b levels p)) → AreBytes plane
    → AreBytes (coded_in_order build choose n plane)
unfolding coded_in_order
coded_bytes build choose n plane each h = steps_bytes _ n plane (λ b p. each b _ p) h

in_order_bytes : (build : ℕ → List ℤ → List ℕ → List ℕ) (size : ℕ) (levels : List ℤ) (n : ℕ) (plane : List ℕ) → ((b : ℕ) (levels : List ℤ) (p : List ℕ) → AreBytes p → AreBytes (build b levels p)) → AreBytes plane
    → AreBytes (built_in_order build size levels n plane)
unfolding built_in_order
in_order_bytes build size levels n plane each h = steps_bytes _ n plane (λ b p. each b _ p) h

-- ---- macroblocks

luma4_bytes : (wide : ℕ) (site : Site) (modes : List ℕ) (levels : List ℤ) (plane : List ℕ) → AreBytes plane → AreBytes (luma4_built wide site modes levels plane)
unfolding luma4_built
luma4_bytes wide site modes levels plane h = in_order_bytes (build4 wide site modes) 16 levels 16 plane (build4_bytes wide site modes) h

luma8_bytes : (wide : ℕ) (site : Site) (modes : List ℕ) (levels : List ℤ) (plane : List ℕ) → AreBytes plane → AreBytes (luma8_built wide site modes levels plane)
unfolding luma8_built
luma8_bytes wide site modes levels plane h = in_order_bytes (build8 wide site modes) 64 levels 4 plane (build8_bytes wide site modes) h

luma16_bytes : (wide : ℕ) (site : Site) (mode : ℕ) (dc levels : List ℤ) (plane : List ℕ) → AreBytes plane → AreBytes (luma16_built wide site mode dc levels plane)
unfolding luma16_built
luma16_bytes wide site mode dc levels plane h =
    in_order_bytes (build16 wide site (prediction16 wide site mode plane) (luma_dc_rescaled site.qp (unscanned dc))) 16 levels 16 plane (build16_bytes wide site _ _) h

chroma_bytes : (wide : ℕ) (site : Site) (mode : ℕ) (dc ac : List ℤ) (plane : List ℕ) → AreBytes plane → AreBytes (chroma_built wide site mode dc ac plane)
unfolding chroma_built chroma_over
chroma_bytes wide site mode dc ac plane h =
    in_order_bytes (build_chroma wide site (prediction_chroma wide site mode plane) (chroma_dc_rescaled (chroma_qp site.qp) dc)) 15 ac 4 plane (build_chroma_bytes wide site _ _) h

luma_bytes : (wide : ℕ) (site : Site) (r : MbRecord) (plane : List ℕ) → AreBytes plane → AreBytes (luma_built wide site r plane)
unfolding luma_built
luma_bytes wide site r plane h =
    cond_bytes (is_16x16 r.kind) _ _ (luma16_bytes wide site (slice_index r.modes 0) r.luma_dc r.luma plane h)
    (cond_bytes r.transform8 _ _ (luma8_bytes wide site r.modes r.luma plane h) (luma4_bytes wide site r.modes r.luma plane h))

intra_bytes : (wide : ℕ) (site : Site) (r : MbRecord) (p : Planes) → PlanesFit p → PlanesFit (intra_built wide site r p)
unfolding intra_built
intra_bytes wide site r p h = record {
  luma = luma_bytes wide site r p.luma h.luma;
  cb = chroma_bytes (wide / 2) site r.chroma_mode (take 4 r.chroma_dc) (take 60 r.chroma_ac) p.cb h.cb;
  cr = chroma_bytes (wide / 2) site r.chroma_mode (drop 4 r.chroma_dc) (drop 60 r.chroma_ac) p.cr h.cr;
}

inter4_bytes : (wide : ℕ) (site : Site) (prediction : List ℕ) (b : ℕ) (levels : List ℤ) (plane : List ℕ) → AreBytes plane → AreBytes (inter4 wide site prediction b levels plane)
unfolding inter4
inter4_bytes wide site prediction b levels plane h = written_bytes wide _ _ 4 _ 4 plane (built4_bytes site.qp levels _) h

inter8_bytes : (wide : ℕ) (site : Site) (prediction : List ℕ) (b : ℕ) (levels : List ℤ) (plane : List ℕ) → AreBytes plane → AreBytes (inter8 wide site prediction b levels plane)
unfolding inter8
inter8_bytes wide site prediction b levels plane h = written_bytes wide _ _ 8 _ 8 plane (built8_bytes site.qp levels _) h

inter_luma_bytes : (wide : ℕ) (s : Sources) (site : Site) (r : MbRecord) (plane : List ℕ) → AreBytes plane → AreBytes (inter_luma_built wide s site r plane)
unfolding inter_luma_built
inter_luma_bytes wide s site r plane h =
    cond_bytes r.transform8 _ _ (in_order_bytes (inter8 wide site (luma_predicted wide s site r)) 64 r.luma 4 plane (inter8_bytes wide site _) h)
    (in_order_bytes (inter4 wide site (luma_predicted wide s site r)) 16 r.luma 16 plane (inter4_bytes wide site _) h)

inter_chroma_bytes : (wide : ℕ) (site : Site) (prediction : List ℕ) (dc ac : List ℤ) (plane : List ℕ) → AreBytes plane → AreBytes (chroma_over wide site prediction dc ac plane)
unfolding chroma_over
inter_chroma_bytes wide site prediction dc ac plane h =
    in_order_bytes (build_chroma wide site prediction (chroma_dc_rescaled (chroma_qp site.qp) dc)) 15 ac 4 plane (build_chroma_bytes wide site _ _) h

inter_bytes : (wide : ℕ) (s : Sources) (site : Site) (r : MbRecord) (p : Planes) → PlanesFit p → PlanesFit (inter_built wide s site r p)
unfolding inter_built
inter_bytes wide s site r p h = record {
  luma = inter_luma_bytes wide s site r p.luma h.luma;
  cb = inter_chroma_bytes (wide / 2) site _ (take 4 r.chroma_dc) (take 60 r.chroma_ac) p.cb h.cb;
  cr = inter_chroma_bytes (wide / 2) site _ (drop 4 r.chroma_dc) (drop 60 r.chroma_ac) p.cr h.cr;
}

either_fits : (b : Bool) (p q : Planes) → PlanesFit p → PlanesFit q → PlanesFit (cond b p q)
either_fits true p q h g = h
either_fits false p q h g = g

pub macroblock_bytes : (width : ℕ) (s : Sources) (first address : ℕ) (r : MbRecord) (p : Planes) → PlanesFit p → PlanesFit (macroblock_built width s first address r p)
unfolding macroblock_built
macroblock_bytes width s first address r p h =
    either_fits (is_intra r.kind && not (is_pcm r.kind)) _ _ (intra_bytes (16 * width) (site_of width first address r.qp) r p h)
    (either_fits (is_pcm r.kind) _ _ h (inter_bytes (16 * width) s (site_of width first address r.qp) r p h))

steps_fit : (f : ℕ → Planes → Planes) (n : ℕ) (p : Planes) → ((k : ℕ) (q : Planes) → PlanesFit q → PlanesFit (f k q)) → PlanesFit p → PlanesFit (steps f n p)
unfolding steps
steps_fit f zero p each h = h
steps_fit f (suc n) p each h = each n _ (steps_fit f n p each h)

pub slice_bytes : (width : ℕ) (s : Sources) (first : ℕ) (records : List MbRecord) (p : Planes) → PlanesFit p → PlanesFit (slice_built width s first records p)
unfolding slice_built
slice_bytes width s first records p h = steps_fit _ (length records) p (λ k q fits. macroblock_bytes width s first (first + k) _ q fits) h
