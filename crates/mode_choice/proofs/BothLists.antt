-- Prediction of a block from both lists, and its difference from the source.
use Rattle.std.proofs.Common.{◌≡◌, ◌≤◌, ◌<◌, ◌+◌, ◌*◌, ◌/◌, ℕ, List, length, get_or, take, drop, refl, sym, ap, ap₂, ◌∙◌, arith}
use Rattle.std.proofs.lemmas.Grind.{common_steps}
use Rattle.std.proofs.lemmas.Simd.{get_or-zip2}
use Rattle.std.proofs.Math.Nat.{mul-div_cancel}
use Rattle.std.specs.Prelude.{pos}
use Rattle.std.specs.Int.{abs_diff}
use Rattle.enc_tables.specs.declared.records.Vector.{Vector}
use Rattle.spec_inter.specs.Blocks.{RowsOf}
use Rattle.spec_inter.specs.Luma.{inter_luma}
use Rattle.spec_inter.specs.Taps.{mean}
use Rattle.spec_kernels.specs.Sums.{block_difference, strided}
use Rattle.spec_kernels.proofs.SumLaws.{block-same}
use Rattle.spec_search.specs.declared.blocks.Block.{Block}
use Rattle.spec_search.specs.Window.{own}
use Rattle.spec_inter_plans.specs.InterPlans.{Search, wide, own_luma, moved_sample, difference_of}
use Rattle.picture_planes.specs.declared.plane.Plane.{Plane}
use Rattle.picture_planes.specs.Margins.{IsBlock, buffer_width}
use Rattle.picture_planes.specs.Pictures.{planes_of}
use Rattle.picture_planes.specs.Samples.{at, samples_of}
use Rattle.picture_planes.proofs.SampleLaws.{row_of_samples, samples_length}
use Rattle.bi_pred.specs.Averages.{averaged}
use Rattle.subpel_filter.specs.Predicted.{luma_at}
use Rattle.motion_search.specs.Planes.{IsBlockIn, IsBlockOf}
use Rattle.motion_search.proofs.Costs.{sides}
use Rattle.motion_search.proofs.Quartering.{block_cost_is}
use Rattle.ref_lists.specs.declared.held.Reference.{Reference}
use Rattle.ref_lists.specs.Held.{IsMade}
use Rattle.mode_choice.specs.Given.{IsSourceOf}
use Rattle.mode_choice.proofs.Bytes.{block_small}

-- ---- means

place_below : (w h i j : ℕ) → w ≤ 16 → h ≤ 16 → i < w → j < h → j * w + i < 256
place_below w h i j wide high p q =
    let a : j * w ≤ 15 * w = grind arith in
    omega (arith, a, wide, p)

pub means_are : (f g : ℕ → ℕ → ℕ) (w h : ℕ) (xs ys out : List ℕ) → w ≤ 16 → h ≤ 16 → length xs ≡ 256 → length ys ≡ 256 → out ≡ averaged xs ys → RowsOf f w h xs → RowsOf g w h ys → RowsOf (λ i j. mean (f i j) (g i j)) w h out
means_are f g w h xs ys out wide high long0 long1 e F G = record {
  at = λ i j p q. (let k = place_below w h i j wide high p q in
      ap (λ (l : List ℕ). get_or l (j * w + i) 0) e
      ∙ get_or-zip2 mean xs ys (j * w + i) 0 0 0 (omega (arith, k, long0)) (omega (arith, k, long1))
      ∙ ap₂ (λ (a b : ℕ). mean a b) (F.at i j p q) (G.at i j p q));
}

-- ---- the source's samples

in_row : (xs : List ℕ) (i w x : ℕ) → x < w → get_or (take w (drop i xs)) x 0 ≡ get_or xs (i + x) 0
in_row xs i w x h = grind (arith, common_steps)

own_is : (s : Search) (p : Plane) → IsSourceOf s p → (x y : ℕ) → x < p.width → y < p.height → at p x y ≡ own_luma s x y
own_is s p h x y lt below =
    ap (λ (l : List ℕ). get_or l x 0) (row_of_samples p y below)
    ∙ in_row (samples_of p) (y * p.width) p.width x lt
    ∙ ap (λ (l : List ℕ). get_or l (y * p.width + x) 0) h.luma
    ∙ ap (λ (w : ℕ). get_or s.source.luma (y * w + x) 0) h.width

pub source_same : (s : Search) (p : Plane) (b : Block) (f : ℕ → ℕ → ℕ) → IsSourceOf s p → IsBlockOf p b → block_difference (own (at p) b) f b.w b.h ≡ difference_of s b f
source_same s p b f h i =
    let across = i.across in
    let down = i.down in
    block-same (λ i j. abs_diff (at p (b.x + i) (b.y + j)) (f i j)) (λ i j. abs_diff (own_luma s (b.x + i) (b.y + j)) (f i j)) b.w b.h
    (λ i j c d. ap (λ (k : ℕ). abs_diff k (f i j)) (own_is s p h (b.x + i) (b.y + j) (omega (arith, across, c)) (omega (arith, down, d))))

-- the difference from bytes that are given row by row
pub from_samples : (p : Plane) (b : Block) (w : ℕ) (xs out : List ℕ) (n : ℕ) → IsBlockOf p b → b.w ≡ w → IsBlock p (b.x + p.pad) (b.y + p.pad) xs → ((x y : ℕ) → at p x y ≤ 255) → ((k : ℕ) → get_or out k 0 ≤ 255)
    → n ≡ block_difference (strided xs (buffer_width p)) (strided out w) w b.h → n ≤ 65280
from_samples p b w xs out n i e rows small bytes is =
    let g : ℕ → ℕ → ℕ = λ i j. get_or out (j * b.w + i) 0 in
    let value = is ∙ block_cost_is p b g w xs out i e rows (record { at = λ i j c d. refl }) in
    let wide = sides b.w i.wide in
    let high = sides b.h i.high in
    let most = block_small (own (at p) b) g b.w b.h wide.1 high.1 (λ i j c d. small (b.x + i) (b.y + j)) (λ i j c d. bytes (j * b.w + i)) in
    omega (arith, value, most)

-- ---- a reference's

pub made_own : (w h : ℕ) (r : Reference) → IsMade w h r → IsMade r.picture.y.width r.picture.y.height r
made_own w h r m =
    let wide = sym m.luma.0 in
    let high = sym m.luma.1 in
    record {
      luma = (refl, refl, m.luma.2);
      cb = (m.cb.0 ∙ ap (λ (n : ℕ). n / 2) wide, m.cb.1 ∙ ap (λ (n : ℕ). n / 2) high, m.cb.2);
      cr = (m.cr.0 ∙ ap (λ (n : ℕ). n / 2) wide, m.cr.1 ∙ ap (λ (n : ℕ). n / 2) high, m.cr.2);
      sums = m.sums;
      halves = m.halves;
      records = m.records ∙ ap₂ (λ (a b : ℕ). a / 16 * (b / 16)) wide high;
    }

pub block_there : (w h : ℕ) (r : Reference) (b : Block) → IsMade w h r → IsBlockIn w h b → IsBlockOf r.picture.y b
block_there w h r b m i =
    let a = i.across in
    let d = i.down in
    let e = m.luma.0 in
    let f = m.luma.1 in
    record { across = omega (arith, a, e); down = omega (arith, d, f); wide = i.wide; high = i.high }

height_is : (s : Search) (r : Plane) → r.width ≡ wide s → r.height ≡ length (samples_of r) / wide s
height_is s r e =
    sym (mul-div_cancel r.height r.size.0)
    ∙ ap (λ (n : ℕ). n / r.width) (sym (samples_length r))
    ∙ ap (λ (w : ℕ). length (samples_of r) / w) e

moved_is : (s : Search) (p : Plane) (r : Reference) (b : Block) (v : Vector) → IsSourceOf s p → IsMade p.width p.height r → luma_at r.picture.y b.x b.y v ≡ moved_sample s b (planes_of r.picture) v
moved_is s p r b v h m =
    let e : r.picture.y.width ≡ wide s = m.luma.0 ∙ h.width in
    ap₂ (λ (w n : ℕ). (λ (i j : ℕ). inter_luma w n (samples_of r.picture.y) (pos (b.x + i)) (pos (b.y + j)) v)) e (height_is s r.picture.y e)

pub both_is : (s : Search) (p : Plane) (q r : Reference) (b : Block) (v w : Vector) → IsSourceOf s p → IsMade p.width p.height q → IsMade p.width p.height r
    → difference_of s b (λ i j. mean (luma_at q.picture.y b.x b.y v i j) (luma_at r.picture.y b.x b.y w i j))
    ≡ difference_of s b (λ i j. mean (moved_sample s b (planes_of q.picture) v i j) (moved_sample s b (planes_of r.picture) w i j))
both_is s p q r b v w h m n =
    ap₂ (λ (f g : ℕ → ℕ → ℕ). difference_of s b (λ i j. mean (f i j) (g i j))) (moved_is s p q b v h m) (moved_is s p r b w h n)
