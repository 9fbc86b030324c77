-- What is predicted of a macroblock, sample by sample.
use Rattle.std.proofs.Common.{◌≡◌, ◌<◌, ◌≤◌, ◌+◌, ◌*◌, ◌/◌, ◌%◌, ◌++◌, ℕ, ℤ, pos, negsuc, List, length, get_or, map, take, sym, ap, ap₂, ◌∙◌, arith, subst, inl, inr, ◌⊎◌, lit≤}
use Rattle.std.specs.Prelude.{nat_abs, ◌≤ℤ◌}
use Rattle.std.specs.List.{range_with_len}
use Rattle.std.proofs.lemmas.Int.{ints}
use Rattle.std.proofs.lemmas.List.{ext_get_or}
use Rattle.std.proofs.lemmas.List.FromFn.{length-map-range_with_len, get_or-map-range_with_len}
use Rattle.std.proofs.lemmas.Grind.{common_steps}
use Rattle.std.proofs.lemmas.Nat.{mul-add-lt}
use Rattle.std.proofs.lemmas.Simd.{get_or-zip2, length-zip2}
use Rattle.std.proofs.Math.ListN.{get_or-append}
use Rattle.std.proofs.Math.Nat.{mul-div_cancel}
use Rattle.bi_pred.specs.Averages.{averaged}
use Rattle.enc_tables.specs.declared.records.MbRecord.{MbRecord}
use Rattle.enc_tables.specs.declared.records.Motion.{Motion}
use Rattle.enc_tables.specs.declared.records.Vector.{Vector}
use Rattle.enc_tables.specs.Records.{no_motion}
use Rattle.picture_planes.specs.declared.plane.Plane.{Plane}
use Rattle.picture_planes.specs.Samples.{samples_of}
use Rattle.picture_planes.proofs.SampleLaws.{samples_length}
use Rattle.spec_film.specs.Films.{Planes}
use Rattle.spec_inter.specs.Blocks.{RowsOf}
use Rattle.spec_inter.specs.Taps.{mean}
use Rattle.spec_partitions.specs.Small.{Small}
use Rattle.spec_reconstruction.specs.declared.Site.{Site}
use Rattle.spec_reconstruction.specs.Inter.{Sources, predicted_by, motion_of, luma_predicted, chroma_predicted}
use Rattle.subpel_filter.specs.Predicted.{IsShort}
use Rattle.inter_coder.specs.Given.{luma_sample, chroma_sample}

pub height_is : (p : Plane) → length (samples_of p) / p.width ≡ p.height
height_is p = ap (λ (n : ℕ). n / p.width) (samples_length p) ∙ mul-div_cancel p.height p.size.0

pub rows_same : (f g : ℕ → ℕ → ℕ) (w n : ℕ) (xs : List ℕ) → ((i j : ℕ) → f i j ≡ g i j) → RowsOf f w n xs → RowsOf g w n xs
rows_same f g w n xs e r = record { at = λ i j a b. r.at i j a b ∙ e i j }

pub rows_within : (f g : ℕ → ℕ → ℕ) (w n : ℕ) (xs : List ℕ) → ((i j : ℕ) → i < w → j < n → f i j ≡ g i j) → RowsOf f w n xs → RowsOf g w n xs
rows_within f g w n xs e r = record { at = λ i j a b. r.at i j a b ∙ e i j a b }

-- ---- short vectors

low : (z : ℤ) → nat_abs z ≤ 131 → negsuc 130 ≤ℤ z
low (pos n) h = omega (arith, ints)
low (negsuc n) h = omega (arith, ints, h)

high : (z : ℤ) → nat_abs z ≤ 131 → z ≤ℤ pos 131
high (pos n) h = omega (arith, ints, h)
high (negsuc n) h = omega (arith, ints)

pub short_is : (v : Vector) → Small 131 v → IsShort v
short_is v s = record { left = low v.x s.across; right = high v.x s.across; up = low v.y s.down; down = high v.y s.down }

-- ---- whole macroblocks

line : (n : ℕ) (f : ℕ → ℕ) (xs : List ℕ) → length xs ≡ n → ((p : ℕ) → p < n → get_or xs p 0 ≡ f p) → xs ≡ map f (range_with_len 0 n)
line n f xs long same =
    ext_get_or 0 xs (map f (range_with_len 0 n)) (long ∙ sym (length-map-range_with_len f 0 n)) (λ p q. let r : p < n = omega (arith, q, long) in same p r ∙ sym (get_or-map-range_with_len f 0 n p p 0 r (omega arith)))

module _ (wide : ℕ) (s : Sources) (site : Site) (mb : MbRecord) (out : List ℕ) where
  pub luma_by_rows : length out ≡ 256 → RowsOf (λ i j. predicted_by (luma_sample wide (site.x + i) (site.y + j)) s (motion_of mb (i / 8) (j / 8))) 16 16 out → out ≡ luma_predicted wide s site mb
  unfolding luma_predicted
  luma_by_rows long rows =
      line 256 _ out long (λ k h.
      let place : k ≡ k / 16 * 16 + k % 16 = omega arith in
      ap (λ (t : ℕ). get_or out t 0) place ∙ rows.at (k % 16) (k / 16) (omega arith) (omega (arith, h)))

  pub chroma_by_rows : (plane : Planes → List ℕ) → length out ≡ 64 → RowsOf (λ i j. predicted_by (chroma_sample plane (wide / 2) (site.x / 2 + i) (site.y / 2 + j)) s (motion_of mb (i / 4) (j / 4))) 8 8 out → out ≡ chroma_predicted plane wide s site mb
  unfolding chroma_predicted
  chroma_by_rows plane long rows =
      line 64 _ out long (λ k h.
      let place : k ≡ k / 8 * 8 + k % 8 = omega arith in
      ap (λ (t : ℕ). get_or out t 0) place ∙ rows.at (k % 8) (k / 8) (omega arith) (omega (arith, h)))

module _ (wide : ℕ) (s : Sources) (site : Site) (mb : MbRecord) (motion : List Motion) (out : List ℕ) where
  -- from what each 8x8 block predicts
  pub luma_is : mb.motion ≡ motion → length out ≡ 256 → RowsOf (λ i j. predicted_by (luma_sample wide (site.x + i) (site.y + j)) s (get_or motion (2 * (j / 8) + i / 8) no_motion)) 16 16 out → out ≡ luma_predicted wide s site mb
  luma_is e long rows =
      luma_by_rows wide s site mb out long
      (rows_same _ _ 16 16 out (λ i j. ap (λ (l : List Motion). predicted_by (luma_sample wide (site.x + i) (site.y + j)) s (get_or l (2 * (j / 8) + i / 8) no_motion)) (sym e)) rows)

  pub chroma_is : (plane : Planes → List ℕ) → mb.motion ≡ motion → length out ≡ 64
      → RowsOf (λ i j. predicted_by (chroma_sample plane (wide / 2) (site.x / 2 + i) (site.y / 2 + j)) s (get_or motion (2 * (j / 4) + i / 4) no_motion)) 8 8 out → out ≡ chroma_predicted plane wide s site mb
  chroma_is plane e long rows =
      chroma_by_rows wide s site mb out plane long
      (rows_same _ _ 8 8 out (λ i j. ap (λ (l : List Motion). predicted_by (chroma_sample plane (wide / 2) (site.x / 2 + i) (site.y / 2 + j)) s (get_or l (2 * (j / 4) + i / 4) no_motion)) (sym e)) rows)

  -- where the four move alike
  pub luma_whole : (m : Motion) → mb.motion ≡ motion → ((k : ℕ) → k < 4 → get_or motion k no_motion ≡ get_or motion 0 no_motion) → m ≡ get_or motion 0 no_motion → length out ≡ 256
      → RowsOf (λ i j. predicted_by (luma_sample wide (site.x + i) (site.y + j)) s m) 16 16 out → out ≡ luma_predicted wide s site mb
  luma_whole m e one is long rows =
      luma_is e long
      (rows_within _ _ 16 16 out (λ i j a b. ap (λ (n : Motion). predicted_by (luma_sample wide (site.x + i) (site.y + j)) s n) (is ∙ sym (one (2 * (j / 8) + i / 8) (omega (arith, a, b))))) rows)

  pub chroma_whole : (plane : Planes → List ℕ) (m : Motion) → mb.motion ≡ motion → ((k : ℕ) → k < 4 → get_or motion k no_motion ≡ get_or motion 0 no_motion) → m ≡ get_or motion 0 no_motion → length out ≡ 64
      → RowsOf (λ i j. predicted_by (chroma_sample plane (wide / 2) (site.x / 2 + i) (site.y / 2 + j)) s m) 8 8 out → out ≡ chroma_predicted plane wide s site mb
  chroma_whole plane m e one is long rows =
      chroma_is plane e long
      (rows_within _ _ 8 8 out (λ i j a b. ap (λ (n : Motion). predicted_by (chroma_sample plane (wide / 2) (site.x / 2 + i) (site.y / 2 + j)) s n) (is ∙ sym (one (2 * (j / 4) + i / 4) (omega (arith, a, b))))) rows)

-- a sample of 8x8 block k is one of the macroblock
module _ (f : ℕ → ℕ → Planes → Vector → ℕ) (s : Sources) (motion : List Motion) (here : Motion) (k left top x y i j : ℕ) where
  pub quarter16 : here ≡ get_or motion k no_motion → k < 4 → x ≡ 8 * (k % 2) → y ≡ 8 * (k / 2) → i < 8 → j < 8
      → predicted_by (f (left + x + i) (top + y + j)) s here ≡ predicted_by (f (left + (x + i)) (top + (y + j))) s (get_or motion (2 * ((y + j) / 8) + (x + i) / 8) no_motion)
  quarter16 is less at_x at_y a b =
      let across : left + x + i ≡ left + (x + i) = omega arith in
      let down : top + y + j ≡ top + (y + j) = omega arith in
      let place : k ≡ 2 * ((y + j) / 8) + (x + i) / 8 = omega (arith, less, at_x, at_y, a, b) in
      ap₂ (λ (c r : ℕ). predicted_by (f c r) s here) across down
      ∙ ap (λ (m : Motion). predicted_by (f (left + (x + i)) (top + (y + j))) s m) (is ∙ ap (λ (t : ℕ). get_or motion t no_motion) place)

  pub quarter8 : here ≡ get_or motion k no_motion → k < 4 → x ≡ 4 * (k % 2) → y ≡ 4 * (k / 2) → i < 4 → j < 4
      → predicted_by (f (left + x + i) (top + y + j)) s here ≡ predicted_by (f (left + (x + i)) (top + (y + j))) s (get_or motion (2 * ((y + j) / 4) + (x + i) / 4) no_motion)
  quarter8 is less at_x at_y a b =
      let across : left + x + i ≡ left + (x + i) = omega arith in
      let down : top + y + j ≡ top + (y + j) = omega arith in
      let place : k ≡ 2 * ((y + j) / 4) + (x + i) / 4 = omega (arith, less, at_x, at_y, a, b) in
      ap₂ (λ (c r : ℕ). predicted_by (f c r) s here) across down
      ∙ ap (λ (m : Motion). predicted_by (f (left + (x + i)) (top + (y + j))) s m) (is ∙ ap (λ (t : ℕ). get_or motion t no_motion) place)

-- ---- means of two blocks

means_at : (xs ys rest : List ℕ) (k : ℕ) → length xs ≡ length ys → k < length xs → get_or (averaged xs ys ++ rest) k 0 ≡ mean (get_or xs k 0) (get_or ys k 0)
means_at xs ys rest k same less =
    let long : length (averaged xs ys) ≡ length xs = length-zip2 mean xs ys same in
    get_or-append (averaged xs ys) rest 0 k (omega (arith, long, less)) ∙ get_or-zip2 mean xs ys k 0 0 0 less (omega (arith, same, less))

front_long : (xs : List ℕ) (n : ℕ) → n ≤ length xs → length (take n xs) ≡ n
front_long xs n h = grind (arith, common_steps)

front_at : (xs : List ℕ) (n i : ℕ) → i < n → get_or (take n xs) i 0 ≡ get_or xs i 0
front_at xs n i h = grind (arith, common_steps)

pub means_rows : (f g : ℕ → ℕ → ℕ) (side k : ℕ) (a b out rest : List ℕ) → RowsOf f side side a → RowsOf g side side b → k ≡ side * side → k ≤ length a → k ≤ length b → out ≡ averaged (take k a) (take k b)
    → RowsOf (λ i j. mean (f i j) (g i j)) side side (out ++ rest)
means_rows f g side k a b out rest ra rb at_k room_a room_b is = record {
  at = λ i j p q.
      let less : j * side + i < side * side = omega (arith, mul-add-lt j side i side q p) in
      let long_a = front_long a k room_a in
      let long_b = front_long b k room_b in
      ap (λ (l : List ℕ). get_or (l ++ rest) (j * side + i) 0) is
      ∙ means_at (take k a) (take k b) rest (j * side + i) (long_a ∙ sym long_b) (omega (arith, long_a, less, at_k))
      ∙ ap₂ mean (front_at a k (j * side + i) (omega (arith, less, at_k)) ∙ ra.at i j p q) (front_at b k (j * side + i) (omega (arith, less, at_k)) ∙ rb.at i j p q);
}

pub area16 : (side : ℕ) → (side ≡ 8) ⊎ (side ≡ 16) → side * side ≤ 256
area16 side (inl e) = subst (λ (n : ℕ). n * n ≤ 256) (sym e) (lit≤ tt)
area16 side (inr e) = subst (λ (n : ℕ). n * n ≤ 256) (sym e) (lit≤ tt)

pub area8 : (side : ℕ) → (side ≡ 4) ⊎ (side ≡ 8) → side * side ≤ 64
area8 side (inl e) = subst (λ (n : ℕ). n * n ≤ 64) (sym e) (lit≤ tt)
area8 side (inr e) = subst (λ (n : ℕ). n * n ≤ 64) (sym e) (lit≤ tt)
