-- What planes cost is what the plan's lists of samples cost: the bridge from a search over planes to the definitions of plans.
use Rattle.std.proofs.Common.{◌≡◌, ℕ, ◌+◌, ◌*◌, ◌/◌, ◌<◌, List, take, drop, get_or, length, sym, ap, ◌∙◌, subst, arith}
use Rattle.std.proofs.lemmas.Grind.{common_steps}
use Rattle.std.proofs.Math.Nat.{mul-div_cancel}
use Rattle.std.specs.Prelude.{ℤ, pos, ◌+ℤ◌}
use Rattle.std.specs.Int.{abs_diff}
use Rattle.std.specs.List.{sum_by}
use Rattle.enc_tables.specs.declared.records.Vector.{Vector}
use Rattle.spec_film.specs.Films.{Planes}
use Rattle.spec_film.specs.Places.{sample_at}
use Rattle.spec_inter.specs.Luma.{inter_luma}
use Rattle.spec_kernels.specs.Sums.{block_sum, shifted, sum_apart}
use Rattle.spec_kernels.proofs.SumLaws.{block-same, sum-same}
use Rattle.spec_search.specs.declared.blocks.Block.{Block}
use Rattle.spec_search.specs.Window.{own, moved, cost_of, bound_of, scanned, IsWindowBest, compared_in}
use Rattle.spec_search.specs.Scan.{window_size, dx_of, dy_of, spot_at}
use Rattle.spec_search.specs.Least.{compared_of}
use Rattle.spec_search.specs.Refine.{IsRefined}
use Rattle.spec_inter_plans.specs.InterPlans.{Search, wide, own_luma, luma_of, moved_sample, difference_of, compared, nine_compared, partitions, at as block_at}
use Rattle.picture_planes.specs.declared.plane.Plane.{Plane}
use Rattle.picture_planes.specs.Samples.{at, samples_of}
use Rattle.picture_planes.specs.Margins.{nearest}
use Rattle.picture_planes.proofs.SampleLaws.{row_of_samples, samples_length}
use Rattle.picture_planes.proofs.Filling.{nearest_is}
use Rattle.motion_search.specs.Planes.{costs, bounds, IsBlockOf, SameSize}
use Rattle.motion_search.specs.Quarters.{quarter_costs}
use Rattle.nine_search.specs.Partitions.{partition_block}
use Rattle.motion_search.proofs.Parts.{within}
use Rattle.nine_search.proofs.Summing.{sums_of_nine}
use Rattle.nine_search.proofs.Fours.{partition_inside}

-- the planes are the source of the search and a picture of it
pub record ArePlanned (s : Search) (p : Planes) (source reference : Plane) : Type 0 where
  pub width : source.width ≡ wide s
  pub sizes : SameSize source reference
  pub source_luma : samples_of source ≡ s.source.luma
  pub luma : samples_of reference ≡ p.luma

in_row : (xs : List ℕ) (i w x : ℕ) → x < w → get_or (take w (drop i xs)) x 0 ≡ get_or xs (i + x) 0
in_row xs i w x h = grind (arith, common_steps)

own_is : (s : Search) (p : Planes) (f r : Plane) → ArePlanned s p f r → (x y : ℕ) → x < f.width → y < f.height → at f x y ≡ own_luma s x y
own_is s p f r h x y lt below =
    ap (λ (l : List ℕ). get_or l x 0) (row_of_samples f y below)
    ∙ in_row (samples_of f) (y * f.width) f.width x lt
    ∙ ap (λ (l : List ℕ). get_or l (y * f.width + x) 0) h.source_luma
    ∙ ap (λ (w : ℕ). get_or s.source.luma (y * w + x) 0) h.width

width_is : (s : Search) (p : Planes) (f r : Plane) → ArePlanned s p f r → r.width ≡ wide s
width_is s p f r h = sym h.sizes.width ∙ h.width

height_is : (s : Search) (p : Planes) (f r : Plane) → ArePlanned s p f r → r.height ≡ length p.luma / wide s
height_is s p f r h =
    sym (mul-div_cancel r.height r.size.0)
    ∙ ap (λ (n : ℕ). n / r.width) (sym (samples_length r) ∙ ap (λ (l : List ℕ). length l) h.luma)
    ∙ ap (λ (w : ℕ). length p.luma / w) (width_is s p f r h)

luma_is : (s : Search) (p : Planes) (f r : Plane) → ArePlanned s p f r → (x y : ℤ) → nearest r x y ≡ luma_of s p x y
luma_is s p f r h x y =
    nearest_is r x y
    ∙ ap (λ (w : ℕ). sample_at w r.height (samples_of r) x y) (width_is s p f r h)
    ∙ ap (λ (n : ℕ). sample_at (wide s) n (samples_of r) x y) (height_is s p f r h)
    ∙ ap (λ (l : List ℕ). sample_at (wide s) (length p.luma / wide s) l x y) h.luma

costs_are : (s : Search) (p : Planes) (f r : Plane) (b : Block) → ArePlanned s p f r → IsBlockOf f b → (dx dy : ℤ) → costs f r b dx dy ≡ cost_of (own_luma s) (luma_of s p) b dx dy
unfolding cost_of
costs_are s p f r b h i dx dy =
    let across = i.across in
    let down = i.down in
    block-same
    (λ i j. abs_diff (at f (b.x + i) (b.y + j)) (nearest r (pos (b.x + i) +ℤ dx) (pos (b.y + j) +ℤ dy)))
    (λ i j. abs_diff (own_luma s (b.x + i) (b.y + j)) (luma_of s p (pos (b.x + i) +ℤ dx) (pos (b.y + j) +ℤ dy))) b.w b.h
    (λ i j u v. ap (λ (k : ℕ). abs_diff k (nearest r (pos (b.x + i) +ℤ dx) (pos (b.y + j) +ℤ dy))) (own_is s p f r h (b.x + i) (b.y + j) (omega arith) (omega arith))
    ∙ ap (abs_diff (own_luma s (b.x + i) (b.y + j))) (luma_is s p f r h (pos (b.x + i) +ℤ dx) (pos (b.y + j) +ℤ dy)))

bounds_are : (s : Search) (p : Planes) (f r : Plane) (b : Block) → ArePlanned s p f r → IsBlockOf f b → (dx dy : ℤ) → bounds f r b dx dy ≡ bound_of (own_luma s) (luma_of s p) b dx dy
unfolding bound_of
bounds_are s p f r b h i dx dy =
    let across = i.across in
    let down = i.down in
    block-same
    (λ k l. sum_apart (shifted (own (at f) b) (8 * k) (8 * l)) (shifted (moved (nearest r) b dx dy) (8 * k) (8 * l)) 8 8)
    (λ k l. sum_apart (shifted (own (own_luma s) b) (8 * k) (8 * l)) (shifted (moved (luma_of s p) b dx dy) (8 * k) (8 * l)) 8 8) (b.w / 8) (b.h / 8)
    (λ k l u v. (let x = within b.w k i.wide u in
    let y = within b.h l i.high v in
    ap (λ (n : ℕ). abs_diff n (block_sum (shifted (moved (nearest r) b dx dy) (8 * k) (8 * l)) 8 8))
    (block-same (shifted (own (at f) b) (8 * k) (8 * l)) (shifted (own (own_luma s) b) (8 * k) (8 * l)) 8 8
    (λ i j c d. own_is s p f r h (b.x + (8 * k + i)) (b.y + (8 * l + j)) (omega arith) (omega arith)))
    ∙ ap (abs_diff (block_sum (shifted (own (own_luma s) b) (8 * k) (8 * l)) 8 8))
    (block-same (shifted (moved (nearest r) b dx dy) (8 * k) (8 * l)) (shifted (moved (luma_of s p) b dx dy) (8 * k) (8 * l)) 8 8
    (λ i j c d. luma_is s p f r h (pos (b.x + (8 * k + i)) +ℤ dx) (pos (b.y + (8 * l + j)) +ℤ dy)))))

quarters_are : (s : Search) (p : Planes) (f r : Plane) (b : Block) → ArePlanned s p f r → IsBlockOf f b → (v : Vector) → quarter_costs f r b v ≡ difference_of s b (moved_sample s b p v)
unfolding quarter_costs
quarters_are s p f r b h i v =
    let across = i.across in
    let down = i.down in
    block-same
    (λ i j. abs_diff (at f (b.x + i) (b.y + j)) (inter_luma r.width r.height (samples_of r) (pos (b.x + i)) (pos (b.y + j)) v))
    (λ i j. abs_diff (own_luma s (b.x + i) (b.y + j)) (moved_sample s b p v i j)) b.w b.h
    (λ i j c d. ap (λ (k : ℕ). abs_diff k (inter_luma r.width r.height (samples_of r) (pos (b.x + i)) (pos (b.y + j)) v)) (own_is s p f r h (b.x + i) (b.y + j) (omega arith) (omega arith))
    ∙ ap (abs_diff (own_luma s (b.x + i) (b.y + j)))
    (ap (λ (w : ℕ). inter_luma w r.height (samples_of r) (pos (b.x + i)) (pos (b.y + j)) v) (width_is s p f r h)
    ∙ ap (λ (n : ℕ). inter_luma (wide s) n (samples_of r) (pos (b.x + i)) (pos (b.y + j)) v) (height_is s p f r h)
    ∙ ap (λ (l : List ℕ). inter_luma (wide s) (length p.luma / wide s) l (pos (b.x + i)) (pos (b.y + j)) v) h.luma))

-- ---- what the laws of plans take

pub window_planned : (s : Search) (p : Planes) (f r : Plane) (b : Block) (dx dy : ℤ) (size : ℕ) → ArePlanned s p f r → IsBlockOf f b
    → IsWindowBest (costs f r b) s.range dx dy size → IsWindowBest (cost_of (own_luma s) (luma_of s p) b) s.range dx dy size
window_planned s p f r b dx dy size h i w =
    let e : costs f r b ≡ cost_of (own_luma s) (luma_of s p) b = λ t u v. costs_are s p f r b h i u v t in
    subst (λ (c : ℤ → ℤ → ℕ). IsWindowBest c s.range dx dy size) e w

pub refined_planned : (s : Search) (p : Planes) (f r : Plane) (b : Block) (dx dy : ℤ) (v : Vector) (size : ℕ) → ArePlanned s p f r → IsBlockOf f b
    → IsRefined (quarter_costs f r b) dx dy v size → IsRefined (λ w. difference_of s b (moved_sample s b p w)) dx dy v size
refined_planned s p f r b dx dy v size h i w =
    let e : quarter_costs f r b ≡ (λ w. difference_of s b (moved_sample s b p w)) = λ t u. quarters_are s p f r b h i u t in
    subst (λ (c : Vector → ℕ). IsRefined c dx dy v size) e w

one_compared : (s : Search) (p : Planes) (f r : Plane) (b : Block) → ArePlanned s p f r → IsBlockOf f b → compared_in (costs f r b) (bounds f r b) s.range ≡ compared s b p
unfolding compared
one_compared s p f r b h i =
    let c : scanned (costs f r b) ≡ scanned (cost_of (own_luma s) (luma_of s p) b) = λ t n. costs_are s p f r b h i (dx_of (spot_at n)) (dy_of (spot_at n)) t in
    let d : scanned (bounds f r b) ≡ scanned (bound_of (own_luma s) (luma_of s p) b) = λ t n. bounds_are s p f r b h i (dx_of (spot_at n)) (dy_of (spot_at n)) t in
    λ t. compared_of (c t) (d t) (window_size s.range)

pub compared_planned : (s : Search) (p : Planes) (f r : Plane) (x y : ℕ) → ArePlanned s p f r → IsBlockOf f (block_at x y 16 16)
    → sum_by (λ b. compared_in (costs f r b) (bounds f r b) s.range) (partitions x y) ≡ nine_compared s x y p
unfolding nine_compared
compared_planned s p f r x y h i =
    sym (sums_of_nine (λ b. compared_in (costs f r b) (bounds f r b) s.range) x y)
    ∙ sum-same (λ k. compared_in (costs f r (partition_block x y k)) (bounds f r (partition_block x y k)) s.range) (λ k. compared s (partition_block x y k) p) 9
    (λ k q. one_compared s p f r (partition_block x y k) h (partition_inside f.width f.height x y k i q))
    ∙ sums_of_nine (λ b. compared s b p) x y
