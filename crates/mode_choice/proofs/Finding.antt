-- What a search finds is short and small, and is what the plan's definition finds.
use Rattle.std.proofs.Common.{◌≡◌, ◌≤◌, ◌+◌, ℕ, sym, subst, ap, ◌∙◌, arith, refl}
use Rattle.std.proofs.lemmas.Int.{ints}
use Rattle.std.specs.Prelude.{ℤ, pos}
use Rattle.std.specs.List.{sum_by}
use Rattle.enc_tables.specs.declared.records.Vector.{Vector}
use Rattle.spec_search.specs.declared.blocks.Block.{Block}
use Rattle.spec_search.specs.Scan.{InRange}
use Rattle.spec_search.specs.Refine.{in_quarters, IsRefined}
use Rattle.spec_search.specs.Window.{IsWindowBest, own, compared_in}
use Rattle.spec_inter_plans.specs.InterPlans.{Search, found, at as block_at, partitions, nine_compared}
use Rattle.spec_inter_plans.proofs.Near.{found_only}
use Rattle.picture_planes.specs.declared.plane.Plane.{Plane}
use Rattle.picture_planes.specs.Pictures.{planes_of}
use Rattle.picture_planes.specs.Samples.{at, samples_of}
use Rattle.subpel_filter.specs.Predicted.{IsShort, luma_at}
use Rattle.motion_search.specs.Planes.{costs, bounds, IsBlockOf, SameSize}
use Rattle.motion_search.specs.Quarters.{quarter_costs, IsWithin}
use Rattle.motion_search.proofs.Costs.{sides}
use Rattle.motion_search.proofs.Quartering.{turned_within, abs_bounds}
use Rattle.nine_search.proofs.Planned.{ArePlanned, window_planned, refined_planned, compared_planned}
use Rattle.ref_lists.specs.declared.held.Reference.{Reference}
use Rattle.ref_lists.specs.Held.{IsMade}
use Rattle.mode_choice.specs.Given.{IsSourceOf}
use Rattle.mode_choice.proofs.Bytes.{AreBytes, luma_small, block_small}

pub same_size : (p : Plane) (r : Reference) → IsMade p.width p.height r → SameSize p r.picture.y
same_size p r h = record { width = sym h.luma.0; height = sym h.luma.1 }

pub wider : (m n : ℕ) (dx dy : ℤ) → m ≤ n → InRange m dx dy → InRange n dx dy
wider m n dx dy le h = let a = h.across in let b = h.down in record { across = omega arith; down = omega arith }

-- a refined vector of a window of at most 32 samples
pub refined_short : (cost : Vector → ℕ) (dx dy : ℤ) (best : Vector) (size : ℕ) → InRange 32 dx dy → IsRefined cost dx dy best size → IsShort best
refined_short cost dx dy best size near r =
    let a = abs_bounds dx 32 near.across in
    let b = abs_bounds dy 32 near.down in
    let centre : IsWithin 128 (in_quarters dx dy) = record { left = omega (arith, ints); right = omega (arith, ints); up = omega (arith, ints); down = omega (arith, ints) } in
    let half : IsWithin 130 r.half = subst (λ (v : Vector). IsWithin 130 v) (sym r.coarse.stands) (turned_within 128 130 2 r.coarse.turn (in_quarters dx dy) r.coarse.first_least.inside (omega arith) centre) in
    let last : IsWithin 131 best = subst (λ (v : Vector). IsWithin 131 v) (sym r.fine.stands) (turned_within 130 131 1 r.fine.turn r.half r.fine.first_least.inside (omega arith) half) in
    record { left = last.left; right = last.right; up = last.up; down = last.down }

quarter_small : (s r : Plane) (b : Block) (v : Vector) → IsBlockOf s b → ((x y : ℕ) → at s x y ≤ 255) → AreBytes (samples_of r) → quarter_costs s r b v ≤ 65280
unfolding quarter_costs
quarter_small s r b v inside small bytes =
    let w = sides b.w inside.wide in
    let h = sides b.h inside.high in
    block_small (own (at s) b) (luma_at r b.x b.y v) b.w b.h w.1 h.1 (λ i j p q. small (b.x + i) (b.y + j))
    (λ i j p q. luma_small r.width r.height (samples_of r) (pos (b.x + i)) (pos (b.y + j)) v bytes)

pub refined_size : (s r : Plane) (b : Block) (dx dy : ℤ) (v : Vector) (size : ℕ) → IsBlockOf s b → ((x y : ℕ) → at s x y ≤ 255) → AreBytes (samples_of r) → IsRefined (quarter_costs s r b) dx dy v size → size ≤ 65280
refined_size s r b dx dy v size inside small bytes h = subst (λ (n : ℕ). n ≤ 65280) (sym h.is_cost) (quarter_small s r b v inside small bytes)

-- the planes of a source and of a reference
pub are_planned : (s : Search) (p : Plane) (r : Reference) → IsSourceOf s p → IsMade p.width p.height r → ArePlanned s (planes_of r.picture) p r.picture.y
are_planned s p r h m = record { width = h.width; sizes = same_size p r m; source_luma = h.luma; luma = refl }

pub found_is : (s : Search) (p : Plane) (r : Reference) (b : Block) (range : ℕ) (dx dy : ℤ) (least : ℕ) (v : Vector) (size : ℕ) → IsSourceOf s p → IsMade p.width p.height r → s.range ≡ range → IsBlockOf p b
    → IsWindowBest (costs p r.picture.y b) range dx dy least → IsRefined (quarter_costs p r.picture.y b) dx dy v size → found s b (planes_of r.picture) ≡ record { vector = v; size = size }
found_is s p r b range dx dy least v size h m e inside w f =
    let planned = are_planned s p r h m in
    let w2 : IsWindowBest (costs p r.picture.y b) s.range dx dy least = subst (λ (n : ℕ). IsWindowBest (costs p r.picture.y b) n dx dy least) (sym e) w in
    found_only s b (planes_of r.picture) dx dy least v size (window_planned s (planes_of r.picture) p r.picture.y b dx dy least planned inside w2) (refined_planned s (planes_of r.picture) p r.picture.y b dx dy v size planned inside f)

pub compared_is : (s : Search) (p : Plane) (r : Reference) (x y range n : ℕ) → IsSourceOf s p → IsMade p.width p.height r → s.range ≡ range → IsBlockOf p (block_at x y 16 16)
    → n ≡ sum_by (λ b. compared_in (costs p r.picture.y b) (bounds p r.picture.y b) range) (partitions x y) → n ≡ nine_compared s x y (planes_of r.picture)
compared_is s p r x y range n h m e inside is =
    is
    ∙ ap (λ (k : ℕ). sum_by (λ b. compared_in (costs p r.picture.y b) (bounds p r.picture.y b) k) (partitions x y)) (sym e)
    ∙ compared_planned s (planes_of r.picture) p r.picture.y x y (are_planned s p r h m) inside
