-- What is found for a block in a reference: the only thing that a search can find, and near its window.
use Rattle.std.proofs.Common.{◌≡◌, ◌+◌, ◌*◌, ℕ, ℤ, sym, ap, ◌∙◌, subst}
use Rattle.enc_tables.specs.declared.records.Vector.{Vector}
use Rattle.spec_film.specs.Films.{Planes}
use Rattle.spec_partitions.specs.Small.{Small}
use Rattle.spec_search.specs.declared.blocks.Block.{Block}
use Rattle.spec_search.specs.Window.{cost_of, IsWindowBest}
use Rattle.spec_search.specs.Refine.{IsRefined}
use Rattle.spec_inter_plans.specs.Found.{window_best, best_of_nine, refined}
use Rattle.spec_inter_plans.specs.InterPlans.{Search, own_luma, luma_of, moved_sample, difference_of, found}
use Rattle.spec_inter_plans.proofs.Windows.{window_found, window_only}
use Rattle.spec_inter_plans.proofs.Rounds.{round_size, quarters_small, refined_small, refined_only}

pub found_only : (s : Search) (block : Block) (p : Planes) (dx dy : ℤ) (least : ℕ) (v : Vector) (size : ℕ) → IsWindowBest (cost_of (own_luma s) (luma_of s p) block) s.range dx dy least
    → IsRefined (λ w. difference_of s block (moved_sample s block p w)) dx dy v size → found s block p ≡ record { vector = v; size = size }
unfolding found
found_only s block p dx dy least v size w r =
    ap (λ (start : Vector). refined (λ w. difference_of s block (moved_sample s block p w)) start) (window_only (cost_of (own_luma s) (luma_of s p) block) s.range dx dy least w)
    ∙ refined_only (λ w. difference_of s block (moved_sample s block p w)) dx dy v size r

pub found_small : (s : Search) (block : Block) (p : Planes) → Small (4 * s.range + 3) (found s block p).vector
unfolding found
found_small s block p =
    let f = window_found (cost_of (own_luma s) (luma_of s p) block) s.range in
    let start : Small (4 * s.range) (window_best (cost_of (own_luma s) (luma_of s p) block) s.range) = subst (λ (v : Vector). Small (4 * s.range) v) (sym f.stands) (quarters_small s.range f.dx f.dy f.best.inside) in
    refined_small (λ w. difference_of s block (moved_sample s block p w)) (4 * s.range) _ start

-- its cost is that of its vector
pub found_size : (s : Search) (block : Block) (p : Planes) → (found s block p).size ≡ difference_of s block (moved_sample s block p (found s block p).vector)
unfolding found refined
found_size s block p =
    let start : Vector = window_best (cost_of (own_luma s) (luma_of s p) block) s.range in
    round_size (λ w. difference_of s block (moved_sample s block p w)) (best_of_nine (λ w. difference_of s block (moved_sample s block p w)) start 2).vector 1
