-- The best modes of blocks, by what was read of the planes.
use Rattle.std.proofs.Common.{◌≡◌, ◌+◌, ℕ, List, sym, ap, ap₂, ◌∙◌}
use Rattle.spec_intra.specs.declared.Avail.{Avail}
use Rattle.spec_intra.specs.declared.Nb4.{Nb4}
use Rattle.spec_intra.specs.declared.Nb8.{Nb8}
use Rattle.spec_intra.specs.declared.Nb16.{Nb16}
use Rattle.spec_intra.specs.declared.NbC.{NbC}
use Rattle.spec_intra.specs.Near.{plane_sample, neighbours4, neighbours8, neighbours16, neighbours_chroma}
use Rattle.spec_intra.specs.Predictions.{edge4, edge8, from_edge, predicted4, predicted8, predicted16, predicted_chroma, is_allowed}
use Rattle.spec_reconstruction.specs.Parts.{block_at}
use Rattle.spec_choice.specs.declared.ModeCost.{ModeCost}
use Rattle.spec_basics.specs.Sums.{sad}
use Rattle.spec_choice.specs.Modes.{best_mode}
use Rattle.spec_choice.specs.IntraPlans.{best4, best8, best16, best_chroma}

pub best4_is : (wide : ℕ) (luma : List ℕ) (avail : Avail) (x y : ℕ) (near : Nb4) (source e : List ℕ) (a : Avail) (r : ModeCost)
    → near ≡ neighbours4 (plane_sample wide luma) avail x y → e ≡ edge4 near → a ≡ near.avail → source ≡ block_at wide x y 4 luma
    → r ≡ best_mode 9 (λ m. is_allowed 4 m a) (λ m. sad source (from_edge 4 m a e)) → r ≡ best4 wide luma avail x y
unfolding best4 neighbours4
best4_is wide luma avail x y near source e a r is_near is_e is_a is_source is_r =
    is_r
    ∙ ap₂ (λ (b : Avail) (l : List ℕ). best_mode 9 (λ m. is_allowed 4 m b) (λ m. sad source (from_edge 4 m b l))) is_a is_e
    ∙ ap₂ (λ (n : Nb4) (s : List ℕ). best_mode 9 (λ m. is_allowed 4 m n.avail) (λ m. sad s (predicted4 m n))) is_near is_source

pub best8_is : (wide : ℕ) (luma : List ℕ) (avail : Avail) (x y : ℕ) (near : Nb8) (source e : List ℕ) (a : Avail) (r : ModeCost)
    → near ≡ neighbours8 (plane_sample wide luma) avail x y → e ≡ edge8 near → a ≡ near.avail → source ≡ block_at wide x y 8 luma
    → r ≡ best_mode 9 (λ m. is_allowed 8 m a) (λ m. sad source (from_edge 8 m a e)) → r ≡ best8 wide luma avail x y
unfolding best8 neighbours8
best8_is wide luma avail x y near source e a r is_near is_e is_a is_source is_r =
    is_r
    ∙ ap₂ (λ (b : Avail) (l : List ℕ). best_mode 9 (λ m. is_allowed 8 m b) (λ m. sad source (from_edge 8 m b l))) is_a is_e
    ∙ ap₂ (λ (n : Nb8) (s : List ℕ). best_mode 9 (λ m. is_allowed 8 m n.avail) (λ m. sad s (predicted8 m n))) is_near is_source

pub best16_is : (wide : ℕ) (luma : List ℕ) (avail : Avail) (x y : ℕ) (near : Nb16) (source : List ℕ) (r : ModeCost)
    → near ≡ neighbours16 (plane_sample wide luma) avail x y → source ≡ block_at wide x y 16 luma
    → r ≡ best_mode 4 (λ m. is_allowed 16 m near.avail) (λ m. sad source (predicted16 m near)) → r ≡ best16 wide luma avail x y
unfolding best16 neighbours16
best16_is wide luma avail x y near source r is_near is_source is_r =
    is_r
    ∙ ap₂ (λ (n : Nb16) (s : List ℕ). best_mode 4 (λ m. is_allowed 16 m n.avail) (λ m. sad s (predicted16 m n))) is_near is_source

pub best_chroma_is : (wide wide' : ℕ) (cb cr : List ℕ) (avail : Avail) (x y : ℕ) (near_cb near_cr : NbC) (source_cb source_cr : List ℕ) (r : ModeCost)
    → wide ≡ wide' → near_cb ≡ neighbours_chroma (plane_sample wide cb) avail x y → near_cr ≡ neighbours_chroma (plane_sample wide' cr) avail x y
    → source_cb ≡ block_at wide x y 8 cb → source_cr ≡ block_at wide' x y 8 cr
    → r ≡ best_mode 4 (λ m. is_allowed 2 m near_cb.avail) (λ m. sad source_cb (predicted_chroma m near_cb) + sad source_cr (predicted_chroma m near_cr))
    → r ≡ best_chroma wide cb cr avail x y
unfolding best_chroma neighbours_chroma
best_chroma_is wide wide' cb cr avail x y near_cb near_cr source_cb source_cr r same is_cb is_cr is_source_cb is_source_cr is_r =
    is_r
    ∙ ap₂ (λ (n : NbC) (s : List ℕ). best_mode 4 (λ m. is_allowed 2 m n.avail) (λ m. sad s (predicted_chroma m n) + sad source_cr (predicted_chroma m near_cr))) is_cb is_source_cb
    ∙ ap₂ (λ (n : NbC) (s : List ℕ). best_mode 4 (λ m. is_allowed 2 m avail)
    (λ m. sad (block_at wide x y 8 cb) (predicted_chroma m (neighbours_chroma (plane_sample wide cb) avail x y)) + sad s (predicted_chroma m n)))
    (is_cr ∙ ap (λ (w : ℕ). neighbours_chroma (plane_sample w cr) avail x y) (sym same))
    (is_source_cr ∙ ap (λ (w : ℕ). block_at w x y 8 cr) (sym same))
