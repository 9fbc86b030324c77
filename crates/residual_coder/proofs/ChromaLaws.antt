-- Blocks of chroma components, step by step.
use Rattle.std.proofs.Common.{◌≡◌, ◌<◌, ◌∷◌, ℕ, zero, suc, ℤ, pos, Bool, List, [], drop, get_or, sym, ap, ap₂, ◌∙◌, subst}
use Rattle.enc_tables.specs.declared.transform.TheConstants.{ZIGZAG4}
use Rattle.spec_basics.specs.Bounds.{Within}
use Rattle.spec_residual.specs.declared.BlockKind.{BlockKind}
use Rattle.spec_residual.specs.declared.BlockKind.TheVariants.{Chroma4, ChromaDc}
use Rattle.spec_residual.specs.Blocks.{AllWithin, item, listed}
use Rattle.spec_residual.specs.Forward.{chroma_dc_of}
use Rattle.spec_residual.specs.Levels.{IsMade, level_of, chroma_dc_levels_of}
use Rattle.spec_residual.specs.Rescaled.{chroma_dc_rescaled}
use Rattle.spec_residual.proofs.Listed.{item-listed}
use Rattle.spec_reconstruction.specs.declared.Site.{Site}
use Rattle.spec_reconstruction.specs.Parts.{block_at, with_block}
use Rattle.spec_reconstruction.specs.Residuals.{built_with_dc, spectrum4, levels_without_dc}
use Rattle.spec_reconstruction.specs.InOrder.{joined, built_in_order}
use Rattle.spec_reconstruction.specs.Chroma.{chroma_qp, xc, yc, part_chroma, build_chroma, chroma_over, spectrum_chroma, chroma_dc_levels, chroma_ac_levels}
use Rattle.residual_coder.specs.Made.{ChromaQuantised, IsQuantised, others_chroma}
use Rattle.residual_coder.proofs.BlockLaws.{zero_within}
use Rattle.residual_coder.proofs.ZeroLaws.{zero_made}

-- a block whose first level is taken as 0
pub without_first : (kind : BlockKind) (qp : ℕ) (block : List ℤ) → IsQuantised kind qp block → IsQuantised kind qp (pos 0 ∷ drop 1 block)
without_first kind qp block q = record { intra = q.intra; small = λ p h. small_at block p h q.small; made = λ s h. made_at q.intra block s h q.made }
  where
    small_at : (block : List ℤ) (p : ℕ) → p < 16 → AllWithin 16 8191 block → Within 8191 (item (pos 0 ∷ drop 1 block) p)
    small_at block zero h all = zero_within 8191
    small_at [] (suc p) h all = zero_within 8191
    small_at (x ∷ xs) (suc p) h all = all (suc p) h

    made_at : (intra : Bool) (block : List ℤ) (s : ℕ) → s < 16 → ((s : ℕ) → s < 16 → IsMade kind intra qp (get_or ZIGZAG4 s 0) (item block s)) → IsMade kind intra qp (get_or ZIGZAG4 s 0) (item (pos 0 ∷ drop 1 block) s)
    made_at intra block zero h all = zero_made kind intra qp (get_or ZIGZAG4 0 0)
    made_at intra [] (suc s) h all = zero_made kind intra qp (get_or ZIGZAG4 (suc s) 0)
    made_at intra (x ∷ xs) (suc s) h all = all (suc s) h

module _ (wide : ℕ) (site : Site) where
  pub spectrum_chroma_is : (source prediction : List ℕ) (b : ℕ) (original part : List ℕ) (c : List ℤ)
      → original ≡ block_at wide (xc site b) (yc site b) 4 source → part ≡ part_chroma prediction b → c ≡ spectrum4 original part
      → c ≡ spectrum_chroma wide site source prediction b
  unfolding spectrum_chroma
  spectrum_chroma_is source prediction b original part c g h i = i ∙ ap₂ (λ (s p : List ℕ). spectrum4 s p) g h

  pub build_chroma_is : (qp : ℕ) (prediction : List ℕ) (dcs : List ℤ) (b : ℕ) (levels : List ℤ) (plane new : List ℕ) (part : List ℕ) (block : List ℤ) (dc : ℤ) (samples : List ℕ)
      → qp ≡ chroma_qp site.qp → part ≡ part_chroma prediction b → block ≡ pos 0 ∷ levels → dc ≡ item dcs b
      → samples ≡ built_with_dc Chroma4 qp dc block part → new ≡ with_block wide (xc site b) (yc site b) 4 samples plane
      → new ≡ build_chroma wide site prediction dcs b levels plane
  unfolding build_chroma
  build_chroma_is qp prediction dcs b levels plane new part block dc samples q g l d s w =
      w ∙ ap (λ (q : List ℕ). with_block wide (xc site b) (yc site b) 4 q plane)
      (s ∙ ap₂ (λ (z : ℤ) (m : List ℤ). built_with_dc Chroma4 qp z m part) d l
      ∙ ap₂ (λ (v : ℕ) (q : List ℕ). built_with_dc Chroma4 v (item dcs b) (pos 0 ∷ levels) q) q g)

  pub chroma_dc_is : (intra : Bool) (source p : List ℕ) (wide' qp : ℕ) (firsts means levels : List ℤ) → wide' ≡ wide → qp ≡ chroma_qp site.qp
      → firsts ≡ listed 4 (λ b. item (spectrum_chroma wide' site source p b) 0) → means ≡ chroma_dc_of firsts → levels ≡ chroma_dc_levels_of intra qp means → levels ≡ chroma_dc_levels intra wide site source p
  unfolding chroma_dc_levels
  chroma_dc_is intra source p wide' qp firsts means levels w q f g h =
      h ∙ ap₂ (λ (v : ℕ) (l : List ℤ). chroma_dc_levels_of intra v l) q (g ∙ ap (λ (l : List ℤ). chroma_dc_of l)
      (f ∙ ap (λ (v : ℕ). listed 4 (λ b. item (spectrum_chroma v site source p b) 0)) w))

  pub chroma_ac_is : (intra : Bool) (source p : List ℕ) (wide' qp : ℕ) (levels : List ℤ) → wide' ≡ wide → qp ≡ chroma_qp site.qp
      → levels ≡ others_chroma intra wide' site qp source p → levels ≡ chroma_ac_levels intra wide site source p
  unfolding chroma_ac_levels others_chroma
  chroma_ac_is intra source p wide' qp levels w q f =
      f ∙ ap₂ (λ (v u : ℕ). joined (λ b. drop 1 (levels_without_dc Chroma4 intra u (spectrum_chroma v site source p b))) 4) w q

  pub chroma_is_over : (qp : ℕ) (plane new p : List ℕ) (dc dcs ac : List ℤ) → qp ≡ chroma_qp site.qp → dcs ≡ chroma_dc_rescaled qp dc
      → new ≡ built_in_order (build_chroma wide site p dcs) 15 ac 4 plane → new ≡ chroma_over wide site p dc ac plane
  unfolding chroma_over
  chroma_is_over qp plane new p dc dcs ac q g h =
      h ∙ ap (λ (d : List ℤ). built_in_order (build_chroma wide site p d) 15 ac 4 plane) (g ∙ ap (λ (v : ℕ). chroma_dc_rescaled v dc) q)

made_one : (intra : Bool) (qp : ℕ) (xs : List ℤ) → AllWithin 4 16320 xs → (p : ℕ) → p < 4 → IsMade ChromaDc intra qp p (item (chroma_dc_levels_of intra qp xs) p)
unfolding chroma_dc_levels_of
made_one intra qp xs small p h = record { coefficient = item xs p; small = small p h; made = item-listed 4 (λ p. level_of ChromaDc intra qp p (item xs p)) p h }

pub made_dc : (intra : Bool) (qp : ℕ) (xs levels : List ℤ) → levels ≡ chroma_dc_levels_of intra qp xs → AllWithin 4 16320 xs → (p : ℕ) → p < 4 → IsMade ChromaDc intra qp p (item levels p)
made_dc intra qp xs levels is small p h =
    let P : List ℤ → Type 0 = λ l. IsMade ChromaDc intra qp p (item l p) in
    subst P (sym is) (made_one intra qp xs small p h)

-- by either name of the quantisation parameter
pub chroma_quantised : (qp qp' : ℕ) (dc ac : List ℤ) → qp ≡ qp' → ChromaQuantised qp dc ac → ChromaQuantised qp' dc ac
chroma_quantised qp qp' dc ac e q = subst (λ (v : ℕ). ChromaQuantised v dc ac) e q
