-- Chroma components of intra macroblocks, over their predictions.
use Rattle.std.proofs.Common.{◌≡◌, ◌/◌, ◌++◌, ℕ, ℤ, true, List, length, take, drop, sym, ap, ap₂, ◌∙◌, arith}
use Rattle.std.proofs.lemmas.Grind.{common_steps}
use Rattle.spec_residual.specs.Levels.{levels4_of, chroma_dc_levels_of}
use Rattle.spec_residual.proofs.Listed.{length-listed}
use Rattle.spec_reconstruction.specs.Residuals.{levels_without_dc}
use Rattle.spec_reconstruction.proofs.Rebuilt.{length-joined}
use Rattle.spec_intra.specs.declared.NbC.{NbC}
use Rattle.spec_intra.specs.Near.{plane_sample, neighbours_chroma}
use Rattle.spec_intra.specs.Predictions.{predicted_chroma}
use Rattle.spec_reconstruction.specs.declared.Site.{Site}
use Rattle.spec_reconstruction.specs.Chroma.{prediction_chroma, chroma_built, chroma_over, chroma_dc, chroma_ac, chroma_dc_levels, chroma_ac_levels}

module _ (wide : ℕ) (site : Site) (mode : ℕ) (plane : List ℕ) where
  pub prediction_chroma_is : (near : NbC) (p : List ℕ) → near ≡ neighbours_chroma (plane_sample wide plane) site.near (site.x / 2) (site.y / 2)
      → p ≡ predicted_chroma mode near → p ≡ prediction_chroma wide site mode plane
  unfolding prediction_chroma
  prediction_chroma_is near p e f = f ∙ ap (λ (n : NbC). predicted_chroma mode n) e

  pub chroma_dc_is : (source p : List ℕ) (levels : List ℤ) → p ≡ prediction_chroma wide site mode plane → levels ≡ chroma_dc_levels true wide site source p → levels ≡ chroma_dc wide site mode source plane
  unfolding chroma_dc
  chroma_dc_is source p levels e f = f ∙ ap (λ (q : List ℕ). chroma_dc_levels true wide site source q) e

  pub chroma_ac_is : (source p : List ℕ) (levels : List ℤ) → p ≡ prediction_chroma wide site mode plane → levels ≡ chroma_ac_levels true wide site source p → levels ≡ chroma_ac wide site mode source plane
  unfolding chroma_ac
  chroma_ac_is source p levels e f = f ∙ ap (λ (q : List ℕ). chroma_ac_levels true wide site source q) e

  pub chroma_is_built : (new p : List ℕ) (dc ac : List ℤ) → p ≡ prediction_chroma wide site mode plane → new ≡ chroma_over wide site p dc ac plane → new ≡ chroma_built wide site mode dc ac plane
  unfolding chroma_built
  chroma_is_built new p dc ac e f = f ∙ ap (λ (q : List ℕ). chroma_over wide site q dc ac plane) e

-- ---- both components

dc_long : (wide : ℕ) (site : Site) (mode : ℕ) (source plane : List ℕ) → length (chroma_dc wide site mode source plane) ≡ 4
unfolding chroma_dc chroma_dc_levels chroma_dc_levels_of
dc_long wide site mode source plane = length-listed 4 _

ac_long : (wide : ℕ) (site : Site) (mode : ℕ) (source plane : List ℕ) → length (chroma_ac wide site mode source plane) ≡ 60
unfolding chroma_ac chroma_ac_levels levels_without_dc levels4_of
ac_long wide site mode source plane = length-joined _ 15 4 (λ b. fifteen _ (length-listed 16 _))
  where
    fifteen : (block : List ℤ) → length block ≡ 16 → length (drop 1 block) ≡ 15
    fifteen block long = grind (arith, common_steps)

front_of : (n : ℕ) (both first second : List ℤ) → both ≡ first ++ second → length first ≡ n → take n both ≡ first
front_of n both first second e h = ap (λ (l : List ℤ). take n l) e ∙ (let k : take n (first ++ second) ≡ first = grind (arith, common_steps) in k)

back_of : (n : ℕ) (both first second : List ℤ) → both ≡ first ++ second → length first ≡ n → drop n both ≡ second
back_of n both first second e h = ap (λ (l : List ℤ). drop n l) e ∙ (let k : drop n (first ++ second) ≡ second = grind (arith, common_steps) in k)

-- each component is built from its half of the levels
module _ (mode : ℕ) (site : Site) (wide wide' : ℕ) (source plane plane' : List ℕ) (dc ac dc0 ac0 dc1 ac1 : List ℤ) where
  pub first_half : (new : List ℕ) → dc ≡ dc0 ++ dc1 → ac ≡ ac0 ++ ac1 → dc0 ≡ chroma_dc wide site mode source plane → ac0 ≡ chroma_ac wide site mode source plane
      → new ≡ chroma_built wide site mode dc0 ac0 plane → new ≡ chroma_built wide site mode (take 4 dc) (take 60 ac) plane
  first_half new e f d a b =
      let four : length dc0 ≡ 4 = ap (λ (l : List ℤ). length l) d ∙ dc_long wide site mode source plane in
      let sixty : length ac0 ≡ 60 = ap (λ (l : List ℤ). length l) a ∙ ac_long wide site mode source plane in
      b ∙ ap₂ (λ (x y : List ℤ). chroma_built wide site mode x y plane) (sym (front_of 4 dc dc0 dc1 e four)) (sym (front_of 60 ac ac0 ac1 f sixty))

  pub second_half : (new : List ℕ) → dc ≡ dc0 ++ dc1 → ac ≡ ac0 ++ ac1 → dc0 ≡ chroma_dc wide site mode source plane → ac0 ≡ chroma_ac wide site mode source plane
      → new ≡ chroma_built wide' site mode dc1 ac1 plane' → new ≡ chroma_built wide' site mode (drop 4 dc) (drop 60 ac) plane'
  second_half new e f d a b =
      let four : length dc0 ≡ 4 = ap (λ (l : List ℤ). length l) d ∙ dc_long wide site mode source plane in
      let sixty : length ac0 ≡ 60 = ap (λ (l : List ℤ). length l) a ∙ ac_long wide site mode source plane in
      b ∙ ap₂ (λ (x y : List ℤ). chroma_built wide' site mode x y plane') (sym (back_of 4 dc dc0 dc1 e four)) (sym (back_of 60 ac ac0 ac1 f sixty))
