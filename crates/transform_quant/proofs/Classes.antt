-- Whole 4x4 blocks: what belongs to the class of each place, levels, and what is made of them.
use Rattle.std.proofs.Common.{◌≡◌, ℕ, ℤ, pos, negsuc, ◌*◌, ◌/◌, ◌%◌, ◌^◌, ◌<◌, ◌≤◌, ◌*ℤ◌, Bool, List, [], ◌∷◌, get_or, ap, ◌∙◌, arith, lit≤, subst, sym, w16, w32, to_z, of_z}
use Rattle.std.proofs.lemmas.Int.{ints, to_z-of_z}
use Rattle.std.proofs.lemmas.List.{get_or-map}
use mir.Val.{SFits}
use Rattle.enc_tables.specs.declared.transform.TheConstants.{CLASS4, SCALING4}
use Rattle.spec_residual.specs.declared.BlockKind.{BlockKind}
use Rattle.spec_residual.specs.declared.BlockKind.TheVariants.{Chroma4, Luma4}
use Rattle.spec_basics.specs.Bounds.{Within}
use Rattle.spec_residual.specs.Blocks.{in_table}
use Rattle.spec_residual.specs.Levels.{level_of, multiplier, rounding, shift, signed_level}
use Rattle.spec_residual.specs.Rescaled.{rescaled, scaling}
use Rattle.spec_residual.proofs.Bounds.{times_within, within_more}
use Rattle.transform_quant.proofs.Counted.{fits_from_within}

pub classed : (e o m p : ℕ) → p < 16 → get_or (e ∷ m ∷ e ∷ m ∷ m ∷ o ∷ m ∷ o ∷ e ∷ m ∷ e ∷ m ∷ m ∷ o ∷ m ∷ o ∷ []) p 0 ≡ get_or (e ∷ o ∷ m ∷ []) (get_or CLASS4 p 0) 0
classed e o m p h = get_or-map (λ (k : ℕ). get_or (e ∷ o ∷ m ∷ []) k 0) CLASS4 p 0 0 h

fits_16 : (z : ℤ) → Within 8191 z → SFits w16 z
fits_16 (pos n) w = record { sfits = omega (arith, ints) }
fits_16 (negsuc n) w = record { sfits = omega (arith, ints) }

-- x is a level, as a number of 32 bits
pub product_within : (x y : ℤ) (n : ℕ) → x ≡ to_z w32 (of_z w32 (to_z w16 (of_z w16 y))) → Within 8191 y → n ≤ 14848 → Within 2147483647 (x *ℤ pos n)
product_within x y n e w h =
    let f : SFits w32 y = fits_from_within y (within_more 8191 65280 y (lit≤ tt) w) in
    let g : to_z w16 (of_z w16 y) ≡ y = to_z-of_z w16 y (fits_16 y w) in
    let is : x ≡ y = e ∙ ap (λ (z : ℤ). to_z w32 (of_z w32 z)) g ∙ to_z-of_z w32 y f in
    subst (λ (z : ℤ). Within 2147483647 (z *ℤ pos n)) (sym is) (within_more 121619968 2147483647 _ (lit≤ tt) (times_within 8191 14848 n y w h))

pub levels_are : (kind : BlockKind) (intra : Bool) (qp p m f t : ℕ) (v x : ℤ) → v ≡ signed_level m f t x → m ≡ multiplier kind qp p → f ≡ rounding kind intra qp → t ≡ shift kind qp → v ≡ level_of kind intra qp p x
unfolding level_of
levels_are kind intra qp p m f t v x is c d e =
    is ∙ ap (λ (z : ℕ). signed_level z f t x) c ∙ ap (λ (z : ℕ). signed_level (multiplier kind qp p) z t x) d ∙ ap (λ (z : ℕ). signed_level (multiplier kind qp p) (rounding kind intra qp) z x) e

pub luma_scaled : (qp p n : ℕ) (x v : ℤ) → v ≡ x *ℤ pos n → n ≡ in_table SCALING4 (qp % 6) (get_or CLASS4 p 0) * 2 ^ (qp / 6) → v ≡ rescaled Luma4 qp p x
unfolding rescaled scaling
luma_scaled qp p n x v is e = is ∙ ap (λ (z : ℕ). x *ℤ pos z) e

pub chroma_scaled : (qp p n : ℕ) (x v : ℤ) → v ≡ x *ℤ pos n → n ≡ in_table SCALING4 (qp % 6) (get_or CLASS4 p 0) * 2 ^ (qp / 6) → v ≡ rescaled Chroma4 qp p x
unfolding rescaled scaling
chroma_scaled qp p n x v is e = is ∙ ap (λ (z : ℕ). x *ℤ pos z) e
