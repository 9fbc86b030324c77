-- Levels that are all 0 are levels that the quantiser makes.
use Rattle.std.proofs.Common.{◌≡◌, ◌<◌, ◌+◌, ◌*◌, ℕ, zero, suc, ℤ, pos, false, List, ◌∷◌, get_or, take, drop, refl, sym, subst, ◌∙◌, arith}
use Rattle.std.proofs.lemmas.Grind.{common_steps}
use Rattle.enc_tables.specs.declared.transform.TheConstants.{ZIGZAG4}
use Rattle.spec_basics.specs.Bounds.{Within}
use Rattle.spec_residual.specs.Blocks.{item}
use Rattle.spec_residual.specs.Levels.{IsMade}
use Rattle.spec_residual.specs.declared.BlockKind.TheVariants.{Luma4, Chroma4, ChromaDc}
use Rattle.spec_reconstruction.specs.InOrder.{levels_of_block}
use Rattle.residual_coder.specs.Made.{IsQuantised, ChromaQuantised}
use Rattle.residual_coder.proofs.BlockLaws.{zero_within}
use Rattle.residual_coder.proofs.ZeroLaws.{zero_made}

part_none : (xs : List ℤ) (a n i : ℕ) → ((k : ℕ) → item xs k ≡ pos 0) → i < n → item (take n (drop a xs)) i ≡ pos 0
part_none xs a n i none less = part xs a n i less ∙ none (a + i)
  where
    part : (xs : List ℤ) (a n i : ℕ) → i < n → get_or (take n (drop a xs)) i (pos 0) ≡ get_or xs (a + i) (pos 0)
    part xs a n i less = grind (arith, common_steps)

pub zeros_quantised : (qp : ℕ) (levels : List ℤ) → ((k : ℕ) → item levels k ≡ pos 0) → (b : ℕ) → b < 16 → IsQuantised Luma4 qp (levels_of_block 16 b levels)
zeros_quantised qp levels none b less = record {
  intra = false;
  small = λ p h. subst (λ (z : ℤ). Within 8191 z) (sym (part_none levels (b * 16) 16 p none h)) (zero_within 8191);
  made = λ s h. subst (λ (z : ℤ). IsMade Luma4 false qp (get_or ZIGZAG4 s 0) z) (sym (part_none levels (b * 16) 16 s none h)) (zero_made Luma4 false qp (get_or ZIGZAG4 s 0));
}

head_none : (ac : List ℤ) (b p : ℕ) → ((k : ℕ) → item ac k ≡ pos 0) → p < 16 → item (pos 0 ∷ take 15 (drop (b * 15) ac)) p ≡ pos 0
head_none ac b zero none h = refl
head_none ac b (suc p) none h = part_none ac (b * 15) 15 p none (omega (arith, h))

pub zeros_chroma : (qp : ℕ) (dc ac : List ℤ) → ((k : ℕ) → item dc k ≡ pos 0) → ((k : ℕ) → item ac k ≡ pos 0) → ChromaQuantised qp dc ac
zeros_chroma qp dc ac none_dc none_ac = record {
  intra = false;
  small = λ p h. subst (λ (z : ℤ). Within 8191 z) (sym (none_dc p)) (zero_within 8191);
  made = λ p h. subst (λ (z : ℤ). IsMade ChromaDc false qp p z) (sym (none_dc p)) (zero_made ChromaDc false qp p);
  others = λ b h. record {
    intra = false;
    small = λ p i. subst (λ (z : ℤ). Within 8191 z) (sym (head_none ac b p none_ac i)) (zero_within 8191);
    made = λ s i. subst (λ (z : ℤ). IsMade Chroma4 false qp (get_or ZIGZAG4 s 0) z) (sym (head_none ac b s none_ac i)) (zero_made Chroma4 false qp (get_or ZIGZAG4 s 0));
  };
}
