use Rattle.std.proofs.Common.{◌≡◌, ◌≤◌, ◌+◌, ◌-◌, ◌*◌, ℕ, ℤ, List, [], length, false, refl, sym, ap, ap₂, subst, ◌∙◌, arith}
use Rattle.picture_planes.specs.Samples.{samples_of}
use Rattle.spec_residual.specs.declared.BlockKind.TheVariants.{Luma4}
use Rattle.spec_reconstruction.specs.declared.Site.{Site}
use Rattle.spec_reconstruction.specs.InOrder.{joined}
use Rattle.spec_reconstruction.specs.Luma.{x4, y4, part16}
use Rattle.spec_reconstruction.specs.Parts.{block_at}
use Rattle.spec_reconstruction.specs.Residuals.{luma_levels4}
use Rattle.spec_coded.specs.Levels.{whole_levels4}
use Rattle.residual_coder.specs.Made.{IsQuantised}
use Rattle.residual_coder.proofs.InOrderLaws.{joined_none, joined_next, piece_long, block_next, all_taken}
use Rattle.inter_coder.proofs.levels.whole_levels4.Goals as goal

levels_at : ℕ → Site → List ℕ → List ℕ → ℕ → List ℤ
levels_at wide site source prediction b = luma_levels4 false site.qp (block_at wide (x4 site b) (y4 site b) 4 source) (part16 prediction b)

pub loop-b-init : goal.loop-b-init
unfolding levels_at
loop-b-init c = record {
  long = refl;
  levels = joined_none (levels_at c.args.source.now.width c.args.site.now (samples_of c.args.source.now) c.args.prediction.now) [];
  quantised = λ b h. absurd (omega (arith, h));
}

pub loop-b-preserved : goal.loop-b-preserved
unfolding levels_at
loop-b-preserved c =
    let wide = c.args.source.now.width in
    let site = c.args.site.now in
    let source = samples_of c.args.source.now in
    let prediction = c.args.prediction.now in
    let b = c.loop-b.b in
    let block = c.levels4-block.result in
    let Q : List ℤ → Type 0 = λ l. IsQuantised Luma4 site.qp l in
    let k : b * 16 + 16 - b * 16 ≡ 16 = omega arith in
    let room : b * 16 + 16 ≤ length c.loop-b.levels = omega (arith, c.loop-b.invariant.long, c.loop-b-test.true) in
    let long : length block ≡ 16 = omega arith in
    let piece : length c.copy_from_slice.new.self ≡ 16 = ap (λ (l : List ℤ). length l) c.copy_from_slice.ensures.after ∙ long in
    let original = c.block4_at-original.ensures ∙ ap₂ (λ (x y : ℕ). block_at wide (site.x + 4 * x) (site.y + 4 * y) 4 source) c.block_column.ensures.value c.block_row.ensures.value in
    let chosen = c.copy_from_slice.ensures.after ∙ c.levels4-block.ensures.value ∙ ap₂ (λ (s p : List ℕ). luma_levels4 false site.qp s p) original c.part16-part.ensures in
    record {
      long = piece_long c.loop-b.levels c.copy_from_slice.new.self (b * 16) 16 (b * 16 + 16 - b * 16) room piece k ∙ c.loop-b.invariant.long;
      levels = joined_next (levels_at wide site source prediction) b 16 (b * 16 + 16 - b * 16) c.loop-b.levels c.copy_from_slice.new.self room piece k chosen c.loop-b.invariant.levels;
      quantised = block_next Q c.loop-b.levels c.copy_from_slice.new.self b 16 (b * 16 + 16 - b * 16) room piece (subst Q (sym c.copy_from_slice.ensures.after) c.levels4-block.ensures.quantised) c.loop-b.invariant.quantised;
    }

levels_are : (wide : ℕ) (site : Site) (source prediction : List ℕ) (xs : List ℤ) → xs ≡ joined (levels_at wide site source prediction) 16 → xs ≡ whole_levels4 wide site source prediction
unfolding whole_levels4 levels_at
levels_are wide site source prediction xs e = e

pub returns-clause-value : goal.returns-clause-value
unfolding levels_at
returns-clause-value c =
    let e : c.loop-b.b ≡ 16 = omega arith in
    levels_are c.args.source.now.width c.args.site.now (samples_of c.args.source.now) c.args.prediction.now c.loop-b.levels
    (all_taken c.loop-b.levels _ 16 16 c.loop-b.b c.loop-b.invariant.long e c.loop-b.invariant.levels
    ∙ ap (λ (n : ℕ). joined (levels_at c.args.source.now.width c.args.site.now (samples_of c.args.source.now) c.args.prediction.now) n) e)
