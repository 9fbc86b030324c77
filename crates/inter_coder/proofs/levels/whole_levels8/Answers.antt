use Rattle.std.proofs.Common.{◌≡◌, ◌≤◌, ◌+◌, ◌-◌, ◌*◌, ℕ, ℤ, List, [], length, false, refl, sym, ap, ap₂, subst, ◌∙◌, arith}
use Rattle.picture_planes.specs.Samples.{samples_of}
use Rattle.spec_reconstruction.specs.declared.Site.{Site}
use Rattle.spec_reconstruction.specs.InOrder.{joined}
use Rattle.spec_reconstruction.specs.Luma.{x8, y8}
use Rattle.spec_reconstruction.specs.Parts.{block_at}
use Rattle.spec_reconstruction.specs.Residuals.{luma_levels8}
use Rattle.spec_coded.specs.Levels.{part8, whole_levels8}
use Rattle.residual_coder.specs.Made.{IsQuantised8}
use Rattle.residual_coder.proofs.InOrderLaws.{joined_none, joined_next, piece_long, block_next, all_taken}
use Rattle.inter_coder.proofs.levels.whole_levels8.Goals as goal

levels_at : ℕ → Site → List ℕ → List ℕ → ℕ → List ℤ
levels_at wide site source prediction b = luma_levels8 false site.qp (block_at wide (x8 site b) (y8 site b) 8 source) (part8 prediction b)

pub loop-k-init : goal.loop-k-init
unfolding levels_at
loop-k-init c = record {
  long = refl;
  levels = joined_none (levels_at c.args.source.now.width c.args.site.now (samples_of c.args.source.now) c.args.prediction.now) [];
  quantised = λ b h. absurd (omega (arith, h));
}

pub loop-k-preserved : goal.loop-k-preserved
unfolding levels_at
loop-k-preserved c =
    let wide = c.args.source.now.width in
    let site = c.args.site.now in
    let source = samples_of c.args.source.now in
    let prediction = c.args.prediction.now in
    let b = c.loop-k.k in
    let block = c.levels8-block.result in
    let Q : List ℤ → Type 0 = λ l. IsQuantised8 site.qp l in
    let k : b * 64 + 64 - b * 64 ≡ 64 = omega arith in
    let room : b * 64 + 64 ≤ length c.loop-k.levels = omega (arith, c.loop-k.invariant.long, c.loop-k-test.true) in
    let long : length block ≡ 64 = omega arith in
    let piece : length c.copy_from_slice.new.self ≡ 64 = ap (λ (l : List ℤ). length l) c.copy_from_slice.ensures.after ∙ long in
    let original = c.block8_at-original.ensures in
    let chosen = c.copy_from_slice.ensures.after ∙ c.levels8-block.ensures.value ∙ ap₂ (λ (s p : List ℕ). luma_levels8 false site.qp s p) original c.part8-part.ensures in
    record {
      long = piece_long c.loop-k.levels c.copy_from_slice.new.self (b * 64) 64 (b * 64 + 64 - b * 64) room piece k ∙ c.loop-k.invariant.long;
      levels = joined_next (levels_at wide site source prediction) b 64 (b * 64 + 64 - b * 64) c.loop-k.levels c.copy_from_slice.new.self room piece k chosen c.loop-k.invariant.levels;
      quantised = block_next Q c.loop-k.levels c.copy_from_slice.new.self b 64 (b * 64 + 64 - b * 64) room piece (subst Q (sym c.copy_from_slice.ensures.after) c.levels8-block.ensures.quantised) c.loop-k.invariant.quantised;
    }

levels_are : (wide : ℕ) (site : Site) (source prediction : List ℕ) (xs : List ℤ) → xs ≡ joined (levels_at wide site source prediction) 4 → xs ≡ whole_levels8 wide site source prediction
unfolding whole_levels8 levels_at
levels_are wide site source prediction xs e = e

pub returns-clause-value : goal.returns-clause-value
unfolding levels_at
returns-clause-value c =
    let e : c.loop-k.k ≡ 4 = omega arith in
    levels_are c.args.source.now.width c.args.site.now (samples_of c.args.source.now) c.args.prediction.now c.loop-k.levels
    (all_taken c.loop-k.levels _ 4 64 c.loop-k.k c.loop-k.invariant.long e c.loop-k.invariant.levels
    ∙ ap (λ (n : ℕ). joined (levels_at c.args.source.now.width c.args.site.now (samples_of c.args.source.now) c.args.prediction.now) n) e)
