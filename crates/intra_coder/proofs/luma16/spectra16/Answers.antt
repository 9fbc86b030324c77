use Rattle.std.proofs.Common.{◌≡◌, ◌≤◌, ◌<◌, ◌+◌, ◌-◌, ◌*◌, ℕ, ℤ, List, [], length, pos, true, set, replicate, arith, refl, ◌∙◌, sym, ap, subst, w32}
use Rattle.std.proofs.lemmas.Int.{to_z-of_z}
use Rattle.std.proofs.lemmas.List.{length-set}
use mir.Val.{SFits}
use Rattle.enc_tables.specs.Steps.{steps}
use Rattle.picture_planes.specs.Samples.{samples_of}
use Rattle.spec_basics.specs.Bounds.{Within}
use Rattle.spec_residual.specs.Blocks.{item}
use Rattle.spec_residual.specs.declared.BlockKind.TheVariants.{Luma4}
use Rattle.spec_reconstruction.specs.declared.Site.{Site}
use Rattle.spec_reconstruction.specs.InOrder.{joined}
use Rattle.spec_reconstruction.specs.Luma.{place16, spectrum16, firsts16}
use Rattle.spec_reconstruction.specs.Residuals.{levels_without_dc}
use Rattle.residual_coder.specs.Made.{IsQuantised}
use Rattle.intra_coder.specs.Made.{others16}
use Rattle.residual_coder.proofs.BlockLaws.{none_assigned, one_assigned, zeros_within, set_within}
use Rattle.residual_coder.proofs.InOrderLaws.{joined_none, joined_next, piece_long, block_next, all_taken}
use Rattle.intra_coder.proofs.luma16.spectra16.Goals as goal

first_at : ℕ → Site → List ℕ → List ℕ → ℕ → ℤ
first_at wide site source prediction b = item (spectrum16 wide site source prediction b) 0

levels_at : ℕ → Site → List ℕ → List ℕ → ℕ → List ℤ
levels_at wide site source prediction b = levels_without_dc Luma4 true site.qp (spectrum16 wide site source prediction b)

pub loop-b-init : goal.loop-b-init
unfolding first_at levels_at
loop-b-init c =
    let wide = c.args.source.now.width in
    let site = c.args.site.now in
    let source = samples_of c.args.source.now in
    record {
      long = refl;
      few = refl;
      firsts = none_assigned place16 (first_at wide site source c.args.prediction.now) (replicate 16 (pos 0));
      small = zeros_within 16 4080;
      levels = joined_none (levels_at wide site source c.args.prediction.now) [];
      quantised = λ b h. absurd (omega arith);
    }

pub loop-b-preserved : goal.loop-b-preserved
unfolding first_at levels_at
loop-b-preserved c =
    let wide = c.args.source.now.width in
    let site = c.args.site.now in
    let source = samples_of c.args.source.now in
    let prediction = c.args.prediction.now in
    let b = c.loop-b.b in
    let spectrum = c.spectrum16-spectrum.result in
    let block = c.levels_without_dc-block.result in
    let r : SFits w32 c.coefficient_at-first.result = record { sfits = c.coefficient_at-first.type_inv } in
    let back = to_z-of_z w32 c.coefficient_at-first.result r ∙ c.coefficient_at-first.ensures in
    let P : ℤ → Type 0 = λ z. Within 4080 z in
    let Q : List ℤ → Type 0 = λ l. IsQuantised Luma4 site.qp l in
    let inside : c.place16-place.result < length c.loop-b.firsts = omega (arith, c.place16-place.ensures.small, c.loop-b.invariant.few) in
    let k : b * 16 + 16 - b * 16 ≡ 16 = omega arith in
    let room : b * 16 + 16 ≤ length c.loop-b.levels = omega (arith, c.loop-b.invariant.long, c.loop-b-test.true) in
    let long : length block ≡ 16 = omega arith in
    let piece : length c.copy_from_slice.new.self ≡ 16 = ap (λ (l : List ℤ). length l) c.copy_from_slice.ensures.after ∙ long in
    let chosen = c.copy_from_slice.ensures.after ∙ c.levels_without_dc-block.ensures.value ∙ ap (λ (l : List ℤ). levels_without_dc Luma4 true site.qp l) c.spectrum16-spectrum.ensures.value in
    let made : Q block = record { intra = true; small = c.levels_without_dc-block.ensures.small; made = c.levels_without_dc-block.ensures.made } in
    record {
      long = piece_long c.loop-b.levels c.copy_from_slice.new.self (b * 16) 16 (b * 16 + 16 - b * 16) room piece k ∙ c.loop-b.invariant.long;
      few = simp length-set c.loop-b.invariant.few;
      firsts = one_assigned place16 (first_at wide site source prediction) (replicate 16 (pos 0)) c.loop-b.firsts b _ _ c.place16-place.ensures.value
          (back ∙ ap (λ (l : List ℤ). item l 0) c.spectrum16-spectrum.ensures.value) c.loop-b.invariant.firsts;
      small = set_within 16 4080 _ _ c.loop-b.firsts inside (subst P (sym back) c.spectrum16-spectrum.ensures.first) c.loop-b.invariant.small;
      levels = joined_next (levels_at wide site source prediction) b 16 (b * 16 + 16 - b * 16) c.loop-b.levels c.copy_from_slice.new.self room piece k chosen c.loop-b.invariant.levels;
      quantised = block_next Q c.loop-b.levels c.copy_from_slice.new.self b 16 (b * 16 + 16 - b * 16) room piece (subst Q (sym c.copy_from_slice.ensures.after) made) c.loop-b.invariant.quantised;
    }

firsts_are : (wide : ℕ) (site : Site) (source prediction : List ℕ) (xs : List ℤ) → xs ≡ steps (λ b c. set c (place16 b) (item (spectrum16 wide site source prediction b) 0)) 16 (replicate 16 (pos 0)) → xs ≡ firsts16 wide site source prediction
unfolding firsts16
firsts_are wide site source prediction xs e = e

others_are : (wide : ℕ) (site : Site) (source prediction : List ℕ) (xs : List ℤ) → xs ≡ joined (λ b. levels_without_dc Luma4 true site.qp (spectrum16 wide site source prediction b)) 16 → xs ≡ others16 wide site source prediction
unfolding others16
others_are wide site source prediction xs e = e

pub returns-clause-firsts : goal.returns-clause-firsts
returns-clause-firsts c =
    let e : c.loop-b.b ≡ 16 = omega arith in
    firsts_are c.args.source.now.width c.args.site.now (samples_of c.args.source.now) c.args.prediction.now c.loop-b.firsts
    (c.loop-b.invariant.firsts ∙ ap (λ (n : ℕ). steps (λ b c'. set c' (place16 b) (item (spectrum16 c.args.source.now.width c.args.site.now (samples_of c.args.source.now) c.args.prediction.now b) 0)) n (replicate 16 (pos 0))) e)

pub returns-clause-levels : goal.returns-clause-levels
returns-clause-levels c =
    let e : c.loop-b.b ≡ 16 = omega arith in
    others_are c.args.source.now.width c.args.site.now (samples_of c.args.source.now) c.args.prediction.now c.loop-b.levels
    (all_taken c.loop-b.levels _ 16 16 c.loop-b.b c.loop-b.invariant.long e c.loop-b.invariant.levels
    ∙ ap (λ (n : ℕ). joined (λ b. levels_without_dc Luma4 true c.args.site.now.qp (spectrum16 c.args.source.now.width c.args.site.now (samples_of c.args.source.now) c.args.prediction.now b)) n) e)
