use Rattle.std.proofs.Common.{◌≡◌, ◌≤◌, ◌+◌, ◌-◌, ◌*◌, ℕ, ℤ, List, [], take, length, refl, sym, ap, ◌∙◌, arith}
use Rattle.picture_planes.specs.Samples.{samples_of}
use Rattle.std.proofs.lemmas.Grind.{common_steps}
use Rattle.spec_reconstruction.specs.InOrder.{coded_in_order, levels_in_order}
use Rattle.spec_reconstruction.specs.Luma.{build4, choose4}
use Rattle.residual_coder.proofs.InOrderLaws.{piece_long, no_levels, no_samples, next_piece, next_samples}
use Rattle.intra_coder.proofs.LumaLaws.{luma4_levels_are, luma4_is_built}
use Rattle.residual_coder.specs.Stripes.{samples_from}
use Rattle.intra_coder.proofs.luma4.code_luma4.Goals as goal

pub loop-b-init : goal.loop-b-init
loop-b-init c =
    let wide = c.args.plane.now.width in
    let build = build4 wide c.args.site.now c.args.modes.now in
    let choose = choose4 wide c.args.site.now c.args.modes.now (samples_of c.args.source.now) in
    record {
      long = refl;
      shape = (refl, refl, refl);
      levels = no_levels build choose (samples_from c.args.top c.args.plane.now) [];
      samples = no_samples build choose (samples_from c.args.top c.args.plane.now);
    }

pub loop-b-preserved : goal.loop-b-preserved
loop-b-preserved c =
    let wide = c.args.plane.now.width in
    let site = c.args.site.now in
    let modes = c.args.modes.now in
    let source = samples_of c.args.source.now in
    let b = c.loop-b.b in
    let block = c.code_block4-block.result in
    let same = c.loop-b.invariant.shape.0 in
    let k : b * 16 + 16 - b * 16 ≡ 16 = omega arith in
    let room : b * 16 + 16 ≤ length c.loop-b.levels = omega (arith, c.loop-b.invariant.long, c.loop-b-test.true) in
    let chosen = c.code_block4-block.ensures.levels ∙ ap (λ (v : ℕ). choose4 v site modes source b (samples_from c.args.top c.loop-b.plane)) same in
    let written = c.code_block4-block.ensures.samples ∙ ap (λ (v : ℕ). build4 v site modes b block (samples_from c.args.top c.loop-b.plane)) same in
    let long : length block ≡ 16 = omega arith in
    let piece : length c.copy_from_slice.new.self ≡ 16 = ap (λ (l : List ℤ). length l) c.copy_from_slice.ensures.after ∙ long in
    record {
      long = piece_long c.loop-b.levels c.copy_from_slice.new.self (b * 16) 16 (b * 16 + 16 - b * 16) room piece k ∙ c.loop-b.invariant.long;
      shape = (c.code_block4-block.ensures.shape.0 ∙ c.loop-b.invariant.shape.0, c.code_block4-block.ensures.shape.1 ∙ c.loop-b.invariant.shape.1, c.code_block4-block.ensures.shape.2 ∙ c.loop-b.invariant.shape.2);
      levels = next_piece (build4 wide site modes) (choose4 wide site modes source) (samples_from c.args.top c.args.plane.now) b 16 (b * 16 + 16 - b * 16) c.loop-b.levels c.copy_from_slice.new.self block (samples_from c.args.top c.loop-b.plane)
          room long k c.copy_from_slice.ensures.after c.loop-b.invariant.samples c.loop-b.invariant.levels chosen;
      samples = next_samples (build4 wide site modes) (choose4 wide site modes source) (samples_from c.args.top c.args.plane.now) b block (samples_from c.args.top c.loop-b.plane) _ c.loop-b.invariant.samples chosen written;
    }

all_levels : (xs ys : List ℤ) (b : ℕ) → length xs ≡ 256 → b ≡ 16 → take (b * 16) xs ≡ ys → xs ≡ ys
all_levels xs ys b long e done = sym (let whole : take (b * 16) xs ≡ xs = grind (arith, common_steps) in whole) ∙ done

pub returns-clause-levels : goal.returns-clause-levels
returns-clause-levels c =
    let wide = c.args.plane.now.width in
    let build = build4 wide c.args.site.now c.args.modes.now in
    let choose = choose4 wide c.args.site.now c.args.modes.now (samples_of c.args.source.now) in
    let e : c.loop-b.b ≡ 16 = omega arith in
    luma4_levels_are wide c.args.site.now c.args.modes.now (samples_of c.args.source.now) (samples_from c.args.top c.args.plane.now) c.loop-b.levels
    (all_levels c.loop-b.levels _ c.loop-b.b c.loop-b.invariant.long e c.loop-b.invariant.levels ∙ ap (λ (n : ℕ). levels_in_order build choose n (samples_from c.args.top c.args.plane.now)) e)

pub returns-clause-samples : goal.returns-clause-samples
returns-clause-samples c =
    let wide = c.args.plane.now.width in
    let build = build4 wide c.args.site.now c.args.modes.now in
    let choose = choose4 wide c.args.site.now c.args.modes.now (samples_of c.args.source.now) in
    let e : c.loop-b.b ≡ 16 = omega arith in
    luma4_is_built wide c.args.site.now c.args.modes.now (samples_of c.args.source.now) (samples_from c.args.top c.args.plane.now) (samples_from c.args.top c.loop-b.plane) c.loop-b.levels
    (all_levels c.loop-b.levels _ c.loop-b.b c.loop-b.invariant.long e c.loop-b.invariant.levels ∙ ap (λ (n : ℕ). levels_in_order build choose n (samples_from c.args.top c.args.plane.now)) e)
    (c.loop-b.invariant.samples ∙ ap (λ (n : ℕ). coded_in_order build choose n (samples_from c.args.top c.args.plane.now)) e)
