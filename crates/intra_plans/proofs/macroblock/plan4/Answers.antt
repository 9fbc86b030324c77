use Rattle.std.proofs.Common.{◌≡◌, ◌+◌, ◌*◌, ℕ, add-one, refl, ap, ap₂, ◌∙◌, arith}
use Rattle.std.proofs.lemmas.List.{length-set}
use Rattle.picture_planes.specs.Samples.{samples_of}
use Rattle.spec_intra.specs.declared.Avail.{Avail}
use Rattle.spec_basics.specs.Sums.{sum_below}
use Rattle.spec_basics.specs.Blocks.{block_column, block_row}
use Rattle.spec_choice.specs.declared.ModeCost.{ModeCost}
use Rattle.spec_choice.specs.IntraPlans.{best4, best4_of}
use Rattle.intra_pred.proofs.Filled.{lined_more, lined_all}
use Rattle.intra_plans.proofs.macroblock.plan4.Goals as goal

sum_more : (f : ℕ → ℕ) (n : ℕ) → sum_below f n + f n ≡ sum_below f (n + 1)
unfolding sum_below
sum_more f n = rw add-one refl

pub loop-b-preserved : goal.loop-b-preserved
loop-b-preserved c =
    let wide = c.args.luma.now.width in
    let samples = samples_of c.args.luma.now in
    let i = c.loop-b.b in
    let f = λ (j : ℕ). best4_of wide samples c.args.mb.now c.args.x c.args.y j in
    let is : c.choose4-best.result ≡ f i =
    c.choose4-best.ensures.value
    ∙ ap (λ (a : Avail). best4 wide samples a (c.args.x + 4 * (block_column i)) (c.args.y + 4 * (block_row i))) c.near_block4-near.ensures in
    let long = c.loop-b.invariant.size in
    record {
      size = length-set c.loop-b.modes i c.choose4-best.result.mode ∙ long;
      modes = lined_more (λ j. (f j).mode) i c.choose4-best.result.mode c.loop-b.modes (omega (arith, long, c.loop-b-test.true)) (ap (λ (m : ModeCost). m.mode) is) c.loop-b.invariant.modes;
      cost = ap₂ (λ (a b : ℕ). a + b) c.loop-b.invariant.cost (ap (λ (m : ModeCost). m.cost) is) ∙ sum_more (λ j. (f j).cost) i;
      small = omega (arith, c.loop-b.invariant.small, c.choose4-best.ensures.small);
    }

pub returns-clause-modes : goal.returns-clause-modes
returns-clause-modes c =
    let e : c.loop-b.b ≡ 16 = omega arith in
    lined_all 16 (λ j. (best4_of c.args.luma.now.width (samples_of c.args.luma.now) c.args.mb.now c.args.x c.args.y j).mode) c.loop-b.modes c.loop-b.invariant.size
    (rw e at c.loop-b.invariant.modes)
