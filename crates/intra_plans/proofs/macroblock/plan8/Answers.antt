use Rattle.std.proofs.Common.{◌≡◌, ◌+◌, ◌*◌, ◌/◌, ◌%◌, ℕ, add-one, refl, ap, ap₂, ◌∙◌, arith}
use Rattle.std.proofs.lemmas.List.{length-set}
use Rattle.picture_planes.specs.Samples.{samples_of}
use Rattle.spec_intra.specs.declared.Avail.{Avail}
use Rattle.spec_basics.specs.Sums.{sum_below}
use Rattle.spec_choice.specs.declared.ModeCost.{ModeCost}
use Rattle.spec_choice.specs.IntraPlans.{best8, best8_of}
use Rattle.intra_pred.proofs.Filled.{lined_more, lined_all}
use Rattle.intra_plans.proofs.macroblock.plan8.Goals as goal

sum_more : (f : ℕ → ℕ) (n : ℕ) → sum_below f n + f n ≡ sum_below f (n + 1)
unfolding sum_below
sum_more f n = rw add-one refl

pub loop-k-preserved : goal.loop-k-preserved
loop-k-preserved c =
    let wide = c.args.luma.now.width in
    let samples = samples_of c.args.luma.now in
    let i = c.loop-k.k in
    let f = λ (j : ℕ). best8_of wide samples c.args.mb.now c.args.x c.args.y j in
    let is : c.choose8-best.result ≡ f i =
    c.choose8-best.ensures.value
    ∙ ap (λ (a : Avail). best8 wide samples a (c.args.x + 8 * (i % 2)) (c.args.y + 8 * (i / 2))) c.near_block8-near.ensures in
    let long = c.loop-k.invariant.size in
    record {
      size = length-set c.loop-k.modes i c.choose8-best.result.mode ∙ long;
      modes = lined_more (λ j. (f j).mode) i c.choose8-best.result.mode c.loop-k.modes (omega (arith, long, c.loop-k-test.true)) (ap (λ (m : ModeCost). m.mode) is) c.loop-k.invariant.modes;
      cost = ap₂ (λ (a b : ℕ). a + b) c.loop-k.invariant.cost (ap (λ (m : ModeCost). m.cost) is) ∙ sum_more (λ j. (f j).cost) i;
      small = omega (arith, c.loop-k.invariant.small, c.choose8-best.ensures.small);
    }

pub returns-clause-modes : goal.returns-clause-modes
returns-clause-modes c =
    let e : c.loop-k.k ≡ 4 = omega arith in
    lined_all 4 (λ j. (best8_of c.args.luma.now.width (samples_of c.args.luma.now) c.args.mb.now c.args.x c.args.y j).mode) c.loop-k.modes c.loop-k.invariant.size
    (rw e at c.loop-k.invariant.modes)
