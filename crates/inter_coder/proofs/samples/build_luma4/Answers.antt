use Rattle.std.proofs.Common.{ℕ, refl, ◌∙◌, ap}
use Rattle.spec_reconstruction.specs.InOrder.{levels_of_block}
use Rattle.spec_reconstruction.specs.Inter.{inter4}
use Rattle.residual_coder.proofs.InOrderLaws.{built_none, built_next}
use Rattle.residual_coder.specs.Stripes.{samples_from}
use Rattle.inter_coder.proofs.samples.build_luma4.Goals as goal

pub loop-b-init : goal.loop-b-init
loop-b-init c = record {
  shape = (refl, refl, refl);
  samples = built_none (inter4 c.args.plane.now.width c.args.site.now c.args.prediction.now) 16 c.args.levels.now (samples_from c.args.top c.args.plane.now);
}

pub loop-b-preserved : goal.loop-b-preserved
loop-b-preserved c = record {
  shape = (c.build_block4.ensures.shape.0 ∙ c.loop-b.invariant.shape.0, c.build_block4.ensures.shape.1 ∙ c.loop-b.invariant.shape.1, c.build_block4.ensures.shape.2 ∙ c.loop-b.invariant.shape.2);
  samples =
      built_next (inter4 c.args.plane.now.width c.args.site.now c.args.prediction.now) 16 c.args.levels.now c.loop-b.b (samples_from c.args.top c.args.plane.now) (samples_from c.args.top c.loop-b.plane) _
      c.loop-b.invariant.samples
      (c.build_block4.ensures.samples ∙ ap (λ (w : ℕ). inter4 w c.args.site.now c.args.prediction.now c.loop-b.b (levels_of_block 16 c.loop-b.b c.args.levels.now) (samples_from c.args.top c.loop-b.plane)) c.loop-b.invariant.shape.0);
}
