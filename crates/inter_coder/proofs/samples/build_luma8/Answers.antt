use Rattle.std.proofs.Common.{ℕ, refl, ◌∙◌, ap}
use Rattle.spec_reconstruction.specs.InOrder.{levels_of_block}
use Rattle.spec_reconstruction.specs.Inter.{inter8}
use Rattle.residual_coder.proofs.InOrderLaws.{built_none, built_next}
use Rattle.residual_coder.specs.Stripes.{samples_from}
use Rattle.inter_coder.proofs.samples.build_luma8.Goals as goal

pub loop-k-init : goal.loop-k-init
loop-k-init c = record {
  shape = (refl, refl, refl);
  samples = built_none (inter8 c.args.plane.now.width c.args.site.now c.args.prediction.now) 64 c.args.levels.now (samples_from c.args.top c.args.plane.now);
}

pub loop-k-preserved : goal.loop-k-preserved
loop-k-preserved c = record {
  shape = (c.build_block8.ensures.shape.0 ∙ c.loop-k.invariant.shape.0, c.build_block8.ensures.shape.1 ∙ c.loop-k.invariant.shape.1, c.build_block8.ensures.shape.2 ∙ c.loop-k.invariant.shape.2);
  samples =
      built_next (inter8 c.args.plane.now.width c.args.site.now c.args.prediction.now) 64 c.args.levels.now c.loop-k.k (samples_from c.args.top c.args.plane.now) (samples_from c.args.top c.loop-k.plane) _
      c.loop-k.invariant.samples
      (c.build_block8.ensures.samples ∙ ap (λ (w : ℕ). inter8 w c.args.site.now c.args.prediction.now c.loop-k.k (levels_of_block 64 c.loop-k.k c.args.levels.now) (samples_from c.args.top c.loop-k.plane)) c.loop-k.invariant.shape.0);
}
