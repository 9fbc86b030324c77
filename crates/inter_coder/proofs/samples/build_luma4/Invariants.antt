use Rattle.std.proofs.Common.{◌≡◌}
use Rattle.picture_planes.specs.Samples.{SameShape}
use Rattle.spec_reconstruction.specs.Inter.{inter4}
use Rattle.spec_reconstruction.specs.InOrder.{built_in_order}
use Rattle.residual_coder.specs.Stripes.{samples_from}
use Rattle.inter_coder.proofs.samples.build_luma4.Given as goal

abbrev pub invariant-loop-b : goal.invariant-loop-b
invariant-loop-b l = record {
  shape : SameShape l.initial.plane l.plane;
  samples : samples_from l.top l.plane ≡ built_in_order (inter4 l.initial.plane.width l.site l.prediction) 16 l.levels l.b (samples_from l.top l.initial.plane);
}
