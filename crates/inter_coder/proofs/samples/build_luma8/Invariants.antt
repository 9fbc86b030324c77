use Rattle.std.proofs.Common.{◌≡◌}
use Rattle.picture_planes.specs.Samples.{SameShape}
use Rattle.spec_reconstruction.specs.Inter.{inter8}
use Rattle.spec_reconstruction.specs.InOrder.{built_in_order}
use Rattle.residual_coder.specs.Stripes.{samples_from}
use Rattle.inter_coder.proofs.samples.build_luma8.Given as goal

abbrev pub invariant-loop-k : goal.invariant-loop-k
invariant-loop-k l = record {
  shape : SameShape l.initial.plane l.plane;
  samples : samples_from l.top l.plane ≡ built_in_order (inter8 l.initial.plane.width l.site l.prediction) 64 l.levels l.k (samples_from l.top l.initial.plane);
}
