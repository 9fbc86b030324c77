use Rattle.std.proofs.Common.{◌≡◌}
use Rattle.picture_planes.specs.Samples.{SameShape}
use Rattle.spec_reconstruction.specs.InOrder.{built_in_order}
use Rattle.spec_reconstruction.specs.Luma.{build16}
use Rattle.residual_coder.specs.Stripes.{samples_from}
use Rattle.intra_coder.proofs.luma16.build_luma16.Given as goal

abbrev pub invariant-loop-b : goal.invariant-loop-b
invariant-loop-b l = record {
  shape : SameShape l.initial.plane l.plane;
  samples : samples_from l.top l.plane ≡ built_in_order (build16 l.initial.plane.width l.site l.prediction l.dcs) 16 l.levels l.b (samples_from l.top l.initial.plane);
}
