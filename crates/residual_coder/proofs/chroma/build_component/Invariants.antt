use Rattle.std.proofs.Common.{◌≡◌}
use Rattle.picture_planes.specs.Samples.{SameShape}
use Rattle.spec_reconstruction.specs.InOrder.{built_in_order}
use Rattle.spec_reconstruction.specs.Chroma.{build_chroma}
use Rattle.residual_coder.specs.Stripes.{samples_from}
use Rattle.residual_coder.proofs.chroma.build_component.Given as goal

abbrev pub invariant-loop-b : goal.invariant-loop-b
invariant-loop-b l = record {
  shape : SameShape l.initial.plane l.plane;
  samples : samples_from l.top l.plane ≡ built_in_order (build_chroma l.initial.plane.width l.site l.prediction l.dcs) 15 l.ac l.b (samples_from l.top l.initial.plane);
}
