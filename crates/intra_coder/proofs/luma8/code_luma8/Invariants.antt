use Rattle.std.proofs.Common.{◌≡◌, ◌*◌, length, take}
use Rattle.picture_planes.specs.Samples.{SameShape, samples_of}
use Rattle.spec_reconstruction.specs.InOrder.{coded_in_order, levels_in_order}
use Rattle.spec_reconstruction.specs.Luma.{build8, choose8}
use Rattle.residual_coder.specs.Stripes.{samples_from}
use Rattle.intra_coder.proofs.luma8.code_luma8.Given as goal

abbrev pub invariant-loop-b : goal.invariant-loop-b
invariant-loop-b l = record {
  long : length l.levels ≡ 256;
  shape : SameShape l.initial.plane l.plane;
  levels : take (l.b * 64) l.levels ≡ levels_in_order (build8 l.initial.plane.width l.site l.modes) (choose8 l.initial.plane.width l.site l.modes (samples_of l.source)) l.b (samples_from l.top l.initial.plane);
  samples : samples_from l.top l.plane ≡ coded_in_order (build8 l.initial.plane.width l.site l.modes) (choose8 l.initial.plane.width l.site l.modes (samples_of l.source)) l.b (samples_from l.top l.initial.plane);
}
