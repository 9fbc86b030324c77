use Rattle.std.proofs.Common.{◌≡◌}
use Rattle.picture_planes.specs.Samples.{SameShape, samples_of}
use Rattle.spec_reconstruction.specs.Parts.{with_rows}
use Rattle.residual_coder.proofs.parts.write_rows.Given as goal

abbrev pub invariant-loop-j : goal.invariant-loop-j
invariant-loop-j l = record {
  shape : SameShape l.initial.plane l.plane;
  done : samples_of l.plane ≡ with_rows l.initial.plane.width l.x l.y l.n l.block l.j (samples_of l.initial.plane);
}
