use Rattle.std.proofs.Common.{◌≡◌, ◌*◌, length, take}
use Rattle.picture_planes.specs.Samples.{samples_of}
use Rattle.spec_reconstruction.specs.Parts.{block_rows}
use Rattle.plane_blocks.proofs.reading.read_block.Given as goal

abbrev pub invariant-loop-j : goal.invariant-loop-j
invariant-loop-j l = record {
  long : length l.out ≡ l.n * l.n;
  done : take (l.j * l.n) l.out ≡ block_rows l.plane.width l.x l.y l.n (samples_of l.plane) l.j;
}
