use Rattle.std.proofs.Common.{◌≡◌, ◌*◌, length, take}
use Rattle.spec_reconstruction.specs.Parts.{block_rows}
use Rattle.residual_coder.proofs.parts.part8.Given as goal

abbrev pub invariant-loop-j : goal.invariant-loop-j
invariant-loop-j l = record {
  long : length l.block ≡ 64;
  done : take (l.j * 8) l.block ≡ block_rows 16 l.x l.y 8 l.prediction l.j;
}
