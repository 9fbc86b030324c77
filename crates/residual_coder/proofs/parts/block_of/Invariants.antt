use Rattle.std.proofs.Common.{◌≡◌, ◌*◌, length, take}
use Rattle.spec_reconstruction.specs.Parts.{block_rows}
use Rattle.residual_coder.proofs.parts.block_of.Given as goal

abbrev pub invariant-loop-j : goal.invariant-loop-j
invariant-loop-j l = record {
  long : length l.block ≡ 16;
  done : take (l.j * 4) l.block ≡ block_rows l.wide l.x l.y 4 l.samples l.j;
}
