use Rattle.std.proofs.Common.{◌≡◌, pos, Bool, length, get_or, set, replicate}
use Rattle.enc_tables.specs.declared.transform.TheConstants.{ZIGZAG4}
use Rattle.enc_tables.specs.Steps.{steps}
use Rattle.spec_residual.specs.Blocks.{AllWithin, item}
use Rattle.spec_residual.specs.Rescaled.{rescaled}
use Rattle.residual_coder.specs.Made.{AllMade4}
use Rattle.residual_coder.proofs.blocks.rescaled4.Given as goal

abbrev pub invariant-loop-s : goal.invariant-loop-s
invariant-loop-s l = record {
  long : length l.c ≡ 16;
  done : l.c ≡ steps (λ s c. set c (get_or ZIGZAG4 s 0) (rescaled l.kind l.qp (get_or ZIGZAG4 s 0) (item l.levels s))) l.s (replicate 16 (pos 0));
  small : (intra : Bool) → AllMade4 l.kind intra l.qp l.levels → AllWithin 16 1048576 l.c;
}
