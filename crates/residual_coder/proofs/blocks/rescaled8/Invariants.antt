use Rattle.std.proofs.Common.{◌≡◌, pos, Bool, length, get_or, set, replicate}
use Rattle.enc_tables.specs.declared.transform.TheConstants.{ZIGZAG8}
use Rattle.enc_tables.specs.Steps.{steps}
use Rattle.spec_residual.specs.Blocks.{AllWithin, item}
use Rattle.spec_residual.specs.declared.BlockKind.TheVariants.{Luma8}
use Rattle.spec_residual.specs.Rescaled.{rescaled}
use Rattle.residual_coder.specs.Made.{AllMade8}
use Rattle.residual_coder.proofs.blocks.rescaled8.Given as goal

abbrev pub invariant-loop-s : goal.invariant-loop-s
invariant-loop-s l = record {
  long : length l.c ≡ 64;
  done : l.c ≡ steps (λ s c. set c (get_or ZIGZAG8 s 0) (rescaled Luma8 l.qp (get_or ZIGZAG8 s 0) (item l.levels s))) l.s (replicate 64 (pos 0));
  small : (intra : Bool) → AllMade8 intra l.qp l.levels → AllWithin 64 1048576 l.c;
}
