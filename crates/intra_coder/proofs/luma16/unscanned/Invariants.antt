use Rattle.std.proofs.Common.{◌≡◌, ℕ, pos, true, length, get_or, set, replicate}
use Rattle.enc_tables.specs.declared.transform.TheConstants.{ZIGZAG4}
use Rattle.enc_tables.specs.Steps.{steps}
use Rattle.spec_residual.specs.Blocks.{AllWithin, item}
use Rattle.spec_residual.specs.declared.BlockKind.TheVariants.{LumaDc}
use Rattle.spec_residual.specs.Levels.{IsMade}
use Rattle.intra_coder.proofs.luma16.unscanned.Given as goal

abbrev pub invariant-loop-s : goal.invariant-loop-s
invariant-loop-s l = record {
  long : length l.rows ≡ 16;
  done : l.rows ≡ steps (λ s c. set c (get_or ZIGZAG4 s 0) (item l.levels s)) l.s (replicate 16 (pos 0));
  small : AllWithin 16 8191 l.rows;
  made : (p : ℕ) → IsMade LumaDc true l.qp p (item l.rows p);
}
