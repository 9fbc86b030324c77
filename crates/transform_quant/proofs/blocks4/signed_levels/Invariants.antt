use Rattle.std.proofs.Common.{◌≡◌, ◌<◌, ℕ, length, get_or}
use Rattle.spec_residual.specs.Blocks.{item}
use Rattle.spec_residual.specs.Levels.{signed_level}
use Rattle.transform_quant.proofs.blocks4.signed_levels.Given as goal

abbrev pub invariant-loop-p : goal.invariant-loop-p
invariant-loop-p l = record {
  long : length l.levels ≡ 16;
  done : (k : ℕ) → k < l.p → item l.levels k ≡ signed_level (get_or l.multipliers k 0) l.rounding l.shift (item l.c k);
}
