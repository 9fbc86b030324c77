use Rattle.std.proofs.Common.{◌≡◌, ◌≤◌, ◌<◌, ℕ, length, take, get_or}
use Rattle.std.specs.List.{count_by}
use Rattle.enc_tables.specs.declared.transform.TheConstants.{ZIGZAG4}
use Rattle.spec_residual.specs.Blocks.{is_nonzero, item}
use Rattle.spec_residual.specs.Levels.{level_of}
use Rattle.transform_quant.proofs.levels.quantise4.Given as goal

abbrev pub invariant-loop-scan : goal.invariant-loop-scan
invariant-loop-scan l = record {
  long : length l.levels ≡ 16;
  done : (k : ℕ) → k < l.scan → item l.levels k ≡ level_of l.fn.kind l.intra l.qp (get_or ZIGZAG4 k 0) (item l.c (get_or ZIGZAG4 k 0));
  few : l.nonzero ≤ l.scan;
  counted : l.nonzero ≡ count_by is_nonzero (take l.scan l.levels);
}
