use Rattle.std.proofs.Common.{◌≡◌, ◌≤◌, ◌<◌, ℕ, length, take}
use Rattle.std.specs.List.{count_by}
use Rattle.spec_residual.specs.declared.BlockKind.TheVariants.{ChromaDc}
use Rattle.spec_residual.specs.Blocks.{is_nonzero, item}
use Rattle.spec_residual.specs.Levels.{level_of}
use Rattle.transform_quant.proofs.levels.quantise_chroma_dc.Given as goal

abbrev pub invariant-loop-scan : goal.invariant-loop-scan
invariant-loop-scan l = record {
  long : length l.levels ≡ 4;
  done : (k : ℕ) → k < l.scan → item l.levels k ≡ level_of ChromaDc l.intra l.qp k (item l.c k);
  few : l.nonzero ≤ l.scan;
  counted : l.nonzero ≡ count_by is_nonzero (take l.scan l.levels);
}
