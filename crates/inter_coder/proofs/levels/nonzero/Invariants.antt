use Rattle.std.proofs.Common.{◌≡◌, ◌≤◌, take}
use Rattle.std.specs.List.{count_by}
use Rattle.spec_residual.specs.Blocks.{is_nonzero}
use Rattle.inter_coder.proofs.levels.nonzero.Given as goal

abbrev pub invariant-loop-k : goal.invariant-loop-k
invariant-loop-k l = record { few : l.count ≤ l.k; counted : l.count ≡ count_by is_nonzero (take l.k l.levels) }
