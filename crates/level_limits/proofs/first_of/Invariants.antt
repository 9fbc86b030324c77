use Rattle.std.proofs.Common.{◌≡◌, length}
use Rattle.spec_levels.specs.Levels.{first_level}
use Rattle.level_limits.proofs.first_of.Given as goal

abbrev pub invariant-loop-left : goal.invariant-loop-left
invariant-loop-left l = first_level l.left l.need ≡ first_level l.levels l.need

abbrev pub decreases-loop-left : goal.decreases-loop-left
decreases-loop-left l = length l.left
