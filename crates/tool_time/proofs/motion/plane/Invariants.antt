use Rattle.std.proofs.Common.{◌≡◌}
use Rattle.tool_time.proofs.motion.plane.Given as goal

abbrev pub invariant-loop-y : goal.invariant-loop-y
invariant-loop-y l = (l.plane.width ≡ 512) × (l.plane.height ≡ 272) × (l.plane.pad ≡ 40)
