use Rattle.std.proofs.Common.{◌≡◌, ◌≤◌, ◌+◌, ◌-◌}
use Rattle.spec_search.specs.Scan.{spot_at}
use Rattle.motion_search.specs.Planes.{costs, bounds}
use Rattle.motion_search.specs.Reached.{Reached}
use Rattle.motion_search.proofs.window.search.Given as goal

abbrev pub invariant-loop-place : goal.invariant-loop-place
invariant-loop-place g l = record {
  stands : l.spot ≡ spot_at (l.place - 1);
  known : Reached (costs l.source l.reference l.block) (bounds l.source l.reference l.block) l.place l.best;
  few : l.best.compared ≤ l.place;
  counted : l.steps ≡ l.fn.steps + l.best.compared;
}
