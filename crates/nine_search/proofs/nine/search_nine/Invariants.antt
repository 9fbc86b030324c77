use Rattle.std.proofs.Common.{◌≡◌, ◌≤◌, ◌<◌, ◌+◌, ◌-◌, ◌*◌}
use Rattle.spec_search.specs.Scan.{spot_at, window_size}
use Rattle.nine_search.specs.NineSearches.{NineSearched}
use Rattle.nine_search.specs.NinePlanes.{sub_costs, sub_bounds}
use Rattle.nine_search.proofs.nine.search_nine.Given as goal

abbrev pub invariant-loop-place : goal.invariant-loop-place
invariant-loop-place g l = record {
  stands : l.spot ≡ spot_at (l.place - 1);
  later : 0 < l.place;
  inside : l.place ≤ window_size l.range;
  known : NineSearched (sub_costs l.source l.reference l.x l.y) (sub_bounds l.source l.reference l.x l.y) l.place l.nine;
  few : l.nine.compared ≤ 9 * l.place;
  counted : l.steps ≡ l.fn.steps + l.nine.compared;
}

abbrev pub decreases-loop-place : goal.decreases-loop-place
decreases-loop-place g l = window_size l.range - l.place
