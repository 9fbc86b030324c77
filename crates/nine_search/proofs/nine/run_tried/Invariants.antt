use Rattle.std.proofs.Common.{◌≡◌, ◌≤◌, ◌<◌, ◌+◌, ◌*◌, ℕ, length}
use Rattle.std.specs.Prelude.{slice_index}
use Rattle.nine_search.specs.NineSearches.{NineSearched, nine_want, sad_at}
use Rattle.nine_search.specs.NinePlanes.{sub_costs, sub_bounds}
use Rattle.nine_search.proofs.nine.run_tried.Given as goal

abbrev pub invariant-loop-lane : goal.invariant-loop-lane
invariant-loop-lane g l = record {
  known : NineSearched (sub_costs l.source l.reference l.x l.y) (sub_bounds l.source l.reference l.x l.y) (l.place + l.lane) l.nine;
  wanted : (i : ℕ) → l.lane ≤ i → i < l.run.count → slice_index l.counts i ≡ nine_want (sub_bounds l.source l.reference l.x l.y) (sad_at l.nine) (l.place + i);
  few : l.nine.compared ≤ l.fn.old.compared + 9 * l.lane;
  counted : l.steps + l.fn.old.compared ≡ l.fn.steps + l.nine.compared;
  lanes : length l.counts ≡ 16;
}
