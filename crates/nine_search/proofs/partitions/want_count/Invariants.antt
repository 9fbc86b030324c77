use Rattle.std.proofs.Common.{◌≡◌, ◌≤◌}
use Rattle.nine_search.specs.NineSearches.{below_count}
use Rattle.nine_search.proofs.partitions.want_count.Given as goal

abbrev pub invariant-loop-k : goal.invariant-loop-k
invariant-loop-k l = record { value : l.count ≡ below_count l.sums l.limits l.k; few : l.count ≤ l.k }
