use Rattle.std.proofs.Common.{◌-◌, ◌≡◌, ◌+◌, ◌≤◌, ◌++◌}
use Rattle.arrayvec.specs.ArrayVec.{array_vec_len}
use Rattle.spec_syntax.specs.Numbers.{prefix_string}
use Rattle.spec_syntax.specs.Inter.{mvd_at}
use Rattle.mb_binarise.proofs.inter.push_prefix.Given as goal

abbrev pub invariant-loop-k : goal.invariant-loop-k
invariant-loop-k l = record {
  written : l.bins.items ++ prefix_string (mvd_at l.vertical l.inc) l.k (9 - l.k) (l.size - l.k) ≡ l.fn.bins.items ++ prefix_string (mvd_at l.vertical l.inc) 0 9 l.size;
  len : array_vec_len l.bins ≡ array_vec_len l.fn.bins + l.k;
  count : l.k ≤ l.count;
}

abbrev pub decreases-loop-k : goal.decreases-loop-k
decreases-loop-k l = l.count - l.k
