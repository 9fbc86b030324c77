use Rattle.std.proofs.Common.{◌-◌, ◌≡◌, ◌+◌, ◌≤◌, ◌++◌}
use Rattle.arrayvec.specs.ArrayVec.{array_vec_len}
use Rattle.spec_syntax.specs.Numbers.{ones_string}
use Rattle.mb_binarise.proofs.push.push_ones.Given as goal

abbrev pub invariant-loop-k : goal.invariant-loop-k
invariant-loop-k l = record {
  written : l.bins.items ++ ones_string l.ctx (l.most - l.k) (l.value - l.k) ≡ l.fn.bins.items ++ ones_string l.ctx l.most l.value;
  len : array_vec_len l.bins ≡ array_vec_len l.fn.bins + l.k;
  count : l.k ≤ l.count;
}

abbrev pub decreases-loop-k : goal.decreases-loop-k
decreases-loop-k l = l.count - l.k
