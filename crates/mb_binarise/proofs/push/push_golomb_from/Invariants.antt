use Rattle.std.proofs.Common.{◌-◌, ◌≡◌, ◌+◌, ◌<◌, ◌≤◌, ◌^◌, ◌++◌}
use Rattle.arrayvec.specs.ArrayVec.{array_vec_len}
use Rattle.spec_syntax.specs.Numbers.{golomb_string}
use Rattle.mb_binarise.proofs.push.push_golomb_from.Given as goal

abbrev pub invariant-loop-rest : goal.invariant-loop-rest
invariant-loop-rest l = record {
  written : l.bins.items ++ golomb_string (l.order + l.most - l.k) l.k l.rest ≡ l.fn.bins.items ++ golomb_string l.most l.order l.value;
  len : array_vec_len l.bins + l.order ≡ array_vec_len l.fn.bins + l.k;
  below : l.rest + 2 ^ l.k < 2 ^ (l.order + l.most);
  from : l.order ≤ l.k;
  small : l.k < l.order + l.most;
}

abbrev pub decreases-loop-rest : goal.decreases-loop-rest
decreases-loop-rest l = l.order + l.most - l.k
