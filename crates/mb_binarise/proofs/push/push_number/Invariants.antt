use Rattle.std.proofs.Common.{◌≡◌, ◌+◌, ◌<◌, ◌≤◌, ◌^◌, ◌++◌}
use Rattle.arrayvec.specs.ArrayVec.{array_vec_len}
use Rattle.spec_syntax.specs.Numbers.{number_string}
use Rattle.mb_binarise.proofs.push.push_number.Given as goal

abbrev pub invariant-loop-left : goal.invariant-loop-left
invariant-loop-left l = record {
  written : l.bins.items ++ number_string l.left l.rest ≡ l.fn.bins.items ++ number_string l.count l.value;
  len : array_vec_len l.bins + l.left ≡ array_vec_len l.fn.bins + l.count;
  below : l.rest < 2 ^ l.left;
  left : l.left ≤ l.count;
}

abbrev pub decreases-loop-left : goal.decreases-loop-left
decreases-loop-left l = l.left
