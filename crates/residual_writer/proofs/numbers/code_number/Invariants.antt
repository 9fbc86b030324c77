use Rattle.std.proofs.Common.{◌<◌, ◌≤◌, ◌^◌}
use Rattle.spec_syntax.specs.Numbers.{number_string}
use Rattle.bin_writer.proofs.Coding.{LeadsPlain}
use Rattle.residual_writer.proofs.numbers.code_number.Given as goal

abbrev pub invariant-loop-left : goal.invariant-loop-left
invariant-loop-left l = record {
  coded : LeadsPlain l.fn.coder (number_string l.count l.value) l.coder (number_string l.left l.rest);
  below : l.rest < 2 ^ l.left;
  left : l.left ≤ l.count;
}

abbrev pub decreases-loop-left : goal.decreases-loop-left
decreases-loop-left l = l.left
