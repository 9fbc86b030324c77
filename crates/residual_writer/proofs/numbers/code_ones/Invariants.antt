use Rattle.std.proofs.Common.{◌-◌, ◌≤◌}
use Rattle.spec_syntax.specs.Numbers.{ones_string}
use Rattle.bin_writer.specs.Coding.{seen}
use Rattle.bin_writer.proofs.Coding.{Leads}
use Rattle.residual_writer.proofs.numbers.code_ones.Given as goal

abbrev pub invariant-loop-k : goal.invariant-loop-k
invariant-loop-k l = record {
  coded : Leads (seen l.fn.coder l.fn.contexts) (ones_string l.context l.most l.value) (seen l.coder l.contexts) (ones_string l.context (l.most - l.k) (l.value - l.k));
  count : l.k ≤ l.count;
}

abbrev pub decreases-loop-k : goal.decreases-loop-k
decreases-loop-k l = l.count - l.k
