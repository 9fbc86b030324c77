use Rattle.std.proofs.Common.{◌-◌, ◌+◌, ◌<◌, ◌^◌}
use Rattle.spec_syntax.specs.Numbers.{golomb_string}
use Rattle.bin_writer.proofs.Coding.{LeadsPlain}
use Rattle.residual_writer.proofs.numbers.code_golomb.Given as goal

abbrev pub invariant-loop-rest : goal.invariant-loop-rest
invariant-loop-rest l = record {
  coded : LeadsPlain l.fn.coder (golomb_string 13 0 l.value) l.coder (golomb_string (13 - l.k) l.k l.rest);
  below : l.rest + 2 ^ l.k < 8192;
  order : l.k < 13;
}

abbrev pub decreases-loop-rest : goal.decreases-loop-rest
decreases-loop-rest l = 13 - l.k
