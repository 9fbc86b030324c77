use Rattle.std.proofs.Common.{◌≤◌}
use Rattle.std.specs.List.{AllByRecursion}
use Rattle.spec_syntax.specs.Levels.{minus1}
use Rattle.spec_syntax.specs.Blocks.{IsLevel, block, some_levels}
use Rattle.spec_syntax.specs.Inter.{IsDifference, mvd}
use Rattle.spec_syntax.proofs.Ends.{reads_give, minus1_gives, block_gives, some_gives, mvd_gives}
use Rattle.spec_syntax.proofs.readings_are_in_range.Goals as goal

pub returns : goal.returns
returns c = record {
  level = λ first others bins m r. reads_give (λ m. m ≤ 8190) (minus1 first others) bins m (minus1_gives first others) r;
  coded = λ category inc n bins levels r. reads_give (AllByRecursion IsLevel) (block category inc n) bins levels (block_gives category inc n) r;
  some = λ category n bins levels r. reads_give (AllByRecursion IsLevel) (some_levels category n) bins levels (some_gives category n) r;
  mvd = λ vertical inc bins d r. reads_give IsDifference (mvd vertical inc) bins d (mvd_gives vertical inc) r;
}
