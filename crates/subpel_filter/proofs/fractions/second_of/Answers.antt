use Rattle.std.proofs.Common.{refl}
use Rattle.spec_inter.specs.Luma.{seconds}
use Rattle.subpel_filter.proofs.fractions.second_of.Goals as goal

pub returns : goal.returns
unfolding seconds
returns c = refl
