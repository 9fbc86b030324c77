use Rattle.std.proofs.Common.{refl}
use Rattle.spec_inter.specs.Luma.{firsts}
use Rattle.subpel_filter.proofs.fractions.first_of.Goals as goal

pub returns : goal.returns
unfolding firsts
returns c = refl
