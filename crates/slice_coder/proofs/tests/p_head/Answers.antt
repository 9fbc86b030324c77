use Rattle.std.proofs.Common.{refl, arith}
use Rattle.spec_headers.specs.Heads.{other_head}
use Rattle.slice_coder.proofs.tests.p_head.Goals as goal

pub returns-clause-head : goal.returns-clause-head
unfolding other_head
returns-clause-head c = record {
  same = refl;
  kind_fits = refl;
  fits = record { first_mb_fits = omega arith; frame_num_fits = omega arith; poc_fits = omega arith; some = omega arith; few = omega arith; moved_fits = tt; qp_fits = omega arith };
}
