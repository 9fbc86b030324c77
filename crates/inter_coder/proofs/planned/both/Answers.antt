use Rattle.std.proofs.Common.{refl, replicate}
use Rattle.enc_tables.specs.Records.{zero_vector}
use Rattle.inter_coder.proofs.PlanLaws.{vectors_beside}
use Rattle.inter_coder.proofs.planned.both.Goals as goal

pub returns : goal.returns
returns c =
    vectors_beside 4 c.copy_from_slice.new.self c.copy_from_slice-2.new.self (replicate 4 zero_vector) c.args.first.now c.args.second.now
    c.copy_from_slice.ensures.after c.copy_from_slice-2.ensures.after c.told-first refl
