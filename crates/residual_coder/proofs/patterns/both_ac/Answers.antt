use Rattle.std.proofs.Common.{refl, replicate, pos}
use Rattle.residual_coder.proofs.PatternLaws.{levels_beside}
use Rattle.residual_coder.proofs.patterns.both_ac.Goals as goal

pub returns : goal.returns
returns c =
    levels_beside 60 c.copy_from_slice.new.self c.copy_from_slice-2.new.self (replicate 60 (pos 0)) c.args.cb.now c.args.cr.now
    c.copy_from_slice.ensures.after c.copy_from_slice-2.ensures.after c.told-cb refl
