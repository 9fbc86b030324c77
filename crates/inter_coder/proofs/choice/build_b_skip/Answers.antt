use Rattle.std.proofs.Common.{◌∙◌, ap, List}
use Rattle.enc_tables.specs.declared.records.MbKind.{MbKind}
use Rattle.enc_tables.specs.declared.records.Motion.{Motion}
use Rattle.spec_coded.specs.Planned.{moving}
use Rattle.inter_coder.proofs.choice.build_b_skip.Goals as goal

pub build_blank-requires-clause-fits : goal.build_blank-requires-clause-fits
build_blank-requires-clause-fits c = c.direct_motion-motion.ensures.fits _ _ c.requires.some.0 c.requires.some.1 c.requires.fits

pub returns-clause-record : goal.returns-clause-record
returns-clause-record c view h e = c.build_blank.ensures.record ∙ ap (λ (m : List Motion). moving MbKind.BSkip c.args.site.now.qp m) (c.direct_motion-motion.ensures.motion view h e)
