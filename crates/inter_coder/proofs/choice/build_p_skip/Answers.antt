use Rattle.std.proofs.Common.{◌∙◌, ap, List}
use Rattle.enc_tables.specs.declared.records.MbKind.{MbKind}
use Rattle.enc_tables.specs.declared.records.Motion.{Motion}
use Rattle.spec_coded.specs.Planned.{moving}
use Rattle.inter_coder.proofs.choice.build_p_skip.Goals as goal

pub build_blank-requires-clause-fits : goal.build_blank-requires-clause-fits
build_blank-requires-clause-fits c = c.skip_motion-motion.ensures.fits _ _ c.requires.some

pub returns-clause-record : goal.returns-clause-record
returns-clause-record c view h = c.build_blank.ensures.record ∙ ap (λ (m : List Motion). moving MbKind.PSkip c.args.site.now.qp m) (c.skip_motion-motion.ensures.motion view h)
