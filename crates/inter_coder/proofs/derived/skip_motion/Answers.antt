use Rattle.inter_coder.proofs.Around.{skip_short, skip_fits, skip_is}
use Rattle.inter_coder.proofs.derived.skip_motion.Goals as goal

pub returns-clause-motion : goal.returns-clause-motion
returns-clause-motion c view h = skip_is view c.whole_field-field.result c.skip_motion-motion.result c.skip_motion-motion.ensures (c.whole_field-field.ensures view h)

pub returns-clause-fits : goal.returns-clause-fits
returns-clause-fits c entries0 entries1 some =
    skip_fits entries0 entries1 c.args.beside.now _ some (λ view h. skip_is view c.whole_field-field.result c.skip_motion-motion.result c.skip_motion-motion.ensures (c.whole_field-field.ensures view h))

pub returns-clause-short : goal.returns-clause-short
returns-clause-short c =
    skip_short 131 c.args.beside.now _ c.requires (λ view h. skip_is view c.whole_field-field.result c.skip_motion-motion.result c.skip_motion-motion.ensures (c.whole_field-field.ensures view h))
