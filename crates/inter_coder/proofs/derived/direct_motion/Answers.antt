use Rattle.inter_coder.proofs.Around.{direct_short, direct_fits, direct_is}
use Rattle.inter_coder.proofs.derived.direct_motion.Goals as goal

pub returns-clause-motion : goal.returns-clause-motion
returns-clause-motion c view h e = direct_is view c.args.colocated.now c.whole_field-field.result c.direct_motion.result c.direct_motion.ensures (c.whole_field-field.ensures view h) e

pub returns-clause-fits : goal.returns-clause-fits
returns-clause-fits c entries0 entries1 some0 some1 fits =
    direct_fits entries0 entries1 c.args.beside.now c.args.colocated.now c.direct_motion.result some0 some1 fits (λ view h e. direct_is view c.args.colocated.now c.whole_field-field.result c.direct_motion.result c.direct_motion.ensures (c.whole_field-field.ensures view h) e)

pub returns-clause-short : goal.returns-clause-short
returns-clause-short c =
    direct_short 131 c.args.beside.now c.args.colocated.now c.direct_motion.result c.requires (λ view h e. direct_is view c.args.colocated.now c.whole_field-field.result c.direct_motion.result c.direct_motion.ensures (c.whole_field-field.ensures view h) e)
