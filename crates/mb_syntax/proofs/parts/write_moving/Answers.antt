use Rattle.std.proofs.Common.{sym, ◌∙◌}
use Rattle.bin_writer.proofs.Coding.{codes_none, codes_as}
use Rattle.mb_syntax.proofs.Strings.{where_true, where_false}
use Rattle.mb_syntax.proofs.parts.write_moving.Goals as goal

pub returns-then-has_motion : goal.returns-then-has_motion
returns-then-has_motion c = codes_as (where_true _ _ (sym c.has_motion.ensures ∙ c.if-has_motion.true)) c.write_inter.ensures

pub returns-else-has_motion : goal.returns-else-has_motion
returns-else-has_motion c = codes_as (where_false _ _ (sym c.has_motion.ensures ∙ c.if-has_motion.false)) (codes_none c.requires.ready)
