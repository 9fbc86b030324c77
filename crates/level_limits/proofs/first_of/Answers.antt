use Rattle.std.proofs.Common.{sym, ◌∙◌}
use Rattle.spec_levels.proofs.First.{first_here, first_later, first_none}
use Rattle.level_limits.proofs.first_of.Goals as goal

pub returns-then-keeps : goal.returns-then-keeps
returns-then-keeps c =
    first_here c.args.need.now c.loop-left.left.now c.in-len1-up.len_at_least (sym c.keeps.ensures ∙ c.if-keeps.true) ∙ c.loop-left.invariant

pub loop-left-preserved : goal.loop-left-preserved
loop-left-preserved c =
    first_later c.args.need.now c.loop-left.left.now c.in-len1-up.len_at_least (sym c.keeps.ensures ∙ c.if-keeps.false) ∙ c.loop-left.invariant

pub returns : goal.returns
returns c = first_none c.args.need.now c.loop-left.left.now c.in_default.len_below ∙ c.loop-left.invariant
