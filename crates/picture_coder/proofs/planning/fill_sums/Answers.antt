use Rattle.std.proofs.Common.{sym, ◌∙◌}
use Rattle.picture_coder.proofs.planning.fill_sums.Goals as goal

pub returns-clause-width : goal.returns-clause-width
returns-clause-width c = c.fill.ensures.shape.width ∙ sym c.requires.shape.width

pub returns-clause-height : goal.returns-clause-height
returns-clause-height c = c.fill.ensures.shape.height ∙ sym c.requires.shape.height

pub returns-clause-pad : goal.returns-clause-pad
returns-clause-pad c = c.fill.ensures.shape.pad ∙ sym c.requires.shape.pad
