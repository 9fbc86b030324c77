use Rattle.std.proofs.Common.{sym, ◌∙◌}
use Rattle.y4m_film.proofs.Sayings.{line_is}
use Rattle.y4m_film.proofs.text.head_of_line.Goals as goal

pub returns : goal.returns
returns c = line_is c.args.line.now c.head_of_text.result (sym c.begins_film.ensures ∙ c.if-not-begins_film.false) c.head_of_text.ensures
