use Rattle.std.proofs.Common.{sym, ◌∙◌}
use Rattle.bin_writer.proofs.Coding.{codes_none, codes_as}
use Rattle.mb_syntax.proofs.Strings.{where_true, where_false}
use Rattle.mb_syntax.proofs.parts.write_four.Goals as goal

pub returns-then-is_four : goal.returns-then-is_four
returns-then-is_four c = codes_as (where_true _ _ (sym c.is_four.ensures ∙ c.if-is_four.true)) c.write_sub_types.ensures

pub returns-else-is_four : goal.returns-else-is_four
returns-else-is_four c = codes_as (where_false _ _ (sym c.is_four.ensures ∙ c.if-is_four.false)) (codes_none c.requires.ready)
