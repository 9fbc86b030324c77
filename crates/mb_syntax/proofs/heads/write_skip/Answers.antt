use Rattle.std.proofs.Common.{sym, ◌∙◌}
use Rattle.bin_writer.proofs.Coding.{codes_none, codes_as}
use Rattle.mb_syntax.proofs.PartStrings.{skip_codable}
use Rattle.mb_syntax.proofs.Strings.{where_true, where_false}
use Rattle.mb_syntax.proofs.heads.write_skip.Goals as goal

pub returns-then-not-has_inter : goal.returns-then-not-has_inter
returns-then-not-has_inter c = codes_as (where_false _ _ (sym c.has_inter.ensures ∙ c.if-not-has_inter.true)) (codes_none c.requires.ready)

pub code_bins-requires-clause-codable : goal.code_bins-requires-clause-codable
code_bins-requires-clause-codable c = rw (c.as_slice.ensures.value, c.bins_skip-bins.ensures) (skip_codable c.args.around.now.kind c.inc_skip-inc.result c.is_skipped.result c.inc_skip-inc.ensures.most)

pub returns : goal.returns
returns c =
    codes_as (where_true _ _ (sym c.has_inter.ensures ∙ c.if-not-has_inter.false)) (rw (c.as_slice.ensures.value, c.bins_skip-bins.ensures, c.inc_skip-inc.ensures.value, c.is_skipped.ensures) at c.code_bins.ensures)
