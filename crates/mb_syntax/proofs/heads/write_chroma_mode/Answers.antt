use Rattle.std.proofs.Common.{sym, ◌∙◌}
use Rattle.bin_writer.proofs.Coding.{codes_none, codes_as}
use Rattle.mb_syntax.specs.Around.{near_of}
use Rattle.mb_syntax.proofs.Codable.{chroma_mode_codable}
use Rattle.mb_syntax.proofs.Strings.{chroma_mode_is, chroma_mode_none}
use Rattle.mb_syntax.proofs.heads.write_chroma_mode.Goals as goal

pub returns-then-not-is_intra : goal.returns-then-not-is_intra
returns-then-not-is_intra c = codes_as (chroma_mode_none (near_of c.args.around.now c.args.mb.now) c.args.mb.now (sym c.is_intra.ensures ∙ c.if-not-is_intra.true)) (codes_none c.requires.ready)

pub code_bins-requires-clause-codable : goal.code_bins-requires-clause-codable
code_bins-requires-clause-codable c = rw (c.as_slice.ensures.value, c.bins_chroma_mode-bins.ensures) (chroma_mode_codable c.inc_chroma_mode-inc.result c.args.mb.now.chroma_mode c.inc_chroma_mode-inc.ensures.most)

pub returns : goal.returns
returns c =
    codes_as (chroma_mode_is (near_of c.args.around.now c.args.mb.now) c.args.mb.now c.inc_chroma_mode-inc.result (sym c.is_intra.ensures ∙ c.if-not-is_intra.false) c.inc_chroma_mode-inc.ensures.value)
    (rw (c.as_slice.ensures.value, c.bins_chroma_mode-bins.ensures) at c.code_bins.ensures)
