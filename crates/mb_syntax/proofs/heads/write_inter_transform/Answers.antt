use Rattle.std.proofs.Common.{sym, ◌∙◌}
use Rattle.bin_writer.proofs.Coding.{codes_none, codes_as}
use Rattle.mb_syntax.specs.Around.{near_of}
use Rattle.mb_syntax.proofs.Strings.{inter_transform_some, inter_transform_none}
use Rattle.mb_syntax.proofs.heads.write_inter_transform.Goals as goal

pub returns-then-has_inter_transform : goal.returns-then-has_inter_transform
returns-then-has_inter_transform c =
    codes_as (inter_transform_some (near_of c.args.around.now c.args.mb.now) c.args.mb.now c.inc_transform-inc.result (sym c.has_inter_transform.ensures ∙ c.if-has_inter_transform.true) c.inc_transform-inc.ensures.value) c.code_bin.ensures

pub returns-else-has_inter_transform : goal.returns-else-has_inter_transform
returns-else-has_inter_transform c = codes_as (inter_transform_none (near_of c.args.around.now c.args.mb.now) c.args.mb.now (sym c.has_inter_transform.ensures ∙ c.if-has_inter_transform.false)) (codes_none c.requires.ready)
