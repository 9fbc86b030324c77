use Rattle.std.proofs.Common.{sym, ◌∙◌}
use Rattle.bin_writer.proofs.Coding.{codes_then, codes_as}
use Rattle.mb_syntax.specs.Around.{near_of}
use Rattle.mb_syntax.proofs.Strings.{head_skipped, head_coded}
use Rattle.mb_syntax.proofs.heads.write_head.Goals as goal

pub returns-then-is_skipped : goal.returns-then-is_skipped
returns-then-is_skipped c = codes_as (head_skipped (near_of c.args.around.now c.args.mb.now) c.args.mb.now (sym c.is_skipped.ensures ∙ c.if-is_skipped.true)) c.write_skip.ensures

pub returns : goal.returns
returns c = codes_as (head_coded (near_of c.args.around.now c.args.mb.now) c.args.mb.now (sym c.is_skipped.ensures ∙ c.if-is_skipped.false)) (codes_then c.write_skip.ensures (codes_then c.write_type.ensures c.write_partitions.ensures))
