use Rattle.bin_writer.proofs.Coding.{codes_then, codes_as}
use Rattle.residual_writer.proofs.Flags.{place_one, place_zero}
use Rattle.residual_writer.proofs.significance.code_place.Goals as goal

pub returns-then-here : goal.returns-then-here
returns-then-here c = codes_as (place_one c.args.category c.args.place c.args.here c.if-here.true) (codes_then c.code_significant.ensures c.code_last.ensures)

pub returns-else-here : goal.returns-else-here
returns-else-here c = codes_as (place_zero c.args.category c.args.place c.args.here c.if-here.false) c.code_significant.ensures
