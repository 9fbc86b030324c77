use Rattle.std.proofs.lemmas.List.{take_more}
use Rattle.bin_writer.proofs.Coding.{codes_none, codes_then, codes_as}
use Rattle.bin_writer.proofs.code_bins.Goals as goal

pub loop-bin-init : goal.loop-bin-init
loop-bin-init c = codes_none c.requires.ready

pub loop-bin-preserved : goal.loop-bin-preserved
loop-bin-preserved c = codes_as (take_more c.args.bins.now c.loop-bin.bin-index _ c.loop-bin-test.true) (codes_then c.loop-bin.invariant c.code_one.ensures)
