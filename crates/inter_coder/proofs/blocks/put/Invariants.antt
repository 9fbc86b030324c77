use Rattle.inter_coder.proofs.Puts.{Putting}
use Rattle.inter_coder.proofs.blocks.put.Given as goal

abbrev pub invariant-loop-j : goal.invariant-loop-j
invariant-loop-j g l = Putting g.row.S l.x l.y l.wide l.j l.block l.initial.out l.out
