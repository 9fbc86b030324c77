use Rattle.intra_pred.proofs.Filled.{Filled}
use Rattle.intra_pred.proofs.blocks.block8.Given as goal

abbrev pub invariant-loop-k : goal.invariant-loop-k
invariant-loop-k g l = Filled 8 (g.P.Predictor.at l.p) l.k l.out
