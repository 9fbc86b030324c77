use Rattle.std.proofs.Common.{arith}
use Rattle.slice_coder.proofs.Naming.{fit_more}
use Rattle.slice_coder.proofs.samples.lemma_references_fit.Goals as goal

pub loop-k-init : goal.loop-k-init
loop-k-init c = λ j d l. absurd (omega arith)

pub loop-k-preserved : goal.loop-k-preserved
loop-k-preserved c = fit_more c.args.held.now c.loop-k.k _ (omega arith) c.lemma_samples_fit.ensures c.loop-k.invariant
