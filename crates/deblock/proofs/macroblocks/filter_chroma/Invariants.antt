use Rattle.std.proofs.Common.{◌≡◌}
use Rattle.enc_tables.specs.Steps.{steps}
use Rattle.spec_filter.specs.Macroblocks.{chroma_vertical, chroma_horizontal}
use Rattle.deblock.proofs.macroblocks.filter_chroma.Given as goal

abbrev pub invariant-loop-k : goal.invariant-loop-k
invariant-loop-k l = l.samples ≡ steps (chroma_vertical l.edges l.at l.x l.y) l.k l.fn.samples

abbrev pub invariant-loop-k-2 : goal.invariant-loop-k-2
invariant-loop-k-2 l =
    l.samples ≡ steps (chroma_horizontal l.edges l.at l.x l.y) l.k (steps (chroma_vertical l.edges l.at l.x l.y) 2 l.fn.samples)
