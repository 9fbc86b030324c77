use Rattle.std.proofs.Common.{◌≡◌, ◌+◌, ◌*◌, true, slice_index}
use Rattle.enc_tables.specs.Steps.{steps}
use Rattle.spec_filter.specs.Strengths.{rule_at}
use Rattle.spec_filter.specs.Edges.{part_filtered}
use Rattle.deblock.proofs.macroblocks.filter_chroma_edge.Given as goal

abbrev pub invariant-loop-g : goal.invariant-loop-g
invariant-loop-g l =
    l.samples ≡ steps (λ g. part_filtered (rule_at true l.index (slice_index l.strengths (8 * l.k + g))) 2 (l.start + 2 * g * l.across) l.step l.across) l.g l.fn.samples
