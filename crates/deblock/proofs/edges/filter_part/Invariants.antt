use Rattle.std.proofs.Common.{◌≡◌, ◌+◌, ◌*◌}
use Rattle.enc_tables.specs.Steps.{steps}
use Rattle.spec_filter.specs.Edges.{line_filtered}
use Rattle.deblock.proofs.edges.filter_part.Given as goal

abbrev pub invariant-loop-j : goal.invariant-loop-j
invariant-loop-j l = l.samples ≡ steps (λ j. line_filtered l.rule (l.start + j * l.across) l.step) l.j l.fn.samples
