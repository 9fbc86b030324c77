use Rattle.picture_planes.specs.Margins.{inward}
use Rattle.spec_inter.specs.Halves.{halves_of}
use Rattle.subpel_filter.specs.Halves.{samples_at, RowsMade}
use Rattle.subpel_filter.proofs.halves.fill_across.Given as goal

abbrev pub invariant-loop-row : goal.invariant-loop-row
invariant-loop-row l = RowsMade (λ c r. (halves_of (samples_at l.plane)).b (inward l.plane c) (inward l.plane r)) l.row l.fn.out l.out
