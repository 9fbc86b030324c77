-- Lines and edges in a list of samples (ITU-T H.264, clause 8.7.1).
use Rattle.std.specs.Prelude.{ℕ, List, ◌+◌, ◌*◌, slice_index, slice_set}
use Rattle.enc_tables.specs.Steps.{steps}
use Rattle.spec_filter.specs.declared.SampleLine.{SampleLine}
use Rattle.spec_filter.specs.declared.EdgeRule.{EdgeRule}
use Rattle.spec_filter.specs.Lines.{filtered}

-- the line of eight samples that begins at a place and goes on by a step
unfoldable pub line_at : List ℕ → ℕ → ℕ → SampleLine
line_at xs start step = record {
  p3 = slice_index xs start;
  p2 = slice_index xs (start + step);
  p1 = slice_index xs (start + 2 * step);
  p0 = slice_index xs (start + 3 * step);
  q0 = slice_index xs (start + 4 * step);
  q1 = slice_index xs (start + 5 * step);
  q2 = slice_index xs (start + 6 * step);
  q3 = slice_index xs (start + 7 * step);
}

-- with a line's six inner samples in that place
unfoldable pub with_line : List ℕ → ℕ → ℕ → SampleLine → List ℕ
with_line xs start step l =
    slice_set (slice_set (slice_set (slice_set (slice_set (slice_set xs
    (start + step) l.p2) (start + 2 * step) l.p1) (start + 3 * step) l.p0)
    (start + 4 * step) l.q0) (start + 5 * step) l.q1) (start + 6 * step) l.q2

unfoldable pub line_filtered : EdgeRule → ℕ → ℕ → List ℕ → List ℕ
line_filtered r start step xs = with_line xs start step (filtered r (line_at xs start step))

-- n lines side by side with one rule; the next line begins `across` places on
unfoldable pub part_filtered : EdgeRule → ℕ → ℕ → ℕ → ℕ → List ℕ → List ℕ
part_filtered r n start step across = steps (λ j. line_filtered r (start + j * across) step) n

-- an edge: four parts of n lines, each part with its rule
unfoldable pub edge_filtered : (ℕ → EdgeRule) → ℕ → ℕ → ℕ → ℕ → List ℕ → List ℕ
edge_filtered rule n start step across = steps (λ g. part_filtered (rule g) n (start + n * g * across) step across) 4
