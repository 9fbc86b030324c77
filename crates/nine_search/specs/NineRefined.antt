-- The refined vectors of nine partitions.
use Rattle.std.specs.Prelude.{ℕ, slice_index, slice_index_or}
use Rattle.enc_tables.specs.declared.records.Vector.{Vector}
use Rattle.enc_tables.specs.Records.{zero_vector}
use Rattle.nine_search.specs.declared.refinements.Refinements.{Refinements}

abbrev pub vector_at : Refinements → ℕ → Vector
vector_at r k = slice_index_or r.vectors k zero_vector

abbrev pub cost_at : Refinements → ℕ → ℕ
cost_at r k = slice_index r.sads k
