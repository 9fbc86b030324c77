-- Which 4x4 blocks of a macroblock have levels.
use Rattle.std.specs.Prelude.{◌≡◌, ◌<◌, ℕ, ◌/◌, ◌%◌, Bool, false, List, slice_index_or}
use Rattle.enc_tables.specs.declared.records.MbRecord.{MbRecord}
use Rattle.spec_filter.specs.Strengths.{is_coded}

-- the first n 4x4 blocks, row by row: whether each lies in a transform block with a level that isn't 0
pub record CodedTo (n : ℕ) (mb : MbRecord) (coded : List Bool) : Type 0 where
  pub each : (i : ℕ) → i < n → slice_index_or coded i false ≡ is_coded mb (i / 4) (i % 4)
