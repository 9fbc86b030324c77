-- Intra prediction modes need samples of neighbours, and a macroblock has none whose neighbours aren't available (ITU-T H.264, clauses 8.3.1.2, 8.3.2.2, 8.3.3 and 8.3.4).
use Rattle.std.specs.Prelude.{ℕ, ◌+◌, ◌/◌, ◌%◌, Bool, true, ◌&&◌, List, [], ◌∷◌, get_or}
use Rattle.std.specs.List.{list_all, range_with_len}
use Rattle.enc_tables.specs.declared.records.MbKind.{MbKind}
use Rattle.enc_tables.specs.declared.records.MbRecord.{MbRecord}
use Rattle.spec_intra.specs.declared.Avail.{Avail}
use Rattle.spec_intra.specs.Near.{macroblock_avail, block_avail}
use Rattle.spec_basics.specs.Blocks.{block_column, block_row}
use Rattle.spec_intra.specs.Predictions.{is_allowed_nxn, is_allowed16, is_allowed_chroma}

-- the luma modes of a macroblock, by its kind, where `mb` are its neighbours
abbrev pub luma_allowed : MbKind → Avail → List ℕ → Bool
luma_allowed MbKind.Intra4 mb modes =
    list_all (λ b. is_allowed_nxn (get_or modes b 0) (block_avail 4 mb (block_column b) (block_row b))) (range_with_len 0 16)
luma_allowed MbKind.Intra8 mb modes = list_all (λ k. is_allowed_nxn (get_or modes k 0) (block_avail 2 mb (k % 2) (k / 2))) (range_with_len 0 4)
luma_allowed MbKind.Intra16 mb modes = is_allowed16 (get_or modes 0 0) mb
luma_allowed _ mb modes = true

-- with the chroma mode, which is 0 in inter macroblocks
unfoldable pub modes_allowed : Avail → MbRecord → Bool
modes_allowed mb r = luma_allowed r.kind mb r.modes && is_allowed_chroma r.chroma_mode mb

-- of the macroblocks from an address on, in a slice that begins with macroblock `first`, where a row has `width`
unfoldable pub all_allowed : ℕ → ℕ → ℕ → List MbRecord → Bool
all_allowed width first address [] = true
all_allowed width first address (mb ∷ rest) = modes_allowed (macroblock_avail width first address) mb && all_allowed width first (address + 1) rest
