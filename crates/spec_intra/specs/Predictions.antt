-- The predicted samples of a block, row by row, by mode and neighbours, and which modes are allowed.
use Rattle.std.specs.Prelude.{ℕ, Bool, true, false, List, ◌∷◌, ◌+◌, ◌==◌, ◌&&◌, ◌||◌, nat_lt, cond, slice_index, take, drop}
use Rattle.spec_intra.specs.declared.Avail.{Avail}
use Rattle.spec_intra.specs.declared.Nb4.{Nb4}
use Rattle.spec_intra.specs.declared.Nb8.{Nb8}
use Rattle.spec_intra.specs.declared.Nb16.{Nb16}
use Rattle.spec_intra.specs.declared.NbC.{NbC}
use Rattle.spec_intra.specs.Block.{line, block}
use Rattle.spec_intra.specs.Directions.{edge_at, vertical, horizontal, down_left, down_right, vertical_right, horizontal_down, vertical_left, horizontal_up}
use Rattle.spec_intra.specs.Means.{mean_of_sides, chroma_means, of_quarters}
use Rattle.spec_intra.specs.Smoothing.{smoothed}
use Rattle.spec_intra.specs.Slopes.{plane}

-- the line of neighbours of a 4x4 block, and the smoothed one of an 8x8 block
unfoldable pub edge4 : Nb4 → List ℕ
edge4 nb = line 13 (edge_at 4 nb.left nb.corner nb.above nb.avail.above_right)

unfoldable pub edge8 : Nb8 → List ℕ
edge8 nb = smoothed nb.avail (line 25 (edge_at 8 nb.left nb.corner nb.above nb.avail.above_right))

-- a block of n by n in one of the nine modes, from its line of neighbours (clauses 8.3.1.2 and 8.3.2.2); the names are those of table 8-2,
-- and with Intra_8x8 those of table 8-3
unfoldable pub from_edge : ℕ → ℕ → Avail → List ℕ → List ℕ
from_edge n mode avail e =
    let at = λ (k : ℕ). slice_index e k in
    cond (mode == 0) (block n (vertical n at))  -- Intra_4x4_Vertical
    (cond (mode == 1) (block n (horizontal n at))  -- Intra_4x4_Horizontal
    (cond (mode == 2) (block n (λ x y. mean_of_sides avail (take n (drop (n + 1) e)) (take n e)))  -- Intra_4x4_DC
    (cond (mode == 3) (block n (down_left n at))  -- Intra_4x4_Diagonal_Down_Left
    (cond (mode == 4) (block n (down_right n at))  -- Intra_4x4_Diagonal_Down_Right
    (cond (mode == 5) (block n (vertical_right n at))  -- Intra_4x4_Vertical_Right
    (cond (mode == 6) (block n (horizontal_down n at))  -- Intra_4x4_Horizontal_Down
    (cond (mode == 7) (block n (vertical_left n at))  -- Intra_4x4_Vertical_Left
    (block n (horizontal_up n at)))))))))  -- 8, Intra_4x4_Horizontal_Up

abbrev pub predicted4 : ℕ → Nb4 → List ℕ
predicted4 mode nb = from_edge 4 mode nb.avail (edge4 nb)

abbrev pub predicted8 : ℕ → Nb8 → List ℕ
predicted8 mode nb = from_edge 8 mode nb.avail (edge8 nb)

-- a luma macroblock (clause 8.3.3, table 8-4)
unfoldable pub predicted16 : ℕ → Nb16 → List ℕ
predicted16 mode nb =
    cond (mode == 0) (block 16 (λ x y. slice_index nb.above x))  -- Intra_16x16_Vertical
    (cond (mode == 1) (block 16 (λ x y. slice_index nb.left y))  -- Intra_16x16_Horizontal
    (cond (mode == 2) (block 16 (λ x y. mean_of_sides nb.avail nb.above nb.left))  -- Intra_16x16_DC
    (block 16 (plane 5 8 (nb.corner ∷ nb.above) (nb.corner ∷ nb.left)))))  -- 3, Intra_16x16_Plane

-- a chroma component (clause 8.3.4, table 8-5)
unfoldable pub predicted_chroma : ℕ → NbC → List ℕ
predicted_chroma mode nb =
    cond (mode == 0) (block 8 (of_quarters (chroma_means nb.avail nb.above nb.left)))  -- Intra_Chroma_DC
    (cond (mode == 1) (block 8 (λ x y. slice_index nb.left y))  -- Intra_Chroma_Horizontal
    (cond (mode == 2) (block 8 (λ x y. slice_index nb.above x))  -- Intra_Chroma_Vertical
    (block 8 (plane 34 4 (nb.corner ∷ nb.above) (nb.corner ∷ nb.left)))))  -- 3, Intra_Chroma_Plane

-- a mode is allowed where all neighbours that it needs are available

abbrev pub all_sides : Avail → Bool
all_sides avail = avail.above && avail.left && avail.corner

-- the nine modes of 4x4 and 8x8 blocks: 0, 3 and 7 need the samples above, 1 and 8 those at the left, 4, 5 and 6 all sides
abbrev pub is_allowed_nxn : ℕ → Avail → Bool
is_allowed_nxn mode avail =
    cond ((mode == 0) || (mode == 3) || (mode == 7)) avail.above
    (cond ((mode == 1) || (mode == 8)) avail.left
    (cond (mode == 2) true (cond (nat_lt mode 7) (all_sides avail) false)))

abbrev pub is_allowed16 : ℕ → Avail → Bool
is_allowed16 mode avail =
    cond (mode == 0) avail.above
    (cond (mode == 1) avail.left (cond (mode == 2) true (cond (mode == 3) (all_sides avail) false)))

abbrev pub is_allowed_chroma : ℕ → Avail → Bool
is_allowed_chroma mode avail =
    cond (mode == 0) true
    (cond (mode == 1) avail.left (cond (mode == 2) avail.above (cond (mode == 3) (all_sides avail) false)))

-- by the block's size: 4, 8, 16, and 2 for chroma
abbrev pub is_allowed : ℕ → ℕ → Avail → Bool
is_allowed size mode avail =
    cond ((size == 4) || (size == 8)) (is_allowed_nxn mode avail)
    (cond (size == 16) (is_allowed16 mode avail) (cond (size == 2) (is_allowed_chroma mode avail) false))
