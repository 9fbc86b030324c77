-- The modes that predict the mean of the neighbours (clauses 8.3.1.2.3, 8.3.2.2.4, 8.3.3.3 and 8.3.4.1 to 8.3.4.3).
use Rattle.std.specs.Prelude.{ℕ, Bool, List, [], ◌∷◌, ◌++◌, ◌+◌, ◌*◌, ◌/◌, ◌==◌, nat_lt, cond, slice_index, sum, length, take, drop}
use Rattle.spec_intra.specs.declared.Avail.{Avail}

-- the rounded mean; the middle grey where there is no sample
unfoldable pub mean : List ℕ → ℕ
mean [] = 128
mean (x ∷ xs) = (sum (x ∷ xs) + length (x ∷ xs) / 2) / length (x ∷ xs)

abbrev pub where_there : Bool → List ℕ → List ℕ
where_there there xs = cond there xs []

-- the mean of the available ones of two sides
unfoldable pub mean_of_sides : Avail → List ℕ → List ℕ → ℕ
mean_of_sides avail above left = mean (where_there avail.above above ++ where_there avail.left left)

-- the first of two lines of neighbours that there is
abbrev pub first_there : List ℕ → List ℕ → List ℕ
first_there [] ys = ys
first_there (x ∷ xs) ys = x ∷ xs

-- the neighbours whose mean the 4x4 chroma block in this column and row of blocks takes, where a side that isn't available is
-- an empty line: both sides on the diagonal; at the upper right those above before those at the left; at the lower left those
-- at the left before those above
unfoldable pub chroma_beside : List ℕ → List ℕ → ℕ → ℕ → List ℕ
chroma_beside above left column row =
    let a = take 4 (drop (4 * column) above) in
    let l = take 4 (drop (4 * row) left) in
    cond (column == row) (a ++ l) (cond (nat_lt row column) (first_there a l) (first_there l a))

-- the means of the four 4x4 blocks of a chroma component
unfoldable pub chroma_means : Avail → List ℕ → List ℕ → List ℕ
chroma_means avail above left =
    let a = where_there avail.above above in
    let l = where_there avail.left left in
    mean (chroma_beside a l 0 0) ∷ mean (chroma_beside a l 1 0) ∷ mean (chroma_beside a l 0 1) ∷ mean (chroma_beside a l 1 1) ∷ []

-- an 8x8 block has one value in each of its four 4x4 blocks
abbrev pub of_quarters : List ℕ → ℕ → ℕ → ℕ
of_quarters values x y = slice_index values (2 * (y / 4) + x / 4)
