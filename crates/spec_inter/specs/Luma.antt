-- Luma samples at quarter sample positions (ITU-T H.264, clause 8.4.2.2.1).
use Rattle.std.specs.Prelude.{ℕ, ℤ, pos, List, [], ◌∷◌, get_or, ◌+◌, ◌*◌, ◌+ℤ◌, ◌-ℤ◌}
use Rattle.enc_tables.specs.declared.records.Vector.{Vector}
use Rattle.spec_film.specs.Places.{sample_at}
use Rattle.spec_inter.specs.declared.Position.{Position}
use Rattle.spec_inter.specs.declared.Position.TheVariants.{Here, Right, Below, Across, AcrossBelow, Down, DownRight, Middle}
use Rattle.spec_inter.specs.Taps.{tap, half, half_twice, mean}
use Rattle.spec_inter.specs.Places.{whole, fraction}

-- The samples about a sample G: near k l stands k - 2 columns right of G and l - 2 rows below it, so G is near 2 2.

-- the taps along row l, which aren't rounded
abbrev pub along : (ℕ → ℕ → ℕ) → ℕ → ℤ
along near l = tap (pos (near 0 l)) (pos (near 1 l)) (pos (near 2 l)) (pos (near 3 l)) (pos (near 4 l)) (pos (near 5 l))

-- the taps down column k, which aren't rounded
abbrev pub down : (ℕ → ℕ → ℕ) → ℕ → ℤ
down near k = tap (pos (near k 0)) (pos (near k 1)) (pos (near k 2)) (pos (near k 3)) (pos (near k 4)) (pos (near k 5))

-- the sample at a whole or half sample position
abbrev pub position_of : (ℕ → ℕ → ℕ) → Position → ℕ
position_of near Here = near 2 2
position_of near Right = near 3 2
position_of near Below = near 2 3
position_of near Across = half (along near 2)
position_of near AcrossBelow = half (along near 3)
position_of near Down = half (down near 2)
position_of near DownRight = half (down near 3)
position_of near Middle = half_twice (tap (along near 0) (along near 1) (along near 2) (along near 3) (along near 4) (along near 5))

-- At each fraction the mean of two samples stands, and at whole and half sample positions both are the same. The
-- tables have the four fractions across in each row, and a row for each of the four fractions down:
-- G a b c
-- d e f g
-- h i j k
-- n p q r
unfoldable pub firsts : List Position
firsts =
    Here ∷ Here ∷ Across ∷ Right ∷
    Here ∷ Across ∷ Across ∷ Across ∷
    Down ∷ Down ∷ Middle ∷ Middle ∷
    Below ∷ Down ∷ Middle ∷ AcrossBelow ∷ []

unfoldable pub seconds : List Position
seconds =
    Here ∷ Across ∷ Across ∷ Across ∷
    Down ∷ Down ∷ Middle ∷ DownRight ∷
    Down ∷ Middle ∷ Middle ∷ DownRight ∷
    Down ∷ AcrossBelow ∷ AcrossBelow ∷ DownRight ∷ []

abbrev pub first_of : ℕ → ℕ → Position
first_of x y = get_or firsts (4 * y + x) Here

abbrev pub second_of : ℕ → ℕ → Position
second_of x y = get_or seconds (4 * y + x) Here

-- the sample at x quarters of a sample to the right of G and y quarters down
abbrev pub quarter_of : (ℕ → ℕ → ℕ) → ℕ → ℕ → ℕ
quarter_of near x y = mean (position_of near (first_of x y)) (position_of near (second_of x y))

-- the samples about the one at column x and row y, of samples f at any coordinates
abbrev pub about : (ℤ → ℤ → ℕ) → ℤ → ℤ → ℕ → ℕ → ℕ
about f x y k l = f (x -ℤ pos 2 +ℤ pos k) (y -ℤ pos 2 +ℤ pos l)

-- of samples f at any coordinates, the one to which a vector in quarter samples leads from column x and row y
abbrev pub moved_luma : (ℤ → ℤ → ℕ) → ℤ → ℤ → Vector → ℕ
moved_luma f x y v = quarter_of (about f (x +ℤ whole 4 v.x) (y +ℤ whole 4 v.y)) (fraction 4 v.x) (fraction 4 v.y)

-- the luma sample that is predicted at column x and row y by a vector, from a reference whose luma plane has these
-- sizes and samples
unfoldable pub inter_luma : ℕ → ℕ → List ℕ → ℤ → ℤ → Vector → ℕ
inter_luma width height samples x y v = moved_luma (sample_at width height samples) x y v
