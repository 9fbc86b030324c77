-- The modes of square luma blocks that predict along a direction (ITU-T H.264, clauses 8.3.1.2.1 to 8.3.1.2.9 for 4x4 and
-- 8.3.2.2.2 to 8.3.2.2.10 for 8x8).
--
-- The neighbours of a block of n by n stand in one line e: those at the left from the lowest upwards, then the corner, which
-- is e n, and then those above from the left on, up to e (3 * n). So e (n + 1 + x) is the standard's p[x, -1], and
-- e (n - 1 - y) its p[-1, y].
use Rattle.std.specs.Prelude.{ℕ, Bool, List, ◌+◌, ◌-◌, ◌*◌, ◌/◌, ◌%◌, ◌==◌, nat_lt, cond, min, slice_index}

-- weights 1, 2, 1 about place k, and the mean of the places k - 1 and k, both rounded
abbrev pub tap3 : (ℕ → ℕ) → ℕ → ℕ
tap3 e k = (e (k - 1) + 2 * e k + e (k + 1) + 2) / 4

abbrev pub tap2 : (ℕ → ℕ) → ℕ → ℕ
tap2 e k = (e (k - 1) + e k + 1) / 2

-- Vertical (clauses 8.3.1.2.1 and 8.3.2.2.2)
unfoldable pub vertical : ℕ → (ℕ → ℕ) → ℕ → ℕ → ℕ
vertical n e x y = e (n + 1 + x)

-- Horizontal (clauses 8.3.1.2.2 and 8.3.2.2.3)
unfoldable pub horizontal : ℕ → (ℕ → ℕ) → ℕ → ℕ → ℕ
horizontal n e x y = e (n - 1 - y)

-- Diagonal_Down_Left (clauses 8.3.1.2.4 and 8.3.2.2.5): the last of the neighbours above stands for the one after it
unfoldable pub down_left : ℕ → (ℕ → ℕ) → ℕ → ℕ → ℕ
down_left n e x y = (e (n + 1 + x + y) + 2 * e (n + 2 + x + y) + e (min (n + 3 + x + y) (3 * n)) + 2) / 4

-- Diagonal_Down_Right (clauses 8.3.1.2.5 and 8.3.2.2.6)
unfoldable pub down_right : ℕ → (ℕ → ℕ) → ℕ → ℕ → ℕ
down_right n e x y = tap3 e (n + x - y)

-- Vertical_Right (clauses 8.3.1.2.6 and 8.3.2.2.7): by zVR = 2 * x - y
unfoldable pub vertical_right : ℕ → (ℕ → ℕ) → ℕ → ℕ → ℕ
vertical_right n e x y =
    cond (nat_lt (2 * x + 1) y) (tap3 e (n + 2 * x + 1 - y))
    (cond (y % 2 == 0) (tap2 e (n + x - y / 2 + 1)) (tap3 e (n + x - y / 2)))

-- Horizontal_Down (clauses 8.3.1.2.7 and 8.3.2.2.8): by zHD = 2 * y - x
unfoldable pub horizontal_down : ℕ → (ℕ → ℕ) → ℕ → ℕ → ℕ
horizontal_down n e x y =
    cond (nat_lt (2 * y + 1) x) (tap3 e (n + x - 2 * y - 1))
    (cond (x % 2 == 0) (tap2 e (n + x / 2 - y)) (tap3 e (n + x / 2 - y)))

-- Vertical_Left (clauses 8.3.1.2.8 and 8.3.2.2.9)
unfoldable pub vertical_left : ℕ → (ℕ → ℕ) → ℕ → ℕ → ℕ
vertical_left n e x y =
    let k = n + 1 + x + y / 2 in cond (y % 2 == 0) (tap2 e (k + 1)) (tap3 e (k + 1))

-- Horizontal_Up (clauses 8.3.1.2.9 and 8.3.2.2.10): the lowest of the neighbours at the left stands for those below it
unfoldable pub horizontal_up : ℕ → (ℕ → ℕ) → ℕ → ℕ → ℕ
horizontal_up n e x y =
    let at = λ (k : ℕ). e (n - 1 - min k (n - 1)) in
    let k = y + x / 2 in
    cond (x % 2 == 0) ((at k + at (k + 1) + 1) / 2) ((at k + 2 * at (k + 1) + at (k + 2) + 2) / 4)

-- place j of that line; where nothing is available above at the right, the last sample above stands there
abbrev pub edge_at : ℕ → List ℕ → ℕ → List ℕ → Bool → ℕ → ℕ
edge_at n left corner above above_right j =
    cond (nat_lt j n) (slice_index left (n - 1 - j))
    (cond (j == n) corner (slice_index above (cond above_right (j - n - 1) (min (j - n - 1) (n - 1)))))
