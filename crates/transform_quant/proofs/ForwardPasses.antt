-- Two passes of the forward transform of four columns.
use Rattle.std.proofs.Common.{◌≡◌, ℕ, ℤ, ◌+◌, ◌*◌, ◌<◌, List, length, sym, arith, subst, lit<}
use Rattle.enc_tables.specs.declared.transform.TheConstants.{FORWARD4}
use Rattle.spec_basics.specs.Bounds.{Within}
use Rattle.spec_residual.specs.Blocks.{AllWithin, item, rows_of}
use Rattle.spec_residual.specs.Forward.{forward4_of}
use Rattle.spec_residual.proofs.Listed.{is_listed}
use Rattle.transform_quant.specs.Lines.{row4_by, Turned4, forward4_line}
use Rattle.transform_quant.proofs.Sizes.{pass4_within, forward4_grows, forward4_first}
use Rattle.transform_quant.proofs.Two.{two_passes4, forward4_left, forward4_right}

pub forward4_is : (x t out : List ℤ) → Turned4 (row4_by forward4_line x) t → Turned4 (row4_by forward4_line t) out → length out ≡ 16 → out ≡ forward4_of x
unfolding forward4_of
forward4_is x t out first second long =
    is_listed 16 _ out long (two_passes4 (rows_of FORWARD4) forward4_line forward4_left forward4_right x t out first second)

pub forward4_rows_small : (x t : List ℤ) → AllWithin 16 255 x → Turned4 (row4_by forward4_line x) t → AllWithin 16 1530 t
forward4_rows_small x t small turned = pass4_within forward4_line 255 1530 (forward4_grows 255) x t small turned

pub forward4_small : (x t out : List ℤ) → AllWithin 16 255 x → Turned4 (row4_by forward4_line x) t → Turned4 (row4_by forward4_line t) out → AllWithin 16 9180 out
forward4_small x t out small first second =
    pass4_within forward4_line 1530 9180 (forward4_grows 1530) t out (forward4_rows_small x t small first) second

sums_small : (x t : List ℤ) → AllWithin 16 255 x → Turned4 (row4_by forward4_line x) t → (a : ℕ) → a < 4 → Within 1020 (item t (4 * 0 + a))
sums_small x t small turned a h =
    subst (λ (z : ℤ). Within 1020 z) (sym (turned a 0 h (lit< tt))) (forward4_first 255 _ _ _ _ (small (4 * a) (omega arith)) (small (4 * a + 1) (omega arith)) (small (4 * a + 2) (omega arith)) (small (4 * a + 3) (omega arith)))

pub forward4_first_small : (x t out : List ℤ) → AllWithin 16 255 x → Turned4 (row4_by forward4_line x) t → Turned4 (row4_by forward4_line t) out → Within 4080 (item out 0)
forward4_first_small x t out small first second =
    let sums = sums_small x t small first in
    subst (λ (z : ℤ). Within 4080 z) (sym (second 0 0 (lit< tt) (lit< tt))) (forward4_first 1020 _ _ _ _ (sums 0 (lit< tt)) (sums 1 (lit< tt)) (sums 2 (lit< tt)) (sums 3 (lit< tt)))
