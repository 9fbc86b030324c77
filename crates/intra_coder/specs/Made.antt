-- Levels that the quantiser made of Intra_16x16 macroblocks.
use Rattle.std.specs.Prelude.{ℕ, ℤ, true, List, ◌<◌}
use Rattle.spec_residual.specs.declared.BlockKind.TheVariants.{Luma4}
use Rattle.spec_reconstruction.specs.declared.Site.{Site}
use Rattle.spec_reconstruction.specs.InOrder.{joined, levels_of_block}
use Rattle.spec_reconstruction.specs.Luma.{spectrum16}
use Rattle.spec_reconstruction.specs.Residuals.{levels_without_dc}
use Rattle.residual_coder.specs.Made.{IsQuantised}

-- the levels of each of the first n blocks
abbrev pub BlocksQuantised : ℕ → ℕ → List ℤ → Type 0
BlocksQuantised qp n levels = (b : ℕ) → b < n → IsQuantised Luma4 qp (levels_of_block 16 b levels)

-- the levels of the sixteen blocks of an Intra_16x16 macroblock but their DC coefficients, one after another
unfoldable pub others16 : ℕ → Site → List ℕ → List ℕ → List ℤ
others16 wide site source prediction = joined (λ b. levels_without_dc Luma4 true site.qp (spectrum16 wide site source prediction b)) 16
