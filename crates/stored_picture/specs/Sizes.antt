-- Sizes in macroblocks.
use Rattle.std.specs.Prelude.{ℕ, ◌*◌, ◌<◌, ◌≤◌, ◌≡◌}
use Rattle.picture_planes.specs.declared.picture.Picture.{Picture}

-- the picture's luma rows are this many macroblocks wide
pub record InMacroblocks (across : ℕ) (p : Picture) : Type 0 where
  pub some : 0 < across
  pub few : across ≤ 256
  pub wide : 16 * across ≡ p.y.width
