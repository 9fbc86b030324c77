-- What is predicted from a plane.
use Rattle.std.specs.Prelude.{ℕ, pos, negsuc, ◌+◌, ◌≤ℤ◌}
use Rattle.enc_tables.specs.declared.records.Vector.{Vector}
use Rattle.picture_planes.specs.declared.plane.Plane.{Plane}
use Rattle.picture_planes.specs.Samples.{samples_of}
use Rattle.spec_inter.specs.Luma.{inter_luma}
use Rattle.spec_inter.specs.Chroma.{inter_chroma}

-- the sample that is predicted by a vector at column i and row j of a block at column x and row y
abbrev pub luma_at : Plane → ℕ → ℕ → Vector → ℕ → ℕ → ℕ
luma_at p x y v i j = inter_luma p.width p.height (samples_of p) (pos (x + i)) (pos (y + j)) v

abbrev pub chroma_at : Plane → ℕ → ℕ → Vector → ℕ → ℕ → ℕ
chroma_at p x y v i j = inter_chroma p.width p.height (samples_of p) (pos (x + i)) (pos (y + j)) v

-- both parts of a vector are at most 131 in size
pub record IsShort (v : Vector) : Type 0 where
  pub left : negsuc 130 ≤ℤ v.x
  pub right : v.x ≤ℤ pos 131
  pub up : negsuc 130 ≤ℤ v.y
  pub down : v.y ≤ℤ pos 131
