-- Chroma samples at eighth sample positions (ITU-T H.264, clause 8.4.2.2.2).
use Rattle.std.specs.Prelude.{ℕ, ℤ, pos, List, ◌+◌, ◌-◌, ◌*◌, ◌/◌, ◌+ℤ◌}
use Rattle.enc_tables.specs.declared.records.Vector.{Vector}
use Rattle.spec_film.specs.Places.{sample_at}
use Rattle.spec_inter.specs.Places.{whole, fraction}

-- the sample at u eighths of a sample to the right of A and v eighths down: B stands at the right of A, C below A, and D
-- below B
abbrev pub eighth_of : ℕ → ℕ → ℕ → ℕ → ℕ → ℕ → ℕ
eighth_of a b c d u v = ((8 - u) * (8 - v) * a + u * (8 - v) * b + (8 - u) * v * c + u * v * d + 32) / 64

-- the same about column x and row y, of samples f at any coordinates
abbrev pub eighth_at : (ℤ → ℤ → ℕ) → ℤ → ℤ → ℕ → ℕ → ℕ
eighth_at f x y u v = eighth_of (f x y) (f (x +ℤ pos 1) y) (f x (y +ℤ pos 1)) (f (x +ℤ pos 1) (y +ℤ pos 1)) u v

-- of samples f at any coordinates, the one to which a vector in eighth samples leads from column x and row y
abbrev pub moved_chroma : (ℤ → ℤ → ℕ) → ℤ → ℤ → Vector → ℕ
moved_chroma f x y v = eighth_at f (x +ℤ whole 8 v.x) (y +ℤ whole 8 v.y) (fraction 8 v.x) (fraction 8 v.y)

-- the chroma sample that is predicted at column x and row y by a vector, from a reference whose plane of that component
-- has these sizes and samples; a luma vector in quarter samples counts eighths of chroma samples
unfoldable pub inter_chroma : ℕ → ℕ → List ℕ → ℤ → ℤ → Vector → ℕ
inter_chroma width height samples x y v = moved_chroma (sample_at width height samples) x y v
