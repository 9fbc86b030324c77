-- Worked rows: values that were computed apart.
use Rattle.std.specs.Prelude.{ℕ, ℤ, pos, negsuc, List, [], ◌∷◌, map, ◌≡◌, ◌%◌, ◌/◌}
use Rattle.std.proofs.Common.{refl}
use Rattle.enc_tables.specs.declared.records.Vector.{Vector}
use Rattle.spec_film.specs.Places.{sample_at}
use Rattle.spec_inter.specs.Taps.{tap, half}
use Rattle.spec_inter.specs.Luma.{firsts, seconds, inter_luma}
use Rattle.spec_inter.specs.Chroma.{inter_chroma}

-- the half sample between two samples 10 among samples 0
half_row : tap (pos 0) (pos 0) (pos 10) (pos 10) (pos 0) (pos 0) ≡ pos 400
half_row = refl

half_value : half (pos 400) ≡ 13
half_value = refl

-- a plane of 4 columns and 4 rows
abbrev plane : List ℕ
plane = 5 ∷ 53 ∷ 175 ∷ 115 ∷ 129 ∷ 217 ∷ 123 ∷ 103 ∷ 157 ∷ 29 ∷ 231 ∷ 251 ∷ 89 ∷ 1 ∷ 243 ∷ 47 ∷ []

abbrev places : List ℕ
places = 0 ∷ 1 ∷ 2 ∷ 3 ∷ 4 ∷ 5 ∷ 6 ∷ 7 ∷ 8 ∷ 9 ∷ 10 ∷ 11 ∷ 12 ∷ 13 ∷ 14 ∷ 15 ∷ []

abbrev vector : ℤ → ℤ → Vector
vector x y = record { x = x; y = y }

-- all sixteen fractions about the sample at column 1 and row 1
quarters : map (λ k. inter_luma 4 4 plane (pos 1) (pos 1) (vector (pos (k % 4)) (pos (k / 4)))) places
    ≡ (217 ∷ 201 ∷ 184 ∷ 154 ∷ 182 ∷ 166 ∷ 168 ∷ 177 ∷ 147 ∷ 150 ∷ 152 ∷ 161 ∷ 88 ∷ 130 ∷ 132 ∷ 141 ∷ [])
unfolding inter_luma sample_at firsts seconds
quarters = refl

-- and a sample beyond the corner
corner : map (λ k. inter_luma 4 4 plane (negsuc 0) (negsuc 0) (vector (pos (k % 4)) (pos (k / 4)))) places
    ≡ (5 ∷ 4 ∷ 3 ∷ 4 ∷ 3 ∷ 2 ∷ 2 ∷ 2 ∷ 0 ∷ 0 ∷ 0 ∷ 0 ∷ 3 ∷ 2 ∷ 2 ∷ 2 ∷ [])
unfolding inter_luma sample_at firsts seconds
corner = refl

-- vectors to the left and far outside
far : inter_luma 4 4 plane (pos 2) (pos 1) (vector (negsuc 4) (negsuc 130)) ≡ 33
unfolding inter_luma sample_at firsts seconds
far = refl

right : inter_luma 4 4 plane (pos 3) (pos 3) (vector (pos 131) (pos 7)) ≡ 50
unfolding inter_luma sample_at firsts seconds
right = refl

left : inter_luma 4 4 plane (pos 3) (pos 3) (vector (negsuc 1) (negsuc 2)) ≡ 251
unfolding inter_luma sample_at firsts seconds
left = refl

-- chroma, at column 1 and row 2
chroma : map (λ (v : Vector). inter_chroma 4 4 plane (pos 1) (pos 2) v) (vector (pos 0) (pos 0) ∷ vector (pos 3) (pos 0) ∷ vector (pos 0) (pos 5) ∷ vector (pos 7) (pos 1) ∷ vector (negsuc 0) (negsuc 8) ∷ vector (pos 131) (negsuc 130) ∷ [])
    ≡ (29 ∷ 105 ∷ 12 ∷ 207 ∷ 186 ∷ 115 ∷ [])
unfolding inter_chroma sample_at
chroma = refl
