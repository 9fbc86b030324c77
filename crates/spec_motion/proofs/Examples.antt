-- Worked rows.
use Rattle.std.proofs.Common.{◌≡◌, ℤ, pos, negsuc, [], ◌∷◌, refl}
use Rattle.std.specs.Prelude.{Option, None, Some}
use Rattle.enc_tables.specs.declared.records.Motion.{Motion}
use Rattle.enc_tables.specs.declared.records.Vector.{Vector}
use Rattle.enc_tables.specs.Records.{zero_vector, no_motion}
use Rattle.spec_motion.specs.declared.Field.{Field}
use Rattle.spec_motion.specs.Prediction.{predicted}
use Rattle.spec_motion.specs.Skip.{skip_of}
use Rattle.spec_motion.specs.Direct.{direct_of, min_positive}

abbrev at : ℤ → ℤ → Vector
at a b = record { x = a; y = b }

-- in list 0 alone
abbrev first : ℤ → Vector → Option Motion
first r v = Some (record { refs = r ∷ negsuc 0 ∷ []; vectors = v ∷ zero_vector ∷ [] })

abbrev three : Field
three = record { a = first (pos 0) (at (pos 4) (pos 0)); b = first (pos 0) (at (pos 0) (pos 8)); c = first (pos 0) (at (negsuc 3) (pos 4)) }

-- the median of three neighbours of one reference
by_median : predicted 0 0 0 (pos 0) three ≡ at (pos 0) (pos 4)
by_median = refl

-- the parts of 16x8 and 8x16 take a neighbour's vector
upper : predicted 1 0 0 (pos 0) three ≡ at (pos 0) (pos 8)
upper = refl

lower : predicted 1 1 0 (pos 0) three ≡ at (pos 4) (pos 0)
lower = refl

right : predicted 2 1 0 (pos 0) three ≡ at (negsuc 3) (pos 4)
right = refl

-- one neighbour with the reference
one : predicted 0 0 0 (pos 1) (record three { b = first (pos 1) (at (pos 7) (pos 9)) }) ≡ at (pos 7) (pos 9)
one = refl

-- A alone is available, whatever its reference
alone : predicted 0 0 0 (pos 1) (record three { b = None; c = None }) ≡ at (pos 4) (pos 0)
alone = refl

-- an intra neighbour counts the zero vector
beside_intra : predicted 0 0 0 (pos 0) (record three { a = Some no_motion }) ≡ at (pos 0) (pos 4)
beside_intra = refl

skipped : skip_of three ≡ record { refs = pos 0 ∷ negsuc 0 ∷ []; vectors = at (pos 0) (pos 4) ∷ zero_vector ∷ [] }
skipped = refl

skipped_at_the_edge : skip_of (record three { a = None }) ≡ record { refs = pos 0 ∷ negsuc 0 ∷ []; vectors = zero_vector ∷ zero_vector ∷ [] }
skipped_at_the_edge = refl

skipped_beside_still : skip_of (record three { b = first (pos 0) zero_vector }) ≡ record { refs = pos 0 ∷ negsuc 0 ∷ []; vectors = zero_vector ∷ zero_vector ∷ [] }
skipped_beside_still = refl

neither_used : min_positive (negsuc 0) (negsuc 0) ≡ negsuc 0
neither_used = refl

-- co-located blocks that hardly move, that move, and that have another reference; the last isn't available
direct : direct_of three (first (pos 0) (at (pos 1) (negsuc 0)) ∷ first (pos 0) (at (pos 2) (pos 0)) ∷ first (pos 1) zero_vector ∷ None ∷ []) ≡
    record { refs = pos 0 ∷ negsuc 0 ∷ []; vectors = zero_vector ∷ zero_vector ∷ [] } ∷
    record { refs = pos 0 ∷ negsuc 0 ∷ []; vectors = at (pos 0) (pos 4) ∷ zero_vector ∷ [] } ∷
    record { refs = pos 0 ∷ negsuc 0 ∷ []; vectors = at (pos 0) (pos 4) ∷ zero_vector ∷ [] } ∷
    record { refs = pos 0 ∷ negsuc 0 ∷ []; vectors = at (pos 0) (pos 4) ∷ zero_vector ∷ [] } ∷ []
direct = refl

direct_of_nothing : direct_of (record { a = None; b = Some no_motion; c = None }) (None ∷ None ∷ None ∷ None ∷ []) ≡
    record { refs = pos 0 ∷ pos 0 ∷ []; vectors = zero_vector ∷ zero_vector ∷ [] } ∷
    record { refs = pos 0 ∷ pos 0 ∷ []; vectors = zero_vector ∷ zero_vector ∷ [] } ∷
    record { refs = pos 0 ∷ pos 0 ∷ []; vectors = zero_vector ∷ zero_vector ∷ [] } ∷
    record { refs = pos 0 ∷ pos 0 ∷ []; vectors = zero_vector ∷ zero_vector ∷ [] } ∷ []
direct_of_nothing = refl
