-- Rows of bS worked by hand: motion that is alike and motion that is not, and coded transform blocks (ITU-T H.264, clause 8.7.2.1).
use Rattle.std.proofs.Common.{◌≡◌, ℤ, pos, negsuc, [], ◌∷◌, refl, true, false, replicate, set}
use Rattle.enc_tables.specs.declared.records.MbKind.TheVariants as kinds
use Rattle.enc_tables.specs.declared.records.MbRecord.{MbRecord}
use Rattle.enc_tables.specs.declared.records.Motion.{Motion}
use Rattle.enc_tables.specs.declared.records.Vector.{Vector}
use Rattle.enc_tables.specs.Records.{zero_vector, blank_record}
use Rattle.spec_filter.specs.Strengths.{is_alike, strength, is_coded}

abbrev at : ℤ → ℤ → Vector
at a b = record { x = a; y = b }

abbrev in_first : ℤ → Vector → Motion
in_first r v = record { refs = r ∷ negsuc 0 ∷ []; vectors = v ∷ zero_vector ∷ [] }

abbrev in_second : ℤ → Vector → Motion
in_second r v = record { refs = negsuc 0 ∷ r ∷ []; vectors = zero_vector ∷ v ∷ [] }

abbrev in_both : ℤ → Vector → ℤ → Vector → Motion
in_both r v s w = record { refs = r ∷ s ∷ []; vectors = v ∷ w ∷ [] }

-- differences of 3 and 4 quarter samples
near : is_alike (pos 0 ∷ []) [] (in_first (pos 0) (at (pos 1) (pos 5))) (in_first (pos 0) (at (negsuc 1) (pos 8))) ≡ true
unfolding is_alike
near = refl

far : is_alike (pos 0 ∷ []) [] (in_first (pos 0) (at (pos 1) (pos 5))) (in_first (pos 0) (at (pos 1) (pos 9))) ≡ false
unfolding is_alike
far = refl

-- one picture by two lists, and two pictures by one index
one_picture : is_alike (pos 2 ∷ []) (pos 2 ∷ []) (in_first (pos 0) zero_vector) (in_second (pos 0) zero_vector) ≡ true
unfolding is_alike
one_picture = refl

two_pictures : is_alike (pos 2 ∷ []) (pos 6 ∷ []) (in_first (pos 0) zero_vector) (in_second (pos 0) zero_vector) ≡ false
unfolding is_alike
two_pictures = refl

-- one vector and two
one_and_two : is_alike (pos 2 ∷ []) (pos 6 ∷ []) (in_first (pos 0) zero_vector) (in_both (pos 0) zero_vector (pos 0) zero_vector) ≡ false
unfolding is_alike
one_and_two = refl

-- the same two pictures, the lists the other way round
turned : is_alike (pos 2 ∷ pos 6 ∷ []) (pos 6 ∷ pos 2 ∷ []) (in_both (pos 0) (at (pos 8) (pos 0)) (pos 0) zero_vector) (in_both (pos 1) zero_vector (pos 1) (at (pos 8) (pos 0))) ≡ true
unfolding is_alike
turned = refl

-- two vectors to one picture: alike in one of the two orders, and in neither
one_order : is_alike (pos 2 ∷ []) (pos 2 ∷ []) (in_both (pos 0) (at (pos 8) (pos 0)) (pos 0) zero_vector) (in_both (pos 0) zero_vector (pos 0) (at (pos 8) (pos 0))) ≡ true
unfolding is_alike
one_order = refl

no_order : is_alike (pos 2 ∷ []) (pos 2 ∷ []) (in_both (pos 0) (at (pos 8) (pos 0)) (pos 0) zero_vector) (in_both (pos 0) (at (pos 4) (pos 0)) (pos 0) (at (pos 4) (pos 0))) ≡ false
unfolding is_alike
no_order = refl

-- a level in the second 8x8 transform block: its four 4x4 blocks count as coded, and no other
coded8 : MbRecord
coded8 = record (blank_record kinds.P16 26) { transform8 = true; luma = set (replicate 256 (pos 0)) 100 (pos 1) }

in_its_corner : strength [] [] false coded8 0 1 coded8 0 2 ≡ 2
unfolding strength is_coded coded8 blank_record
in_its_corner = refl

elsewhere : strength [] [] false coded8 3 0 coded8 3 1 ≡ 0
unfolding strength is_coded coded8 blank_record is_alike
elsewhere = refl

beside_intra : strength [] [] true (blank_record kinds.Intra4 26) 0 3 coded8 0 0 ≡ 4
unfolding strength coded8 blank_record
beside_intra = refl
