-- The motion of a macroblock, from what is written of it and the blocks around it (ITU-T H.264, clause 8.4.1).
use Rattle.std.specs.Prelude.{◌≡◌, ℕ, zero, suc, ◌+◌, ◌*◌, true, false, cond, nat_lt, List, [], ◌∷◌, ◌++◌, get_or, length, replicate, Option, Some, None, option_map, ℤ, negsuc, ◌+ℤ◌}
use Rattle.std.specs.Option.{option_or}
use Rattle.enc_tables.specs.declared.records.MbKind.{MbKind}
use Rattle.enc_tables.specs.declared.records.MbRecord.{MbRecord}
use Rattle.enc_tables.specs.declared.records.Motion.{Motion}
use Rattle.enc_tables.specs.declared.records.Vector.{Vector}
use Rattle.enc_tables.specs.Kinds.{is_skipped, is_direct, has_motion}
use Rattle.enc_tables.specs.Records.{zero_vector, no_motion, is_used}
use Rattle.spec_motion.specs.declared.Field.{Field}
use Rattle.spec_motion.specs.Prediction.{predicted}
use Rattle.spec_motion.specs.Skip.{skip_of}
use Rattle.spec_motion.specs.Direct.{direct_of}
use Rattle.spec_partitions.specs.Near.{View}
use Rattle.spec_partitions.specs.Partitions.{shape_of, part_count, part_of, by_part, Written, ref_in, vector_in, four_motions, four_vectors}

-- ---- neighbouring blocks (clauses 6.4.11.7 and 8.4.1.3.2)

-- the motion of 8x8 block k of an available macroblock
abbrev pub motion_in : Option MbRecord → ℕ → Option Motion
motion_in n k = option_map (λ mb. get_or mb.motion k no_motion) n

-- The block in a row and a column of 8x8 blocks: row 0 is above the macroblock, rows 1 and 2 are its own; column 0 is at its left,
-- columns 1 and 2 are its own, column 3 is at its right. Of its own blocks those that come earlier are given.
abbrev pub block_at : View → List (Option Motion) → ℕ → ℕ → Option Motion
block_at view own zero zero = motion_in view.above_left 3
block_at view own zero (suc zero) = motion_in view.near.above 2
block_at view own zero (suc (suc zero)) = motion_in view.near.above 3
block_at view own zero (suc (suc (suc n))) = motion_in view.above_right 2
block_at view own (suc row) zero = motion_in view.near.left (2 * row + 1)
block_at view own (suc row) (suc zero) = get_or own (2 * row) None
block_at view own (suc row) (suc (suc zero)) = get_or own (2 * row + 1) None
block_at view own (suc row) (suc (suc (suc n))) = None

-- A, B, and C or in its place D, of a partition whose upper left block is in this own row and column, so many blocks wide
abbrev pub field_at : View → List (Option Motion) → ℕ → ℕ → ℕ → Field
field_at view own row column wide = record {
  a = block_at view own (suc row) column;
  b = block_at view own row (suc column);
  c = option_or (block_at view own row (suc column + wide)) (block_at view own row column);
}

-- of the whole macroblock
abbrev pub whole_field : View → Field
whole_field view = field_at view [] 0 0 2

-- of a partition
abbrev pub part_field : View → List (Option Motion) → ℕ → ℕ → Field
part_field view own zero part = whole_field view
part_field view own (suc zero) part = field_at view own part 0 2
part_field view own (suc (suc zero)) part = field_at view own 0 part 1
part_field view own (suc (suc (suc n))) zero = field_at view own 0 0 1
part_field view own (suc (suc (suc n))) (suc zero) = field_at view own 0 1 1
part_field view own (suc (suc (suc n))) (suc (suc zero)) = field_at view own 1 0 1
part_field view own (suc (suc (suc n))) (suc (suc (suc part))) = field_at view own 1 1 1

-- ---- vectors, each predicted from the partitions before it

-- motion of one list alone
abbrev pub in_list : ℕ → ℤ → Vector → Motion
in_list zero r v = record { refs = r ∷ negsuc 0 ∷ []; vectors = v ∷ zero_vector ∷ [] }
in_list (suc n) r v = record { refs = negsuc 0 ∷ r ∷ []; vectors = zero_vector ∷ v ∷ [] }

-- 8x8 block k of the macroblock, where its partition is one of those that have a vector
abbrev pub own_block : ℕ → ℕ → List ℤ → List Vector → ℕ → Option Motion
own_block list shape refs before k =
    cond (nat_lt (part_of shape k) (length before)) (Some (in_list list (ref_in shape refs k) (vector_in shape before k))) None

abbrev pub own_blocks : ℕ → ℕ → List ℤ → List Vector → List (Option Motion)
own_blocks list shape refs before =
    own_block list shape refs before 0 ∷ own_block list shape refs before 1 ∷ own_block list shape refs before 2 ∷ own_block list shape refs before 3 ∷ []

abbrev pub plus : Vector → Vector → Vector
plus v w = record { x = v.x +ℤ w.x; y = v.y +ℤ w.y }

-- mvLX: the prediction and the written difference; zero where the list isn't used
unfoldable pub vector_after : View → ℕ → ℕ → List ℤ → List Vector → ℕ → List Vector → Vector
vector_after view list shape refs mvds part before =
    cond (is_used (get_or refs part (negsuc 0)))
    (plus (predicted shape part list (get_or refs part (negsuc 0)) (part_field view (own_blocks list shape refs before) shape part)) (get_or mvds part zero_vector))
    zero_vector

-- of the first partitions
unfoldable pub vectors : View → ℕ → ℕ → List ℤ → List Vector → ℕ → List Vector
vectors view list shape refs mvds zero = []
vectors view list shape refs mvds (suc n) =
    vectors view list shape refs mvds n ++ vector_after view list shape refs mvds n (vectors view list shape refs mvds n) ∷ []

-- ---- the motion of a macroblock

unfoldable pub motion_from : View → MbKind → Written → List Motion
motion_from view kind w =
    four_motions (shape_of kind) w.refs0 w.refs1
    (vectors view 0 (shape_of kind) w.refs0 w.mvds0 (part_count (shape_of kind))) (vectors view 1 (shape_of kind) w.refs1 w.mvds1 (part_count (shape_of kind)))

unfoldable pub skip_motion : View → List Motion
skip_motion view = replicate 4 (skip_of (whole_field view))

unfoldable pub direct_motion : View → List Motion
direct_motion view = direct_of (whole_field view) view.colocated

-- by its kind
abbrev pub motion_by : View → MbKind → Written → List Motion
motion_by view kind w =
    cond (has_motion kind) (motion_from view kind w) (cond (is_direct kind) (direct_motion view) (cond (is_skipped kind) (skip_motion view) (replicate 4 no_motion)))

-- ---- the same, as a coder has it: the motion of both lists, of the blocks of earlier partitions

abbrev pub known_block : ℕ → List Motion → ℕ → ℕ → Option Motion
known_block shape motion part k = cond (nat_lt (part_of shape k) part) (Some (get_or motion k no_motion)) None

abbrev pub known_blocks : ℕ → List Motion → ℕ → List (Option Motion)
known_blocks shape motion part =
    known_block shape motion part 0 ∷ known_block shape motion part 1 ∷ known_block shape motion part 2 ∷ known_block shape motion part 3 ∷ []

-- the motion of partitions that have these references and vectors in list 0 and list 1, and their differences
abbrev pub given : ℕ → (ℕ → ℤ) → (ℕ → ℤ) → (ℕ → Vector) → (ℕ → Vector) → List Motion
given shape r0 r1 v0 v1 = four_motions shape (by_part r0 (part_count shape)) (by_part r1 (part_count shape)) (by_part v0 (part_count shape)) (by_part v1 (part_count shape))

abbrev pub given_mvd : ℕ → (ℕ → Vector) → (ℕ → Vector) → List Vector
given_mvd shape d0 d1 = four_vectors shape (by_part d0 (part_count shape)) ++ four_vectors shape (by_part d1 (part_count shape))

-- a partition's vector is its prediction and its difference, zero where the list isn't used
pub record IsVector (view : View) (shape : ℕ) (motion : List Motion) (list : ℕ) (part : ℕ) (r : ℤ) (v : Vector) (d : Vector) : Type 0 where
  pub used : is_used r ≡ true → v ≡ plus (predicted shape part list r (part_field view (known_blocks shape motion part) shape part)) d
  pub unused : is_used r ≡ false → v ≡ zero_vector
