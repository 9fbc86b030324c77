-- The inter macroblock that a plan asks for: its motion, and what is written of it, before it has levels.
use Rattle.std.specs.Prelude.{ℕ, zero, suc, ◌+◌, cond, List, get_or, ℤ, negsuc, ◌-ℤ◌}
use Rattle.enc_tables.specs.declared.records.MbKind.{MbKind}
use Rattle.enc_tables.specs.declared.records.MbPlan.{MbPlan}
use Rattle.enc_tables.specs.declared.records.MbRecord.{MbRecord}
use Rattle.enc_tables.specs.declared.records.Motion.{Motion}
use Rattle.enc_tables.specs.declared.records.Vector.{Vector}
use Rattle.enc_tables.specs.Plans.{blank_part}
use Rattle.enc_tables.specs.Records.{zero_vector, blank_record, is_used}
use Rattle.spec_motion.specs.Prediction.{predicted}
use Rattle.spec_partitions.specs.Near.{View}
use Rattle.spec_partitions.specs.Partitions.{shape_of}
use Rattle.spec_partitions.specs.Derived.{part_field, known_blocks, given, given_mvd}

-- where a partition of a shape stands among the nine of a plan
abbrev pub plan_place : ℕ → ℕ → ℕ
plan_place zero part = part
plan_place (suc zero) part = 1 + part
plan_place (suc (suc zero)) part = 3 + part
plan_place (suc (suc (suc n))) part = 5 + part

abbrev pub planned_part : MbPlan → ℕ → ℕ → Motion
planned_part plan shape part = (get_or plan.parts (plan_place shape part) blank_part).motion

-- a partition's reference index in a list, and its vector
abbrev pub planned_ref : MbPlan → ℕ → ℕ → ℕ → ℤ
planned_ref plan shape list part = get_or (planned_part plan shape part).refs list (negsuc 0)

abbrev pub planned_vector : MbPlan → ℕ → ℕ → ℕ → Vector
planned_vector plan shape list part = get_or (planned_part plan shape part).vectors list zero_vector

-- the motion of the four 8x8 blocks
abbrev pub planned_motion : MbPlan → ℕ → List Motion
planned_motion plan shape =
    given shape (planned_ref plan shape 0) (planned_ref plan shape 1) (planned_vector plan shape 0) (planned_vector plan shape 1)

-- ---- what is written of vectors

abbrev pub minus : Vector → Vector → Vector
minus v w = record { x = v.x -ℤ w.x; y = v.y -ℤ w.y }

-- mvdLX: what a partition's vector differs from its prediction, in a macroblock with this motion; zero where the list isn't used (clauses
-- 7.4.5.1 and 8.4.1)
unfoldable pub coded_difference : View → ℕ → List Motion → ℕ → (ℕ → ℤ) → (ℕ → Vector) → ℕ → Vector
coded_difference view shape motion list r v part =
    cond (is_used (r part)) (minus (v part) (predicted shape part list (r part) (part_field view (known_blocks shape motion part) shape part))) zero_vector

abbrev pub planned_difference : View → MbPlan → ℕ → ℕ → ℕ → Vector
planned_difference view plan shape list part =
    coded_difference view shape (planned_motion plan shape) list (planned_ref plan shape list) (planned_vector plan shape list) part

-- ---- macroblocks before they have levels

-- one that is skipped or direct: of its kind, its QP and its motion
abbrev pub moving : MbKind → ℕ → List Motion → MbRecord
moving kind qp motion = record (blank_record kind qp) { motion = motion }

-- one with partitions, as planned
unfoldable pub planned : View → MbPlan → MbKind → ℕ → MbRecord
planned view plan kind qp = record (moving kind qp (planned_motion plan (shape_of kind))) {
  mvd = given_mvd (shape_of kind) (planned_difference view plan (shape_of kind) 0) (planned_difference view plan (shape_of kind) 1);
}
