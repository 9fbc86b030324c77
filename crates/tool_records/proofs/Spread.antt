-- The written differences of 8x8 blocks are those of their partitions.
use Rattle.std.proofs.Common.{◌≡◌, ℕ, ◌+◌, ◌*◌, ◌<◌, ◌≤◌, Bool, true, false, cond, List, refl, sym, ap, ◌∙◌, arith, get_or, length, replicate}
use Rattle.std.proofs.lemmas.Int.{ints}
use Rattle.std.proofs.lemmas.List.{ext_get_or, get_or-replicate}
use Rattle.enc_tables.specs.declared.records.MbRecord.{MbRecord}
use Rattle.enc_tables.specs.declared.records.Vector.{Vector}
use Rattle.enc_tables.specs.Records.{zero_vector, is_used}
use Rattle.enc_tables.specs.Kinds.{has_motion}
use Rattle.spec_contexts.specs.Increments.{ref_of}
use Rattle.spec_syntax.specs.Inter.{IsDifference}
use Rattle.spec_syntax.proofs.Elements.{below_8}
use Rattle.spec_partitions.specs.Partitions.{shape_of, part_count, first_block, part_of, part_mvd, difference_of, by_part, vector_in, written_of, mvd_from}
use Rattle.spec_partitions.specs.Records.{MvdFits}
use Rattle.spec_partitions.proofs.ByPart.{by_at, shape_small}
use Rattle.spec_partitions.proofs.Coded.{part_inside}
use Rattle.spec_macroblock.specs.Records.{QpFits}

-- in one list
abbrev pub Spread : MbRecord → ℕ → Type 0
Spread mb list = (k : ℕ) → k < 4 → difference_of mb list k ≡ part_mvd mb list (part_of (shape_of mb.kind) k)

at : (mb : MbRecord) (list k : ℕ) → Spread mb list → k < 4 → difference_of mb list k ≡ vector_in (shape_of mb.kind) (by_part (part_mvd mb list) (part_count (shape_of mb.kind))) k
at mb list k h lt =
    h k lt ∙ sym (by_at (part_mvd mb list) (part_count (shape_of mb.kind)) (part_of (shape_of mb.kind) k) zero_vector (part_inside (shape_of mb.kind) k (shape_small mb.kind) lt))

pub spread : (mb : MbRecord) → length mb.mvd ≡ 8 → has_motion mb.kind ≡ true → Spread mb 0 → Spread mb 1 → mb.mvd ≡ cond (has_motion mb.kind) (mvd_from mb.kind (written_of mb)) (replicate 8 zero_vector)
spread mb l m g h =
    ext_get_or zero_vector mb.mvd (mvd_from mb.kind (written_of mb)) l (λ i lt.
    below_8 (λ i. get_or mb.mvd i zero_vector ≡ get_or (mvd_from mb.kind (written_of mb)) i zero_vector)
    (at mb 0 0 g (omega arith)) (at mb 0 1 g (omega arith)) (at mb 0 2 g (omega arith)) (at mb 0 3 g (omega arith))
    (at mb 1 0 h (omega arith)) (at mb 1 1 h (omega arith)) (at mb 1 2 h (omega arith)) (at mb 1 3 h (omega arith)) i (omega arith))
    ∙ sym (ap (λ b. cond b (mvd_from mb.kind (written_of mb)) (replicate 8 zero_vector)) m)

-- no difference
pub still : (vs : List Vector) → length vs ≡ 8 → ((i : ℕ) → i < 8 → get_or vs i zero_vector ≡ zero_vector) → vs ≡ replicate 8 zero_vector
still vs l h = ext_get_or zero_vector vs (replicate 8 zero_vector) l (λ i lt.
    let small : i < 8 = omega arith in h i small ∙ sym (get_or-replicate 8 i zero_vector zero_vector small))

-- what a partition has
pub fits : (mb : MbRecord) (list part block : ℕ) → block ≡ first_block (shape_of mb.kind) part
    → IsDifference (get_or mb.mvd (4 * list + block) zero_vector).x → IsDifference (get_or mb.mvd (4 * list + block) zero_vector).y
    → (is_used (ref_of mb list block) ≡ false → get_or mb.mvd (4 * list + block) zero_vector ≡ zero_vector) → MvdFits mb list part
fits mb list part block e x y z =
    record { across = rw e at x; down = rw e at y; blank = rw e at z }

pub fits_used : (mb : MbRecord) (list part block : ℕ) → block ≡ first_block (shape_of mb.kind) part
    → IsDifference (get_or mb.mvd (4 * list + block) zero_vector).x → IsDifference (get_or mb.mvd (4 * list + block) zero_vector).y
    → is_used (ref_of mb list block) ≡ true → MvdFits mb list part
fits_used mb list part block e x y u = fits mb list part block e x y (λ f. absurd cc)

-- the QP stays
pub qp_stays : (b : Bool) (qp : ℕ) → qp ≤ 51 → QpFits b qp qp
qp_stays true qp h = (h, omega (arith, ints))
qp_stays false qp h = refl
