-- Vectors that aren't written are no longer than those of the macroblocks around.
use Rattle.std.proofs.Common.{◌≡◌, ℕ, ◌<◌, Bool, true, false, cond, List, [], ◌∷◌, Option, Some, None, refl, sym, subst, arith, get_or, replicate}
use Rattle.std.specs.Prelude.{ℤ, pos, slice_index_or, int_lt}
use Rattle.std.specs.Option.{option_or}
use Rattle.enc_tables.specs.declared.records.MbRecord.{MbRecord}
use Rattle.enc_tables.specs.declared.records.Motion.{Motion}
use Rattle.enc_tables.specs.Kinds.{is_skipped, is_direct, has_motion}
use Rattle.enc_tables.specs.Records.{no_motion, zero_vector}
use Rattle.spec_motion.specs.declared.Field.{Field}
use Rattle.spec_motion.specs.Skip.{skip_of}
use Rattle.spec_motion.specs.Direct.{direct_reference, uses_neither, motion_with, col_zero, direct_block, direct_of}
use Rattle.spec_syntax.proofs.Elements.{below_4}
use Rattle.spec_partitions.specs.Near.{View}
use Rattle.spec_partitions.specs.Partitions.{written_of}
use Rattle.spec_partitions.specs.Derived.{motion_in, whole_field, motion_from, skip_motion, direct_motion}
use Rattle.spec_partitions.specs.Records.{HasMotion}
use Rattle.spec_partitions.specs.Small.{FieldSmall, BlockSmall, AllSmall, NearSmall, ViewSmall}
use Rattle.spec_partitions.proofs.Small.{zero_small, pick, skip_small, direct_small}

pub says : (most : ℕ) (n : Option MbRecord) (k : ℕ) → k < 4 → NearSmall most n → BlockSmall most (motion_in n k)
unfolding NearSmall
says most None k lt h = record { first = zero_small most; second = zero_small most }
says most (Some n) k lt h = h.at k lt

pub either_says : (most : ℕ) (x y : Option Motion) → BlockSmall most x → BlockSmall most y → BlockSmall most (option_or x y)
either_says most None y h k = k
either_says most (Some m) y h k = h

record FieldSays (most : ℕ) (f : Field) : Type 0 where
  first : FieldSmall most 0 f
  second : FieldSmall most 1 f

field_says : (most : ℕ) (view : View) → ViewSmall most view → FieldSays most (whole_field view)
field_says most view v =
    let l = says most view.near.left 1 (omega arith) v.left in
    let u = says most view.near.above 2 (omega arith) v.above in
    let c = either_says most _ _ (says most view.above_right 2 (omega arith) v.above_right) (says most view.above_left 3 (omega arith) v.above_left) in
    record { first = record { a = l.first; b = u.first; c = c.first }; second = record { a = l.second; b = u.second; c = c.second } }

block_small : (most : ℕ) (r s : ℤ) (f : Field) (col : Option Motion) → FieldSays most f → BlockSmall most (Some (direct_block r s f col))
block_small most r s f col h = go (uses_neither r s)
  where
    go : (t : Bool) → BlockSmall most (Some (cond t (record { refs = pos 0 ∷ pos 0 ∷ []; vectors = zero_vector ∷ zero_vector ∷ [] }) (motion_with r s (col_zero col) f)))
    go true = record { first = zero_small most; second = zero_small most }
    go false = record {
      first = pick (int_lt r (pos 0)) (zero_small most) (direct_small 0 r (col_zero col) most f h.first);
      second = pick (int_lt s (pos 0)) (zero_small most) (direct_small 1 s (col_zero col) most f h.second);
    }

direct_in : (most : ℕ) (view : View) → ViewSmall most view → AllSmall most (direct_motion view)
unfolding direct_motion
direct_in most view v =
    let f = whole_field view in
    let at = λ (n : ℕ). block_small most (direct_reference 0 f) (direct_reference 1 f) f (slice_index_or view.colocated n None) (field_says most view v) in
    record { at = below_4 (λ k. BlockSmall most (Some (get_or (direct_of f view.colocated) k no_motion))) (at 0) (at 1) (at 2) (at 3) }

skip_in : (most : ℕ) (view : View) → ViewSmall most view → AllSmall most (skip_motion view)
unfolding skip_motion
skip_in most view v =
    let one : BlockSmall most (Some (skip_of (whole_field view))) = record { first = skip_small most (whole_field view) (field_says most view v).first; second = zero_small most } in
    record { at = below_4 (λ k. BlockSmall most (Some (get_or (replicate 4 (skip_of (whole_field view))) k no_motion))) one one one one }

pub blank_in : (most : ℕ) → AllSmall most (replicate 4 no_motion)
blank_in most =
    let one : BlockSmall most (Some no_motion) = record { first = zero_small most; second = zero_small most } in
    record { at = below_4 (λ k. BlockSmall most (Some (get_or (replicate 4 no_motion) k no_motion))) one one one one }

pub vectors_small : (most : ℕ) (view : View) (mb : MbRecord) → HasMotion view mb → ViewSmall most view → (has_motion mb.kind ≡ true → AllSmall most mb.motion) → AllSmall most mb.motion
vectors_small most view mb m v own = go (has_motion mb.kind) refl (is_direct mb.kind) (is_skipped mb.kind) m.same
  where
    go : (a : Bool) → has_motion mb.kind ≡ a → (b c : Bool) → mb.motion ≡ cond a (motion_from view mb.kind (written_of mb)) (cond b (direct_motion view) (cond c (skip_motion view) (replicate 4 no_motion))) → AllSmall most mb.motion
    go true p b c e = own p
    go false p true c e = subst (λ (ms : List Motion). AllSmall most ms) (sym e) (direct_in most view v)
    go false p false true e = subst (λ (ms : List Motion). AllSmall most ms) (sym e) (skip_in most view v)
    go false p false false e = subst (λ (ms : List Motion). AllSmall most ms) (sym e) (blank_in most)
