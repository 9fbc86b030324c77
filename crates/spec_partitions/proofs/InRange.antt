-- The references of each record are below the lengths of the lists, where those of the macroblocks around it are.
use Rattle.std.proofs.Common.{◌≡◌, ℕ, ◌<◌, Bool, true, false, cond, List, [], ◌∷◌, Option, Some, None, refl, sym, subst, arith, get_or, replicate}
use Rattle.std.specs.Prelude.{ℤ, pos, negsuc, slice_index_or, int_lt, int_le, ◌&&◌}
use Rattle.std.specs.Option.{option_or}
use Rattle.enc_tables.specs.declared.records.MbKind.{MbKind}
use Rattle.enc_tables.specs.declared.records.MbRecord.{MbRecord}
use Rattle.enc_tables.specs.declared.records.Motion.{Motion}
use Rattle.enc_tables.specs.declared.records.SliceKind.{SliceKind}
use Rattle.enc_tables.specs.Kinds.{is_skipped, is_direct, has_motion}
use Rattle.enc_tables.specs.Records.{no_motion, zero_vector}
use Rattle.spec_motion.specs.declared.Field.{Field}
use Rattle.spec_motion.specs.Neighbours.{reference_of}
use Rattle.spec_motion.specs.Skip.{skip_of}
use Rattle.spec_motion.specs.Direct.{min_positive, direct_reference, uses_neither, motion_with, col_zero, direct_block, direct_of}
use Rattle.spec_syntax.proofs.Elements.{below_4}
use Rattle.spec_partitions.specs.Near.{Near, View}
use Rattle.spec_partitions.specs.Partitions.{shape_of, part_count, part_of, by_part, part_ref, written_of}
use Rattle.spec_partitions.specs.Derived.{motion_in, whole_field, vectors, motion_from, skip_motion, direct_motion}
use Rattle.spec_partitions.specs.Records.{is_in, RefFits, WritesParts, HasMotion}
use Rattle.spec_partitions.specs.InRange.{MotionFits, AllFit, NearFits, ViewFits, HasEntries}
use Rattle.spec_partitions.proofs.ByPart.{by_at, shape_small}
use Rattle.spec_partitions.proofs.Coded.{part_inside}

pick : (t : Bool) (n : ℕ) (x y : ℤ) → RefFits n x → RefFits n y → RefFits n (cond t x y)
pick true n x y h k = h
pick false n x y h k = k

min_fits : (n : ℕ) (x y : ℤ) → RefFits n x → RefFits n y → RefFits n (min_positive x y)
min_fits n x y h k = pick (int_le (pos 0) x && int_le (pos 0) y) n _ _ (pick (int_lt y x) n y x k h) (pick (int_lt y x) n x y h k)

-- what a neighbour says
record Says (near : Near) (n : Option Motion) : Type 0 where
  first : RefFits near.refs0 (reference_of 0 n)
  second : RefFits near.refs1 (reference_of 1 n)

says : (near : Near) (n : Option MbRecord) (k : ℕ) → k < 4 → NearFits near.refs0 near.refs1 n → Says near (motion_in n k)
unfolding NearFits
says near None k lt h = record { first = refl; second = refl }
says near (Some n) k lt h = record { first = (h.at k lt).first; second = (h.at k lt).second }

either_says : (near : Near) (x y : Option Motion) → Says near x → Says near y → Says near (option_or x y)
either_says near None y h k = k
either_says near (Some m) y h k = h

-- ---- by kind

parts_in : (view : View) (mb : MbRecord) → WritesParts view.near mb → has_motion mb.kind ≡ true → AllFit view.near.refs0 view.near.refs1 (motion_from view mb.kind (written_of mb))
unfolding motion_from
parts_in view mb h m =
    let s = shape_small mb.kind in
    let n = part_count (shape_of mb.kind) in
    let at : (k : ℕ) → k < 4 → MotionFits view.near.refs0 view.near.refs1 (record {
      refs = get_or (by_part (part_ref mb 0) n) (part_of (shape_of mb.kind) k) (negsuc 0) ∷ get_or (by_part (part_ref mb 1) n) (part_of (shape_of mb.kind) k) (negsuc 0) ∷ [];
      vectors = get_or (vectors view 0 (shape_of mb.kind) (by_part (part_ref mb 0) n) (written_of mb).mvds0 n) (part_of (shape_of mb.kind) k) zero_vector ∷ get_or (vectors view 1 (shape_of mb.kind) (by_part (part_ref mb 1) n) (written_of mb).mvds1 n) (part_of (shape_of mb.kind) k) zero_vector ∷ [];
    }) = λ k lt.
    let inside = part_inside (shape_of mb.kind) k s lt in
    let fits = h.parts_fit m (part_of (shape_of mb.kind) k) inside in
    record {
      first = subst (λ r. RefFits view.near.refs0 r) (sym (by_at (part_ref mb 0) n (part_of (shape_of mb.kind) k) (negsuc 0) inside)) fits.first;
      second = subst (λ r. RefFits view.near.refs1 r) (sym (by_at (part_ref mb 1) n (part_of (shape_of mb.kind) k) (negsuc 0) inside)) fits.second;
    } in
    record { at = below_4 (λ k. MotionFits view.near.refs0 view.near.refs1 (get_or (motion_from view mb.kind (written_of mb)) k no_motion)) (at 0 (omega arith)) (at 1 (omega arith)) (at 2 (omega arith)) (at 3 (omega arith)) }

zero_fits : (n : ℕ) → 0 < n → RefFits n (pos 0)
zero_fits n h = (h, omega arith)

block_in : (near : Near) (r s : ℤ) (f : Field) (col : Option Motion) → 0 < near.refs0 → 0 < near.refs1 → RefFits near.refs0 r → RefFits near.refs1 s → MotionFits near.refs0 near.refs1 (direct_block r s f col)
block_in near r s f col a b h k = go (uses_neither r s)
  where
    go : (t : Bool) → MotionFits near.refs0 near.refs1 (cond t (record { refs = pos 0 ∷ pos 0 ∷ []; vectors = zero_vector ∷ zero_vector ∷ [] }) (motion_with r s (col_zero col) f))
    go true = record { first = zero_fits near.refs0 a; second = zero_fits near.refs1 b }
    go false = record { first = h; second = k }

direct_in : (view : View) → ViewFits view → 0 < view.near.refs0 → 0 < view.near.refs1 → AllFit view.near.refs0 view.near.refs1 (direct_motion view)
unfolding direct_motion
direct_in view v a b =
    let f = whole_field view in
    let l = says view.near view.near.left 1 (omega arith) v.left in
    let u = says view.near view.near.above 2 (omega arith) v.above in
    let c = either_says view.near _ _ (says view.near view.above_right 2 (omega arith) v.above_right) (says view.near view.above_left 3 (omega arith) v.above_left) in
    let r : RefFits view.near.refs0 (direct_reference 0 f) = min_fits view.near.refs0 _ _ l.first (min_fits view.near.refs0 _ _ u.first c.first) in
    let s : RefFits view.near.refs1 (direct_reference 1 f) = min_fits view.near.refs1 _ _ l.second (min_fits view.near.refs1 _ _ u.second c.second) in
    let at = λ (n : ℕ). block_in view.near (direct_reference 0 f) (direct_reference 1 f) f (slice_index_or view.colocated n None) a b r s in
    record { at = below_4 (λ k. MotionFits view.near.refs0 view.near.refs1 (get_or (direct_of f view.colocated) k no_motion)) (at 0) (at 1) (at 2) (at 3) }

skip_in : (view : View) → 0 < view.near.refs0 → AllFit view.near.refs0 view.near.refs1 (skip_motion view)
unfolding skip_motion
skip_in view a =
    let one : MotionFits view.near.refs0 view.near.refs1 (skip_of (whole_field view)) = record { first = zero_fits view.near.refs0 a; second = refl } in
    record { at = below_4 (λ k. MotionFits view.near.refs0 view.near.refs1 (get_or (replicate 4 (skip_of (whole_field view))) k no_motion)) one one one one }

blank_in : (near : Near) → AllFit near.refs0 near.refs1 (replicate 4 no_motion)
blank_in near =
    let one : MotionFits near.refs0 near.refs1 no_motion = record { first = refl; second = refl } in
    record { at = below_4 (λ k. MotionFits near.refs0 near.refs1 (get_or (replicate 4 no_motion) k no_motion)) one one one one }

-- direct macroblocks are in B slices, other skipped ones in P slices
direct_entries : (s : SliceKind) (k : MbKind) (a b : ℕ) → is_in s k ≡ true → is_direct k ≡ true → HasEntries s a b → (0 < a) × (0 < b)
unfolding HasEntries
direct_entries SliceKind.B k a b i d h = h
direct_entries SliceKind.I MbKind.BDirect a b i d h = absurd cc
direct_entries SliceKind.I MbKind.BSkip a b i d h = absurd cc
direct_entries SliceKind.P MbKind.BDirect a b i d h = absurd cc
direct_entries SliceKind.P MbKind.BSkip a b i d h = absurd cc
direct_entries SliceKind.I _ a b i d h = absurd cc
direct_entries SliceKind.P _ a b i d h = absurd cc

skip_entries : (s : SliceKind) (k : MbKind) (a b : ℕ) → is_in s k ≡ true → is_skipped k ≡ true → HasEntries s a b → 0 < a
unfolding HasEntries
skip_entries SliceKind.P k a b i d h = h
skip_entries SliceKind.B k a b i d h = h.0
skip_entries SliceKind.I MbKind.PSkip a b i d h = absurd cc
skip_entries SliceKind.I MbKind.BSkip a b i d h = absurd cc
skip_entries SliceKind.I _ a b i d h = absurd cc

pub parts_fit : (view : View) (mb : MbRecord) → is_in view.near.kind mb.kind ≡ true → WritesParts view.near mb → HasMotion view mb → ViewFits view → HasEntries view.near.kind view.near.refs0 view.near.refs1 → AllFit view.near.refs0 view.near.refs1 mb.motion
parts_fit view mb i h m v e = subst (λ (ms : List Motion). AllFit view.near.refs0 view.near.refs1 ms) (sym m.same) (go (has_motion mb.kind) refl (is_direct mb.kind) refl (is_skipped mb.kind) refl)
  where
    go : (a : Bool) → has_motion mb.kind ≡ a → (b : Bool) → is_direct mb.kind ≡ b → (c : Bool) → is_skipped mb.kind ≡ c
        → AllFit view.near.refs0 view.near.refs1 (cond a (motion_from view mb.kind (written_of mb)) (cond b (direct_motion view) (cond c (skip_motion view) (replicate 4 no_motion))))
    go true p b q c r = parts_in view mb h p
    go false p true q c r = let both = direct_entries view.near.kind mb.kind view.near.refs0 view.near.refs1 i q e in direct_in view v both.0 both.1
    go false p false q true r = skip_in view (skip_entries view.near.kind mb.kind view.near.refs0 view.near.refs1 i r e)
    go false p false q false r = blank_in view.near
