-- The macroblocks around one, as a view has them: their references and vectors.
use Rattle.std.proofs.Common.{◌≡◌, ◌<◌, ℕ, zero, suc, true, false, cond, Bool, List, [], get_or, Option, Some, None, refl, sym, ap, ap₂, subst, ◌∙◌, arith, replicate}
use Rattle.std.specs.Prelude.{nat_lt}
use Rattle.std.specs.Option.{option_or}
use Rattle.enc_tables.specs.declared.records.MbKind.{MbKind}
use Rattle.enc_tables.specs.declared.records.MbRecord.{MbRecord}
use Rattle.enc_tables.specs.declared.records.Motion.{Motion}
use Rattle.enc_tables.specs.declared.records.SliceKind.{SliceKind}
use Rattle.enc_tables.specs.Records.{blank_record, no_motion}
use Rattle.spec_contexts.specs.Near.{pointed}
use Rattle.spec_motion.specs.declared.Field.{Field}
use Rattle.spec_motion.specs.Skip.{skip_of}
use Rattle.spec_motion.specs.Direct.{direct_of}
use Rattle.spec_syntax.proofs.Elements.{below_4}
use Rattle.spec_partitions.specs.Near.{View}
use Rattle.spec_partitions.specs.Partitions.{part_count, part_of}
use Rattle.spec_partitions.specs.Derived.{motion_in, part_field, known_block, known_blocks, whole_field, skip_motion, direct_motion}
use Rattle.spec_partitions.specs.InRange.{MotionFits, AllFit, HasEntries}
use Rattle.spec_partitions.specs.Small.{FieldSmall, BlockSmall, AllSmall, NearSmall, ViewSmall}
use Rattle.spec_partitions.proofs.ByPart.{each_part}
use Rattle.spec_partitions.proofs.InRange.{parts_fit}
use Rattle.spec_partitions.proofs.Small.{zero_small}
use Rattle.spec_partitions.proofs.SmallVectors.{says, either_says, vectors_small}
use Rattle.spec_coded.specs.Planned.{moving}
use Rattle.inter_coder.specs.declared.given.Beside.{Beside}
use Rattle.inter_coder.specs.Given.{IsBeside}
use Rattle.inter_coder.specs.Beside.{BesideFits, BesideSmall}

-- a view of a slice of a kind, whose lists have these lengths
abbrev pub view_of : SliceKind → ℕ → ℕ → List (Option Motion) → Beside → View
view_of kind entries0 entries1 colocated b = record {
  near = record { kind = kind; left = pointed b.left; above = pointed b.above; last_delta = false; qp = 0; t8x8 = false; refs0 = entries0; refs1 = entries1 };
  above_right = pointed b.above_right;
  above_left = pointed b.above_left;
  colocated = colocated;
}

pub is_view : (kind : SliceKind) (entries0 entries1 : ℕ) (colocated : List (Option Motion)) (b : Beside) → IsBeside (view_of kind entries0 entries1 colocated b) b
is_view kind entries0 entries1 colocated b = record { left = refl; above = refl; above_right = refl; above_left = refl }

pub view_small : (most : ℕ) (view : View) (b : Beside) → IsBeside view b → BesideSmall most b → ViewSmall most view
view_small most view b h s = record {
  left = subst (λ n. NearSmall most n) (sym h.left) s.left;
  above = subst (λ n. NearSmall most n) (sym h.above) s.above;
  above_right = subst (λ n. NearSmall most n) (sym h.above_right) s.above_right;
  above_left = subst (λ n. NearSmall most n) (sym h.above_left) s.above_left;
}

-- ---- skip motion and direct motion

skip_small : (most : ℕ) (view : View) → ViewSmall most view → AllSmall most (skip_motion view)
unfolding blank_record
skip_small most view s = vectors_small most view (moving MbKind.PSkip 0 (skip_motion view)) (record { same = refl }) s (λ e. absurd cc)

direct_small : (most : ℕ) (view : View) → ViewSmall most view → AllSmall most (direct_motion view)
unfolding blank_record
direct_small most view s = vectors_small most view (moving MbKind.BDirect 0 (direct_motion view)) (record { same = refl }) s (λ e. absurd cc)

-- ---- the blocks beside a partition

known_small : (most shape : ℕ) (motion : List Motion) (part k : ℕ) → AllSmall most motion → k < 4 → BlockSmall most (known_block shape motion part k)
known_small most shape motion part k h lt = go (nat_lt (part_of shape k) part)
  where
    go : (b : Bool) → BlockSmall most (cond b (Some (get_or motion k no_motion)) None)
    go true = h.at k lt
    go false = record { first = zero_small most; second = zero_small most }

record FieldBlocks (most : ℕ) (f : Field) : Type 0 where
  a : BlockSmall most f.a
  b : BlockSmall most f.b
  c : BlockSmall most f.c

blocks_small : (most : ℕ) (view : View) (motion : List Motion) → ViewSmall most view → AllSmall most motion → (shape part : ℕ) → shape < 4 → part < part_count shape → FieldBlocks most (part_field view (known_blocks shape motion part) shape part)
blocks_small most view motion v m =
    let left1 = says most view.near.left 1 (omega arith) v.left in
    let left3 = says most view.near.left 3 (omega arith) v.left in
    let above2 = says most view.near.above 2 (omega arith) v.above in
    let above3 = says most view.near.above 3 (omega arith) v.above in
    let right2 = says most view.above_right 2 (omega arith) v.above_right in
    let corner3 = says most view.above_left 3 (omega arith) v.above_left in
    let own0 = m.at 0 (omega arith) in
    let own1 = m.at 1 (omega arith) in
    let own2 = m.at 2 (omega arith) in
    each_part (λ shape part. FieldBlocks most (part_field view (known_blocks shape motion part) shape part))
    (record { a = left1; b = above2; c = either_says most _ _ right2 corner3 })
    (record { a = left1; b = above2; c = either_says most _ _ right2 corner3 })
    (record { a = left3; b = own0; c = left1 })
    (record { a = left1; b = above2; c = either_says most _ _ above3 corner3 })
    (record { a = own0; b = above3; c = either_says most _ _ right2 above2 })
    (record { a = left1; b = above2; c = either_says most _ _ above3 corner3 })
    (record { a = own0; b = above3; c = either_says most _ _ right2 above2 })
    (record { a = left3; b = own0; c = own1 })
    (record { a = own2; b = own1; c = own0 })

pub field_small : (most : ℕ) (view : View) (motion : List Motion) → ViewSmall most view → AllSmall most motion → (list shape part : ℕ) → list < 2 → shape < 4 → part < part_count shape → FieldSmall most list (part_field view (known_blocks shape motion part) shape part)
field_small most view motion v m list shape part l s p = go list l (blocks_small most view motion v m shape part s p)
  where
    go : (list : ℕ) → list < 2 → FieldBlocks most (part_field view (known_blocks shape motion part) shape part) → FieldSmall most list (part_field view (known_blocks shape motion part) shape part)
    go zero l h = record { a = h.a.first; b = h.b.first; c = h.c.first }
    go (suc zero) l h = record { a = h.a.second; b = h.b.second; c = h.c.second }
    go (suc (suc n)) l h = absurd (omega (arith, l))

-- ---- what callers need of skip motion and direct motion

pub skip_short : (most : ℕ) (b : Beside) (motion : List Motion) → BesideSmall most b → ((view : View) → IsBeside view b → motion ≡ skip_motion view) → AllSmall most motion
skip_short most b motion s e =
    let view = view_of SliceKind.P 0 0 [] b in
    let is = is_view SliceKind.P 0 0 [] b in
    subst (λ m. AllSmall most m) (sym (e view is)) (skip_small most view (view_small most view b is s))

pub skip_fits : (entries0 entries1 : ℕ) (b : Beside) (motion : List Motion) → 0 < entries0 → ((view : View) → IsBeside view b → motion ≡ skip_motion view) → AllFit entries0 entries1 motion
unfolding skip_motion
skip_fits entries0 entries1 b motion some e =
    let view = view_of SliceKind.P 0 0 [] b in
    let one : MotionFits entries0 entries1 (skip_of (whole_field view)) = record { first = (some, omega arith); second = refl } in
    subst (λ m. AllFit entries0 entries1 m) (sym (e view (is_view SliceKind.P 0 0 [] b)))
    (record { at = below_4 (λ k. MotionFits entries0 entries1 (get_or (replicate 4 (skip_of (whole_field view))) k no_motion)) one one one one })

pub direct_short : (most : ℕ) (b : Beside) (colocated : List (Option Motion)) (motion : List Motion) → BesideSmall most b → ((view : View) → IsBeside view b → view.colocated ≡ colocated → motion ≡ direct_motion view) → AllSmall most motion
direct_short most b colocated motion s e =
    let view = view_of SliceKind.B 0 0 colocated b in
    let is = is_view SliceKind.B 0 0 colocated b in
    subst (λ m. AllSmall most m) (sym (e view is refl)) (direct_small most view (view_small most view b is s))

pub direct_fits : (entries0 entries1 : ℕ) (b : Beside) (colocated : List (Option Motion)) (motion : List Motion) → 0 < entries0 → 0 < entries1 → BesideFits entries0 entries1 b
    → ((view : View) → IsBeside view b → view.colocated ≡ colocated → motion ≡ direct_motion view) → AllFit entries0 entries1 motion
unfolding blank_record HasEntries
direct_fits entries0 entries1 b colocated motion some0 some1 f e =
    let view = view_of SliceKind.B entries0 entries1 colocated b in
    let mb = moving MbKind.BDirect 0 (direct_motion view) in
    subst (λ m. AllFit entries0 entries1 m) (sym (e view (is_view SliceKind.B entries0 entries1 colocated b) refl))
    (parts_fit view mb refl (record { parts_fit = λ e. absurd cc; mvds_fit = λ e. absurd cc }) (record { same = refl }) (record { left = f.left; above = f.above; above_right = f.above_right; above_left = f.above_left }) (some0, some1))

-- ---- fields, put together

pub told : (x : Option Motion) (n seen : Option MbRecord) (k : ℕ) → x ≡ motion_in n k → seen ≡ n → x ≡ motion_in seen k
told x n seen k e h = e ∙ ap (λ m. motion_in m k) (sym h)

pub either_told : (z x y x' y' : Option Motion) → z ≡ option_or x y → x ≡ x' → y ≡ y' → z ≡ option_or x' y'
either_told z x y x' y' e h k = e ∙ ap₂ (λ a b. option_or a b) h k

abbrev pub field : Option Motion → Option Motion → Option Motion → Field
field a b c = record { a = a; b = b; c = c }

pub field_same : (a b c a' b' c' : Option Motion) → a ≡ a' → b ≡ b' → c ≡ c' → field a b c ≡ field a' b' c'
field_same a b c a' b' c' e f g = rw (e, f, g) refl

-- the last 8x8 block
pub last_quarter : (view : View) (motion : List Motion) (part : ℕ) (f : Field) → part < 4 → (part ≡ 0 → ⊥) → (part ≡ 1 → ⊥) → (part ≡ 2 → ⊥) → f ≡ part_field view (known_blocks 3 motion 3) 3 3 → f ≡ part_field view (known_blocks 3 motion part) 3 part
last_quarter view motion zero f lt a b c d = absurd (a refl)
last_quarter view motion (suc zero) f lt a b c d = absurd (b refl)
last_quarter view motion (suc (suc zero)) f lt a b c d = absurd (c refl)
last_quarter view motion (suc (suc (suc zero))) f lt a b c d = d
last_quarter view motion (suc (suc (suc (suc n)))) f lt a b c d = absurd (omega (arith, lt))

-- the lower partition of 16x8
abbrev Last : View → List Motion → Field → ℕ → ℕ → Type 0
Last view motion f shape part = (shape ≡ 3 → ⊥) → (part ≡ 0 → ⊥) → (shape ≡ 2 → ⊥) → f ≡ part_field view (known_blocks 1 motion 1) 1 1 → f ≡ part_field view (known_blocks shape motion part) shape part

pub last_half : (view : View) (motion : List Motion) (f : Field) (shape part : ℕ) → shape < 4 → part < part_count shape → Last view motion f shape part
last_half view motion f = each_part (Last view motion f)
    (λ a b c d. absurd (b refl)) (λ a b c d. absurd (b refl)) (λ a b c d. d) (λ a b c d. absurd (b refl)) (λ a b c d. absurd (c refl)) (λ a b c d. absurd (a refl)) (λ a b c d. absurd (a refl)) (λ a b c d. absurd (a refl)) (λ a b c d. absurd (a refl))

pub skip_is : (view : View) (f : Field) (m : Motion) → m ≡ skip_of f → f ≡ whole_field view → replicate 4 m ≡ skip_motion view
unfolding skip_motion
skip_is view f m e h = ap (λ (x : Motion). replicate 4 x) (e ∙ ap (λ (g : Field). skip_of g) h)

pub direct_is : (view : View) (colocated : List (Option Motion)) (f : Field) (motion : List Motion) → motion ≡ direct_of f colocated → f ≡ whole_field view → view.colocated ≡ colocated → motion ≡ direct_motion view
unfolding direct_motion
direct_is view colocated f motion e h k = e ∙ ap₂ (λ (g : Field) (n : List (Option Motion)). direct_of g n) h (sym k)
