use Rattle.std.proofs.Common.{◌≡◌, ◌∙◌, ℤ, pos, sym, ap₂, true, false, w8, refl, [], ◌∷◌}
use Rattle.std.proofs.lemmas.Int.{to_z-of_z}
use Rattle.std.specs.Prelude.{Option}
use Rattle.enc_tables.specs.declared.records.Motion.{Motion}
use Rattle.enc_tables.specs.declared.records.Vector.{Vector}
use Rattle.enc_tables.specs.Records.{zero_vector}
use Rattle.spec_motion.specs.declared.Field.{Field}
use Rattle.spec_motion.specs.Direct.{uses_neither, motion_with, col_zero, direct_block}
use Rattle.motion_derive.proofs.direct.direct_block.Goals as goal

none : (r s : ℤ) (f : Field) (near : Option Motion) → uses_neither r s ≡ true
    → direct_block r s f near ≡ record { refs = pos 0 ∷ pos 0 ∷ []; vectors = zero_vector ∷ zero_vector ∷ [] }
none r s f near h = rw h refl

some : (r s : ℤ) (f : Field) (near : Option Motion) → uses_neither r s ≡ false
    → direct_block r s f near ≡ motion_with r s (col_zero near) f
some r s f near h = rw h refl

zeros : (v w : Vector) → v ≡ zero_vector → w ≡ zero_vector
    → (let m : Motion = record { refs = pos 0 ∷ pos 0 ∷ []; vectors = v ∷ w ∷ [] } in m) ≡ record { refs = pos 0 ∷ pos 0 ∷ []; vectors = zero_vector ∷ zero_vector ∷ [] }
zeros v w hv hw = ap₂ (λ (x y : Vector). let m : Motion = record { refs = pos 0 ∷ pos 0 ∷ []; vectors = x ∷ y ∷ [] } in m) hv hw

pub returns-then-uses_neither : goal.returns-then-uses_neither
returns-then-uses_neither c =
    let h = rw (to_z-of_z w8 c.args.first c.ranges.first, to_z-of_z w8 c.args.second c.ranges.second) at c.uses_neither.ensures in
    zeros _ _ c.zero_vector.ensures c.zero_vector-then-uses_neither.ensures ∙ sym (none c.args.first c.args.second c.args.field.now c.args.near (sym h ∙ c.if-uses_neither.true))

pub returns : goal.returns
returns c =
    let h = rw (to_z-of_z w8 c.args.first c.ranges.first, to_z-of_z w8 c.args.second c.ranges.second) at c.uses_neither.ensures in
    let m = rw (c.col_zero.ensures, to_z-of_z w8 c.args.first c.ranges.first, to_z-of_z w8 c.args.second c.ranges.second) at c.motion_of.ensures in
    m ∙ sym (some c.args.first c.args.second c.args.field.now c.args.near (sym h ∙ c.if-uses_neither.false))
