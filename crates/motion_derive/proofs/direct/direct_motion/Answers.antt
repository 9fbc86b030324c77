use Rattle.std.proofs.Common.{◌≡◌, ◌∙◌, ℤ, [], ◌∷◌, ap₂, w8, slice_index_or}
use Rattle.std.proofs.lemmas.Int.{to_z-of_z}
use Rattle.std.specs.Prelude.{Option, None}
use mir.Val.{SFits}
use Rattle.enc_tables.specs.declared.records.Motion.{Motion}
use Rattle.spec_motion.specs.declared.Field.{Field}
use Rattle.spec_motion.specs.Direct.{direct_block}
use Rattle.motion_derive.proofs.direct.direct_motion.Goals as goal

four : (a b c d a' b' c' d' : Motion) → a ≡ a' → b ≡ b' → c ≡ c' → d ≡ d'
    → (a ∷ b ∷ c ∷ d ∷ []) ≡ (a' ∷ b' ∷ c' ∷ d' ∷ [])
four a b c d a' b' c' d' ha hb hc hd = cc

same : (x y x' y' : ℤ) (f : Field) (near : Option Motion) → x ≡ x' → y ≡ y' → direct_block x y f near ≡ direct_block x' y' f near
same x y x' y' f near hx hy = ap₂ (λ (p q : ℤ). direct_block p q f near) hx hy

pub returns : goal.returns
returns c =
    let f : SFits w8 c.direct_reference-first.result = record { sfits = c.direct_reference-first.type_inv } in
    let s : SFits w8 c.direct_reference-second.result = record { sfits = c.direct_reference-second.type_inv } in
    let r = to_z-of_z w8 c.direct_reference-first.result f ∙ c.direct_reference-first.ensures in
    let q = to_z-of_z w8 c.direct_reference-second.result s ∙ c.direct_reference-second.ensures in
    let near = c.args.colocated.now in
    four _ _ _ _ _ _ _ _
    (c.direct_block.ensures ∙ same _ _ _ _ c.args.field.now (slice_index_or near 0 None) r q)
    (c.direct_block-2.ensures ∙ same _ _ _ _ c.args.field.now (slice_index_or near 1 None) r q)
    (c.direct_block-3.ensures ∙ same _ _ _ _ c.args.field.now (slice_index_or near 2 None) r q)
    (c.direct_block-4.ensures ∙ same _ _ _ _ c.args.field.now (slice_index_or near 3 None) r q)
