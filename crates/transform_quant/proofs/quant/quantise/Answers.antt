use Rattle.std.proofs.Common.{◌≡◌, ℕ, ℤ, arith, ◌∙◌, sym, ap, subst, w16, w32, Bool}
use Rattle.std.proofs.lemmas.Int.{to_z-of_z}
use mir.Val.{SFits, to_z, of_z}
use Rattle.spec_residual.specs.declared.BlockKind.{BlockKind}
use Rattle.spec_basics.specs.Bounds.{Within}
use Rattle.spec_residual.specs.Levels.{level_of, signed_level, multiplier, rounding, shift}
use Rattle.spec_residual.proofs.Bounds.{multiplier_at_most, rounding_at_most, sizes_fit, level_small}
use Rattle.transform_quant.proofs.quant.quantise.Goals as goal

pub signed_level-requires-clause-in_multiplier : goal.signed_level-requires-clause-in_multiplier
signed_level-requires-clause-in_multiplier c = rw c.multiplier_of.ensures (multiplier_at_most c.args.kind c.args.qp c.args.place)

pub signed_level-requires-clause-in_rounding : goal.signed_level-requires-clause-in_rounding
signed_level-requires-clause-in_rounding c = rw c.rounding_of.ensures (rounding_at_most c.args.kind c.args.intra c.args.qp c.requires.in_range)

pub signed_level-requires-clause-fits : goal.signed_level-requires-clause-fits
signed_level-requires-clause-fits c =
    let h = sizes_fit c.args.kind c.args.intra c.args.qp c.args.place in
    rw (c.multiplier_of.ensures, c.rounding_of.ensures, c.shift_of.ensures.value) (omega arith)

same : (m f s m' f' s' : ℕ) (c : ℤ) → m ≡ m' → f ≡ f' → s ≡ s' → signed_level m f s c ≡ signed_level m' f' s' c
same m f s m' f' s' c d e h = ap (λ (x : ℕ). signed_level x f s c) d ∙ ap (λ (x : ℕ). signed_level m' x s c) e ∙ ap (λ (x : ℕ). signed_level m' f' x c) h

is_level : (kind : BlockKind) (intra : Bool) (qp p m f s : ℕ) (c r : ℤ) → SFits w16 r → SFits w32 c → m ≡ multiplier kind qp p → f ≡ rounding kind intra qp → s ≡ shift kind qp → r ≡ signed_level m f s (to_z w32 (of_z w32 c)) → to_z w16 (of_z w16 r) ≡ level_of kind intra qp p c
unfolding level_of
is_level kind intra qp p m f s c r g h d e k is =
    to_z-of_z w16 r g ∙ is ∙ ap (λ (z : ℤ). signed_level m f s z) (to_z-of_z w32 c h) ∙ same m f s _ _ _ c d e k

pub returns-clause-value : goal.returns-clause-value
returns-clause-value c =
    is_level _ _ _ _ _ _ _ _ _ (record { sfits = c.signed_level.type_inv }) c.ranges.c c.multiplier_of.ensures c.rounding_of.ensures c.shift_of.ensures.value c.signed_level.ensures

pub returns-clause-small : goal.returns-clause-small
returns-clause-small c small =
    let e = is_level _ _ _ _ _ _ _ _ _ (record { sfits = c.signed_level.type_inv }) c.ranges.c c.multiplier_of.ensures c.rounding_of.ensures c.shift_of.ensures.value c.signed_level.ensures in
    subst (λ (z : ℤ). Within 8191 z) (sym e) (level_small c.args.kind c.args.intra c.args.qp c.args.place c.args.c small)
