use Rattle.std.proofs.Common.{◌≡◌, ℕ, ℤ, get_or, pos, replicate, set, arith, refl, ◌∙◌, sym, ap, ap₂, subst, w32}
use Rattle.std.proofs.lemmas.Int.{to_z-of_z}
use Rattle.std.proofs.lemmas.List.{length-set}
use mir.Val.{SFits}
use Rattle.enc_tables.specs.declared.transform.TheConstants.{ZIGZAG4}
use Rattle.enc_tables.specs.Steps.{steps}
use Rattle.spec_basics.specs.Bounds.{Within}
use Rattle.spec_residual.specs.Blocks.{item}
use Rattle.spec_residual.specs.Rescaled.{rescaled}
use Rattle.residual_coder.proofs.BlockLaws.{none_assigned, one_assigned, zeros_within, set_within, coefficients4_are, made_at, the_level}
use Rattle.residual_coder.proofs.blocks.rescaled4.Goals as goal

pub rescale-requires-clause-size : goal.rescale-requires-clause-size
rescale-requires-clause-size c =
    let w = c.requires.size c.loop-s.s c.loop-s-test.true in
    let P : ℤ → Type 0 = λ z. Within 8191 z in
    subst P (sym (to_z-of_z w32 c.level_at-level.result (the_level _ _ c.level_at-level.ensures w) ∙ c.level_at-level.ensures)) w

pub loop-s-init : goal.loop-s-init
loop-s-init c = record {
  long = refl;
  done = none_assigned (λ s. get_or ZIGZAG4 s 0) (λ s. rescaled c.args.kind c.args.qp (get_or ZIGZAG4 s 0) (item c.args.levels.now s)) (replicate 16 (pos 0));
  small = λ intra made. zeros_within 16 1048576;
}

pub loop-s-preserved : goal.loop-s-preserved
loop-s-preserved c =
    let level = to_z-of_z w32 c.level_at-level.result (the_level _ _ c.level_at-level.ensures (c.requires.size c.loop-s.s c.loop-s-test.true)) ∙ c.level_at-level.ensures in
    let r : SFits w32 c.rescale.result = record { sfits = c.rescale.type_inv } in
    let back = to_z-of_z w32 c.rescale.result r in
    let place = c.zigzag4-place.ensures.value in
    let is = back ∙ c.rescale.ensures.value ∙ ap₂ (λ (m : ℕ) (v : ℤ). rescaled c.args.kind c.args.qp m v) place level in
    record {
      long = simp length-set c.loop-s.invariant.long;
      done = one_assigned (λ s. get_or ZIGZAG4 s 0) (λ s. rescaled c.args.kind c.args.qp (get_or ZIGZAG4 s 0) (item c.args.levels.now s)) (replicate 16 (pos 0)) c.loop-s.c c.loop-s.s _ _ place is c.loop-s.invariant.done;
      small = λ intra made.
          let P : ℤ → Type 0 = λ z. Within 1048576 z in
          set_within 16 1048576 _ _ c.loop-s.c (omega (arith, c.zigzag4-place.ensures.inside, c.loop-s.invariant.long))
          (subst P (sym back) (c.rescale.ensures.small intra (made_at c.args.kind intra c.args.qp _ _ _ _ place level (made c.loop-s.s c.loop-s-test.true))))
          (c.loop-s.invariant.small intra made);
    }

pub returns-clause-value : goal.returns-clause-value
returns-clause-value c =
    let e : c.loop-s.s ≡ 16 = omega arith in
    coefficients4_are c.args.kind c.args.qp c.args.levels.now c.loop-s.c
    (c.loop-s.invariant.done ∙ ap (λ (n : ℕ). steps (λ s c'. set c' (get_or ZIGZAG4 s 0) (rescaled c.args.kind c.args.qp (get_or ZIGZAG4 s 0) (item c.args.levels.now s))) n (replicate 16 (pos 0))) e)
