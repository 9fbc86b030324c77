use Rattle.std.proofs.Common.{◌≡◌, ◌<◌, ℕ, ℤ, List, get_or, length, pos, true, replicate, set, arith, refl, ◌∙◌, sym, ap, subst, w16}
use Rattle.std.proofs.lemmas.Int.{to_z-of_z}
use Rattle.std.proofs.lemmas.List.{length-set}
use Rattle.enc_tables.specs.declared.transform.TheConstants.{ZIGZAG4}
use Rattle.enc_tables.specs.Steps.{steps}
use Rattle.spec_basics.specs.Bounds.{Within}
use Rattle.spec_residual.specs.Blocks.{item}
use Rattle.spec_residual.specs.declared.BlockKind.TheVariants.{LumaDc}
use Rattle.spec_reconstruction.specs.Luma.{unscanned}
use Rattle.residual_coder.proofs.BlockLaws.{none_assigned, one_assigned, zeros_within, set_within, fits16_from_within, made_at}
use Rattle.residual_coder.proofs.ZeroLaws.{zeros_made, set_made}
use Rattle.intra_coder.proofs.luma16.unscanned.Goals as goal

pub loop-s-init : goal.loop-s-init
loop-s-init c = record {
  long = refl;
  done = none_assigned (λ s. get_or ZIGZAG4 s 0) (λ s. item c.args.levels.now s) (replicate 16 (pos 0));
  small = zeros_within 16 8191;
  made = zeros_made LumaDc true c.args.qp 16;
}

pub loop-s-preserved : goal.loop-s-preserved
loop-s-preserved c =
    let w = c.requires.small c.loop-s.s c.loop-s-test.true in
    let level = to_z-of_z w16 (item c.args.levels.now c.loop-s.s) (fits16_from_within _ w) in
    let place = c.zigzag4-place.ensures.value in
    let P : ℤ → Type 0 = λ z. Within 8191 z in
    let inside : c.zigzag4-place.result < length c.loop-s.rows = omega (arith, c.zigzag4-place.ensures.inside, c.loop-s.invariant.long) in
    record {
      long = simp length-set c.loop-s.invariant.long;
      done = one_assigned (λ s. get_or ZIGZAG4 s 0) (λ s. item c.args.levels.now s) (replicate 16 (pos 0)) c.loop-s.rows c.loop-s.s _ _ place level c.loop-s.invariant.done;
      small = set_within 16 8191 _ _ c.loop-s.rows inside (subst P (sym level) w) c.loop-s.invariant.small;
      made = set_made LumaDc true c.args.qp _ _ c.loop-s.rows inside (made_at LumaDc true c.args.qp _ _ _ _ place level (c.requires.made c.loop-s.s c.loop-s-test.true)) c.loop-s.invariant.made;
    }

is_unscanned : (levels rows : List ℤ) → rows ≡ steps (λ s c. set c (get_or ZIGZAG4 s 0) (item levels s)) 16 (replicate 16 (pos 0)) → rows ≡ unscanned levels
unfolding unscanned
is_unscanned levels rows e = e

pub returns-clause-value : goal.returns-clause-value
returns-clause-value c =
    let e : c.loop-s.s ≡ 16 = omega arith in
    is_unscanned c.args.levels.now c.loop-s.rows
    (c.loop-s.invariant.done ∙ ap (λ (n : ℕ). steps (λ s c'. set c' (get_or ZIGZAG4 s 0) (item c.args.levels.now s)) n (replicate 16 (pos 0))) e)
