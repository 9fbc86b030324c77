use Rattle.std.proofs.Common.{◌≡◌, ◌<◌, ℕ, ℤ, List, Bool, length, get_or, arith, ◌∙◌, sym, ap, subst, w16, w32}
use Rattle.std.proofs.lemmas.Int.{to_z-of_z}
use Rattle.std.proofs.lemmas.List.{length-set}
use mir.Val.{SFits}
use Rattle.enc_tables.specs.declared.transform.TheConstants.{ZIGZAG8}
use Rattle.spec_residual.specs.declared.BlockKind.TheVariants.{Luma8}
use Rattle.spec_basics.specs.Bounds.{Within}
use Rattle.spec_residual.specs.Blocks.{item}
use Rattle.spec_residual.specs.Levels.{level_of, levels8_of}
use Rattle.spec_residual.proofs.Bounds.{in_row, level_small}
use Rattle.spec_residual.proofs.Listed.{is_listed}
use Rattle.transform_quant.proofs.Counted.{levels_next, count_next, all_counted, one_small, fits_from_within}
use Rattle.transform_quant.proofs.levels.quantise8.Goals as goal

abbrev level_at : Bool → ℕ → List ℤ → ℕ → ℤ
level_at intra qp xs s = level_of Luma8 intra qp (get_or ZIGZAG8 s 0) (item xs (get_or ZIGZAG8 s 0))

pub loop-scan-preserved : goal.loop-scan-preserved
loop-scan-preserved c =
    let place = c.zigzag8-place.result in
    let f : SFits w32 (item c.args.c.now c.zigzag8-place.result) = fits_from_within _ (c.requires.size c.zigzag8-place.result c.zigzag8-place.ensures.inside) in
    let r : SFits w16 c.quantise-level.result = record { sfits = c.quantise-level.type_inv } in
    let is = to_z-of_z w16 c.quantise-level.result r ∙ c.quantise-level.ensures.value ∙ ap (λ (v : ℤ). level_of Luma8 c.args.intra c.args.qp c.zigzag8-place.result v) (to_z-of_z w32 _ f) ∙ ap (λ (m : ℕ). level_of Luma8 c.args.intra c.args.qp m (item c.args.c.now m)) c.zigzag8-place.ensures.value in
    let one = one_small _ _ c.one_if_nonzero-nonzero.ensures in
    record {
      long = simp length-set c.loop-scan.invariant.long;
      done = levels_next (level_at c.args.intra c.args.qp c.args.c.now) c.loop-scan.levels c.loop-scan.scan _ (omega arith) is c.loop-scan.invariant.done;
      few = omega arith;
      counted = count_next c.loop-scan.levels c.loop-scan.scan _ _ _ (omega arith) c.loop-scan.invariant.counted c.one_if_nonzero-nonzero.ensures;
    }

value : (intra : Bool) (qp : ℕ) (xs out : List ℤ) → length out ≡ 64 → ((k : ℕ) → k < 64 → item out k ≡ level_at intra qp xs k) → out ≡ levels8_of intra qp xs
unfolding levels8_of
value intra qp xs out long done = is_listed 64 (level_at intra qp xs) out long done

pub returns-clause-value : goal.returns-clause-value
returns-clause-value c =
    value c.args.intra c.args.qp c.args.c.now c.loop-scan.levels c.loop-scan.invariant.long (λ k h. c.loop-scan.invariant.done k (omega arith))

pub returns-clause-nonzero : goal.returns-clause-nonzero
returns-clause-nonzero c = all_counted c.loop-scan.levels 64 c.loop-scan.nonzero c.loop-scan.scan c.loop-scan.invariant.long (omega arith) c.loop-scan.invariant.counted

pub returns-clause-small : goal.returns-clause-small
returns-clause-small c small p h =
    let inside : (get_or ZIGZAG8 p 0) < 64 = (let q = in_row 63 ZIGZAG8 tt p in omega arith) in
    subst (λ (v : ℤ). Within 8191 v) (sym (c.loop-scan.invariant.done p (omega arith))) (level_small Luma8 c.args.intra c.args.qp (get_or ZIGZAG8 p 0) (item c.args.c.now (get_or ZIGZAG8 p 0)) (small (get_or ZIGZAG8 p 0) inside))
