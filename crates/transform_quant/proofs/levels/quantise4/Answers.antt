use Rattle.std.proofs.Common.{◌≡◌, ◌<◌, ℕ, ℤ, List, Bool, length, get_or, arith, ◌∙◌, sym, ap, subst, w16}
use Rattle.std.proofs.lemmas.Int.{to_z-of_z}
use Rattle.std.proofs.lemmas.List.{length-set}
use mir.Val.{SFits}
use Rattle.enc_tables.specs.declared.transform.TheConstants.{ZIGZAG4}
use Rattle.spec_residual.specs.declared.BlockKind.{BlockKind}
use Rattle.spec_basics.specs.Bounds.{Within}
use Rattle.spec_residual.specs.Blocks.{item}
use Rattle.spec_residual.specs.Levels.{level_of, levels4_of}
use Rattle.spec_residual.proofs.Bounds.{in_row, level_small}
use Rattle.spec_residual.proofs.Listed.{is_listed}
use Rattle.transform_quant.proofs.Counted.{levels_next, count_next, all_counted, one_small}
use Rattle.transform_quant.proofs.levels.quantise4.Goals as goal

abbrev level_at : BlockKind → Bool → ℕ → List ℤ → ℕ → ℤ
level_at kind intra qp xs s = level_of kind intra qp (get_or ZIGZAG4 s 0) (item xs (get_or ZIGZAG4 s 0))

pub loop-scan-preserved : goal.loop-scan-preserved
loop-scan-preserved c =
    let r : SFits w16 c.level_at-level.result = record { sfits = c.level_at-level.type_inv } in
    let is = to_z-of_z w16 c.level_at-level.result r ∙ c.level_at-level.ensures ∙ c.levels4-all.ensures.value c.zigzag4-place.result c.zigzag4-place.ensures.inside ∙ ap (λ (m : ℕ). level_of c.args.kind c.args.intra c.args.qp m (item c.args.c.now m)) c.zigzag4-place.ensures.value in
    let one = one_small _ _ c.one_if_nonzero-nonzero.ensures in
    record {
      long = simp length-set c.loop-scan.invariant.long;
      done = levels_next (level_at c.args.kind c.args.intra c.args.qp c.args.c.now) c.loop-scan.levels c.loop-scan.scan _ (omega arith) is c.loop-scan.invariant.done;
      few = omega arith;
      counted = count_next c.loop-scan.levels c.loop-scan.scan _ _ _ (omega arith) c.loop-scan.invariant.counted c.one_if_nonzero-nonzero.ensures;
    }

value : (kind : BlockKind) (intra : Bool) (qp : ℕ) (xs out : List ℤ) → length out ≡ 16 → ((k : ℕ) → k < 16 → item out k ≡ level_at kind intra qp xs k) → out ≡ levels4_of kind intra qp xs
unfolding levels4_of
value kind intra qp xs out long done = is_listed 16 (level_at kind intra qp xs) out long done

pub returns-clause-value : goal.returns-clause-value
returns-clause-value c =
    value c.args.kind c.args.intra c.args.qp c.args.c.now c.loop-scan.levels c.loop-scan.invariant.long (λ k h. c.loop-scan.invariant.done k (omega arith))

pub returns-clause-nonzero : goal.returns-clause-nonzero
returns-clause-nonzero c = all_counted c.loop-scan.levels 16 c.loop-scan.nonzero c.loop-scan.scan c.loop-scan.invariant.long (omega arith) c.loop-scan.invariant.counted

pub returns-clause-small : goal.returns-clause-small
returns-clause-small c small p h =
    let inside : (get_or ZIGZAG4 p 0) < 16 = (let q = in_row 15 ZIGZAG4 tt p in omega arith) in
    subst (λ (v : ℤ). Within 8191 v) (sym (c.loop-scan.invariant.done p (omega arith))) (level_small c.args.kind c.args.intra c.args.qp (get_or ZIGZAG4 p 0) (item c.args.c.now (get_or ZIGZAG4 p 0)) (small (get_or ZIGZAG4 p 0) inside))
