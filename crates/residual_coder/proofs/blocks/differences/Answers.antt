use Rattle.std.proofs.Common.{arith, ℤ, pos, ◌-ℤ◌, get_or, w16, ◌∙◌, sym, subst}
use Rattle.std.proofs.lemmas.Int.{to_z-of_z}
use Rattle.std.proofs.lemmas.List.{length-set}
use mir.Val.{SFits}
use Rattle.spec_basics.specs.Bounds.{Within}
use Rattle.residual_coder.proofs.BlockLaws.{differences_are, item_next, small_next}
use Rattle.residual_coder.proofs.blocks.differences.Goals as goal

pub loop-k-preserved : goal.loop-k-preserved
loop-k-preserved g c =
    let r : SFits w16 c.difference.result = record { sfits = c.difference.type_inv } in
    let back = to_z-of_z w16 c.difference.result r in
    let P : ℤ → Type 0 = λ z. Within 255 z in
    record {
      long = simp length-set c.loop-k.invariant.long;
      small = small_next 255 c.loop-k.out c.loop-k.k _ (omega arith) (subst P (sym back) c.difference.ensures.small) c.loop-k.invariant.small;
      done = item_next (λ k. pos (get_or c.args.source.now k 0) -ℤ pos (get_or c.args.prediction.now k 0)) c.loop-k.out c.loop-k.k _ (omega arith) (back ∙ c.difference.ensures.value) c.loop-k.invariant.done;
    }

pub returns-clause-value : goal.returns-clause-value
returns-clause-value g c = differences_are g.row.N c.args.source.now c.args.prediction.now c.loop-k.out c.loop-k.invariant.long (λ k h. c.loop-k.invariant.done k (omega arith))

pub returns-clause-small : goal.returns-clause-small
returns-clause-small g c p h = c.loop-k.invariant.small p (omega arith)
