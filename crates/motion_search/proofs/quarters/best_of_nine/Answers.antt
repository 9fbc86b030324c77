use Rattle.std.proofs.Common.{arith, sym, subst}
use Rattle.enc_tables.specs.declared.records.Vector.{Vector}
use Rattle.motion_search.specs.Quarters.{costs_by, IsWithin}
use Rattle.motion_search.proofs.Quartering.{turned_within, round_begun, round_moved, round_kept}
use Rattle.motion_search.proofs.quarters.best_of_nine.Goals as goal
use Rattle.motion_search.proofs.quarters.best_of_nine.Goals.{then-sad-least, else-sad-least}

pub loop-turn-init : goal.loop-turn-init
loop-turn-init c = round_begun (costs_by c.args.source.now c.args.reference.now c.args.halves c.args.block) c.args.centre c.args.step _ _ c.vector_at-best.ensures c.quarter_difference-least.ensures

pub quarter_difference-sad-requires-clause-short : goal.quarter_difference-sad-requires-clause-short
quarter_difference-sad-requires-clause-short c =
    subst (λ (v : Vector). IsWithin 131 v) (sym c.vector_at-v.ensures)
    (turned_within c.requires.centre.0 131 c.args.step c.loop-turn.turn c.args.centre (omega arith) c.requires.centre.1 c.requires.centre.2)

pub loop-turn-preserved : goal.loop-turn-preserved
loop-turn-preserved c =
    elim c.if-sad-least.branch [
      | then-sad-least w ↦ rw (w.best-is, w.least-is)
          (round_moved (costs_by c.args.source.now c.args.reference.now c.args.halves c.args.block) c.args.centre c.args.step c.loop-turn.turn c.loop-turn.best c.loop-turn.least _ _ c.loop-turn.invariant c.vector_at-v.ensures c.quarter_difference-sad.ensures w.if-sad-least.true)
      | else-sad-least w ↦ rw (w.best-is, w.least-is)
          (round_kept (costs_by c.args.source.now c.args.reference.now c.args.halves c.args.block) c.args.centre c.args.step c.loop-turn.turn c.loop-turn.best c.loop-turn.least _ _ c.loop-turn.invariant c.vector_at-v.ensures c.quarter_difference-sad.ensures w.if-sad-least.false)
    ]
