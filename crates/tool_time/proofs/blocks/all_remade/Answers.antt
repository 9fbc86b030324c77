use Rattle.std.proofs.Common.{◌≡◌, ◌<◌, ℕ, ℤ, Bool, List, length, arith, subst, sym, refl}
use Rattle.spec_residual.specs.declared.BlockKind.{BlockKind}
use Rattle.spec_basics.specs.Bounds.{Within}
use Rattle.spec_residual.specs.Blocks.{item}
use Rattle.spec_residual.specs.Levels.{level_of}
use Rattle.spec_residual.proofs.Bounds.{rescaled_small}
use Rattle.spec_residual.proofs.Listed.{is_listed}
use Rattle.tool_time.specs.Through.{remade, all_remade}
use Rattle.tool_time.proofs.blocks.all_remade.Goals as goal

value : (n : ℕ) (kind : BlockKind) (intra : Bool) (qp : ℕ) (cs out : List ℤ) → length out ≡ n → ((k : ℕ) → k < n → item out k ≡ remade kind intra qp k (item cs k)) → out ≡ all_remade n kind intra qp cs
unfolding all_remade
value n kind intra qp cs out long done = is_listed n (λ p. remade kind intra qp p (item cs p)) out long done

pub returns-clause-value : goal.returns-clause-value
returns-clause-value g c =
    value g.row.N c.args.kind c.args.intra c.args.qp c.args.c.now c.loop-p.out c.loop-p.invariant.long (λ k h. c.loop-p.invariant.done k (omega (arith, c.loop-p-test.false)))

pub returns-clause-small : goal.returns-clause-small
returns-clause-small g c p h =
    let level = level_of c.args.kind c.args.intra c.args.qp p (item c.args.c.now p) in
    subst (λ (z : ℤ). Within 1048576 z) (sym (c.loop-p.invariant.done p (omega (arith, c.loop-p-test.false))))
    (rescaled_small c.args.kind c.args.intra c.args.qp p level c.requires.in_range (record { coefficient = item c.args.c.now p; small = c.requires.of_kind p h; made = refl }))
