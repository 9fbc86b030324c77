use Rattle.std.proofs.Common.{◌≡◌, ◌<◌, ℕ, ℤ, Bool, List, length, arith, ap, ◌∙◌}
use Rattle.spec_residual.specs.declared.BlockKind.TheVariants.{Luma4}
use Rattle.spec_residual.specs.Blocks.{item}
use Rattle.spec_residual.specs.Rescaled.{rescaled}
use Rattle.spec_residual.proofs.Listed.{is_listed}
use Rattle.tool_time.specs.Through.{remade, all_remade}
use Rattle.tool_time.proofs.blocks.all_remade4.Goals as goal

value : (intra : Bool) (qp : ℕ) (cs out : List ℤ) → length out ≡ 16 → ((k : ℕ) → k < 16 → item out k ≡ remade Luma4 intra qp k (item cs k)) → out ≡ all_remade 16 Luma4 intra qp cs
unfolding all_remade
value intra qp cs out long done = is_listed 16 (λ p. remade Luma4 intra qp p (item cs p)) out long done

pub rescale4-requires-clause-size : goal.rescale4-requires-clause-size
rescale4-requires-clause-size c = c.levels4.ensures.small c.requires.of_kind

pub returns-clause-value : goal.returns-clause-value
returns-clause-value c =
    value c.args.intra c.args.qp c.args.c.now c.rescale4.result (omega arith) (λ k h. c.rescale4.ensures.luma k h ∙ ap (λ (z : ℤ). rescaled Luma4 c.args.qp k z) (c.levels4.ensures.value k h))

pub returns-clause-small : goal.returns-clause-small
returns-clause-small c =
    c.rescale4.ensures.small c.args.intra (λ p h. record { coefficient = item c.args.c.now p; small = c.requires.of_kind p h; made = c.levels4.ensures.value p h })
