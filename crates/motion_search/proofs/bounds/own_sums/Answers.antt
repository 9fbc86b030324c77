use Rattle.std.proofs.Common.{◌*◌, ◌∙◌, ℕ, arith, refl, eq-eqb}
use Rattle.spec_kernels.specs.Sums.{block_sum, shifted}
use Rattle.spec_search.specs.Window.{own}
use Rattle.picture_planes.specs.Samples.{at}
use Rattle.motion_search.proofs.Parts.{part_own, listed, sixteen, some_part}
use Rattle.motion_search.proofs.bounds.own_sums.Goals as goal

pub returns-clause-value : goal.returns-clause-value
returns-clause-value c p h k l m n =
    let b = c.args.block in
    let wide = c.requires.wide in
    let high = c.requires.high in
    listed c.args.block (λ (k : ℕ) (l : ℕ). block_sum (shifted (own (at p) c.args.block) (8 * k) (8 * l)) 8 8) _ _ _ _ wide high
    (c.sum_from-first.ensures.value ∙ part_own c.args.sums.now p c.args.block 0 0 _ _ h c.requires (some_part c.args.block.w wide) (some_part c.args.block.h high) (omega arith) (omega arith))
    (λ x. c.sum_where-right.ensures.value (eq-eqb c.args.block.w 16 (sixteen c.args.block.w wide x))
    ∙ part_own c.args.sums.now p c.args.block 1 0 _ _ h c.requires x (some_part c.args.block.h high) (omega arith) (omega arith))
    (λ y. c.sum_where-below.ensures.value (eq-eqb c.args.block.h 16 (sixteen c.args.block.h high y))
    ∙ part_own c.args.sums.now p c.args.block 0 1 _ _ h c.requires (some_part c.args.block.w wide) y (omega arith) (omega arith))
    (λ x y. c.sum_where-last.ensures.value (rw (eq-eqb c.args.block.w 16 (sixteen c.args.block.w wide x), eq-eqb c.args.block.h 16 (sixteen c.args.block.h high y)) refl)
    ∙ part_own c.args.sums.now p c.args.block 1 1 _ _ h c.requires x y (omega arith) (omega arith))
    k l m n
