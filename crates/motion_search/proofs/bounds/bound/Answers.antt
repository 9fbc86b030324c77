use Rattle.std.proofs.Common.{◌≡◌, ◌<◌, ◌+◌, ◌-◌, ◌*◌, ◌/◌, ◌∙◌, ℕ, arith, eq-eqb, inl, inr}
use Rattle.spec_kernels.specs.Sums.{shifted, sum_apart}
use Rattle.spec_search.specs.Scan.{dx_of, dy_of}
use Rattle.spec_search.specs.Window.{own, moved, bound_of}
use Rattle.picture_planes.specs.Samples.{at}
use Rattle.picture_planes.specs.Margins.{nearest}
use Rattle.motion_search.proofs.Parts.{part_moved, apart_same, put_together, some_part, second_part}
use Rattle.motion_search.proofs.bounds.bound.Goals as goal

pub returns : goal.returns
unfolding bound_of
returns c s r o h =
    let wide = c.requires.inside.wide in
    let high = c.requires.inside.high in
    let part = λ (k : ℕ) (l : ℕ) (x : k < c.args.block.w / 8) (y : l < c.args.block.h / 8) (q : ℕ) (d : ℕ) (e : q ≡ c.args.block.x + c.args.sums.now.pad + c.args.spot.column - c.args.spot.ring + 8 * k) (f : d ≡ c.args.block.y + c.args.sums.now.pad + c.args.spot.row - c.args.spot.ring + 8 * l).
    part_moved c.args.sums.now r c.args.block c.args.spot k l q d h c.requires.margin c.requires.inside c.requires.near x y e f in
    put_together (λ (k : ℕ) (l : ℕ). sum_apart (shifted (own (at s) c.args.block) (8 * k) (8 * l)) (shifted (moved (nearest r) c.args.block (dx_of c.args.spot) (dy_of c.args.spot)) (8 * k) (8 * l)) 8 8)
    c.args.block.w c.args.block.h _ _ _ _ wide high
    (apart_same _ _ _ _ _ c.abs_diff-first.ensures (o 0 0 (some_part c.args.block.w wide) (some_part c.args.block.h high)) (c.sum_from.ensures.value ∙ part 0 0 (some_part c.args.block.w wide) (some_part c.args.block.h high) _ _ (omega arith) (omega arith)))
    (λ a. (let v = rw (eq-eqb c.args.block.w 16 a) at c.apart_where-right.ensures.value in
    apart_same _ _ _ _ _ v (o 1 0 (second_part c.args.block.w a) (some_part c.args.block.h high)) (part 1 0 (second_part c.args.block.w a) (some_part c.args.block.h high) _ _ (omega arith) (omega arith))))
    (λ a. (let v = rw a at c.apart_where-right.ensures.value in v))
    (λ b. (let v = rw (eq-eqb c.args.block.h 16 b) at c.apart_where-below.ensures.value in
    apart_same _ _ _ _ _ v (o 0 1 (some_part c.args.block.w wide) (second_part c.args.block.h b)) (part 0 1 (some_part c.args.block.w wide) (second_part c.args.block.h b) _ _ (omega arith) (omega arith))))
    (λ b. (let v = rw b at c.apart_where-below.ensures.value in v))
    (λ a b. (let v = rw (eq-eqb c.args.block.w 16 a, eq-eqb c.args.block.h 16 b) at c.apart_where-last.ensures.value in
    apart_same _ _ _ _ _ v (o 1 1 (second_part c.args.block.w a) (second_part c.args.block.h b)) (part 1 1 (second_part c.args.block.w a) (second_part c.args.block.h b) _ _ (omega arith) (omega arith))))
    (λ a. (let v = rw a at c.apart_where-last.ensures.value in v))
    (λ b. elim wide [
      | inl a ↦ (let v = rw a at c.apart_where-last.ensures.value in v)
      | inr a ↦ (let v = rw (eq-eqb c.args.block.w 16 a, b) at c.apart_where-last.ensures.value in v)
    ])
