use Rattle.std.proofs.Common.{◌≡◌, ◌+◌, ◌*◌, ◌∙◌, ℕ, List, ap, arith, length, get_or, subst}
use Rattle.spec_inter.specs.Blocks.{RowsHold}
use Rattle.subpel_filter.specs.Near.{whole_at}
use Rattle.subpel_filter.proofs.Written.{block_four, whole_row}
use Rattle.subpel_filter.proofs.blocks.whole_block.Goals as goal

pub loop-q-preserved : goal.loop-q-preserved
loop-q-preserved g c =
    block_four (λ i j v. v ≡ whole_at c.args.plane.now c.args.k c.args.l c.args.column c.args.row i j) g.row.W c.args.h (4 * c.loop-q.q) (4 * (c.loop-q.q + 1)) c.loop-q.out c.copied.new.out c.copied-in-loop-q.new.out c.copied-in-loop-q-2.new.out c.copied-in-loop-q-3.new.out
    c.loop-q.invariant (omega arith) (omega arith) (omega (arith, c.loop-q-test.true)) (omega arith) (omega arith)
    (ap (λ (l : List ℕ). length l) c.copied.ensures.list ∙ c.taken-first.ensures.len)
    (ap (λ (l : List ℕ). length l) c.copied-in-loop-q.ensures.list ∙ c.taken-second.ensures.len)
    (ap (λ (l : List ℕ). length l) c.copied-in-loop-q-2.ensures.list ∙ c.taken-third.ensures.len)
    (ap (λ (l : List ℕ). length l) c.copied-in-loop-q-3.ensures.list ∙ c.taken-fourth.ensures.len)
    (λ i q. ap (λ (l : List ℕ). get_or l i 0) c.copied.ensures.list ∙ c.taken-first.ensures.value i q ∙ whole_row c.args.plane.now c.args.k c.args.l c.args.column c.args.row g.row.W i (4 * c.loop-q.q) c.window.result.now c.window.ensures.value q)
    (λ i q. ap (λ (l : List ℕ). get_or l i 0) c.copied-in-loop-q.ensures.list ∙ c.taken-second.ensures.value i q ∙ whole_row c.args.plane.now c.args.k c.args.l c.args.column c.args.row g.row.W i (4 * c.loop-q.q + 1) c.window-in-loop-q.result.now c.window-in-loop-q.ensures.value q)
    (λ i q. ap (λ (l : List ℕ). get_or l i 0) c.copied-in-loop-q-2.ensures.list ∙ c.taken-third.ensures.value i q ∙ whole_row c.args.plane.now c.args.k c.args.l c.args.column c.args.row g.row.W i (4 * c.loop-q.q + 2) c.window-in-loop-q-2.result.now c.window-in-loop-q-2.ensures.value q)
    (λ i q. ap (λ (l : List ℕ). get_or l i 0) c.copied-in-loop-q-3.ensures.list ∙ c.taken-fourth.ensures.value i q ∙ whole_row c.args.plane.now c.args.k c.args.l c.args.column c.args.row g.row.W i (4 * c.loop-q.q + 3) c.window-in-loop-q-3.result.now c.window-in-loop-q-3.ensures.value q)

pub returns : goal.returns
returns g c =
    let all : 4 * c.loop-q.q ≡ c.args.h = omega (arith, c.loop-q-test.false, c.loop-q.auto.q-end, c.requires.fours) in
    subst (λ (n : ℕ). RowsHold (λ i j v. v ≡ whole_at c.args.plane.now c.args.k c.args.l c.args.column c.args.row i j) g.row.W n c.loop-q.out) all c.loop-q.invariant
