use Rattle.std.proofs.Common.{◌≡◌, ◌∙◌, ap₂, arith}
use Rattle.spec_inter.specs.Taps.{mean}
use Rattle.subpel_filter.specs.Near.{whole_at}
use Rattle.subpel_filter.proofs.Written.{block_more, whole_row}
use Rattle.subpel_filter.proofs.kept.mean_of_blocks.Goals as goal

pub loop-j-preserved : goal.loop-j-preserved
loop-j-preserved g c =
    let p = c.args.a.now in
    let q = c.args.b.now in
    block_more (λ i j v. v ≡ mean (whole_at p c.args.at_a.columns c.args.at_a.rows c.args.column c.args.row i j) (whole_at q c.args.at_b.columns c.args.at_b.rows c.args.column c.args.row i j)) g.row.W c.args.h 16 c.loop-j.j c.loop-j.out c.copied.new.out c.loop-j.invariant
    c.copied.auto.out (omega arith) (omega arith) (omega arith) (omega arith)
    (λ i h k. c.copied.ensures.value i h ∙ c.means-made.ensures.value i k
    ∙ ap₂ mean (whole_row p c.args.at_a.columns c.args.at_a.rows c.args.column c.args.row g.row.W i c.loop-j.j c.window-first.result.now c.window-first.ensures.value k)
    (whole_row q c.args.at_b.columns c.args.at_b.rows c.args.column c.args.row g.row.W i c.loop-j.j c.window-second.result.now c.window-second.ensures.value k))
