use Rattle.std.proofs.Common.{◌≡◌, arith, ap, refl}
use Rattle.subpel_filter.specs.Near.{position_at, whole_at, quarter_at}
use Rattle.spec_inter.specs.Luma.{first_of, second_of}
use Rattle.subpel_filter.proofs.Written.{mean_same, block_same, none_across}
use Rattle.subpel_filter.proofs.Even.{even_pair}
use Rattle.subpel_filter.proofs.fractions.quarter_block.Goals as goal

pub returns-then-y-eq0 : goal.returns-then-y-eq0
returns-then-y-eq0 g c =
    let p = c.args.plane.now in
    block_same (whole_at p 2 2 c.args.column c.args.row) (quarter_at p c.args.x c.args.y c.args.column c.args.row) g.row.W g.row.W c.args.h c.whole_block.new.out c.whole_block.ensures refl
    (λ i j a b. none_across p c.args.x c.args.y c.args.column c.args.row i j c.if-x-eq0.true c.if-y-eq0.true)

pub returns-then-y-eq0-2 : goal.returns-then-y-eq0-2
unfolding quarter_at position_at
returns-then-y-eq0-2 g c =
    let p = c.args.plane.now in
    let first = first_of c.args.x c.args.y in
    let second = second_of c.args.x c.args.y in
    let same : first ≡ second = even_pair c.args.x c.args.y c.requires.fraction.0 c.requires.fraction.1 (omega (arith, c.if-x-eq0-2.true)) (omega (arith, c.if-y-eq0-2.true)) in
    mean_same (position_at p first c.args.column c.args.row) (position_at p second c.args.column c.args.row) g.row.W c.args.h c.position_block.new.out
    (rw c.first_of.ensures at c.position_block.ensures)
    (λ i j. ap (λ t. position_at p t c.args.column c.args.row i j) same)
