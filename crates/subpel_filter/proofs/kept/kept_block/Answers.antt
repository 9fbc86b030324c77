use Rattle.std.proofs.Common.{◌≡◌, arith, ap, refl}
use Rattle.spec_inter.specs.declared.Position.{Position}
use Rattle.spec_inter.specs.Luma.{first_of, second_of}
use Rattle.subpel_filter.specs.Near.{whole_at}
use Rattle.subpel_filter.specs.Halves.{kept_place}
use Rattle.subpel_filter.proofs.Written.{mean_same, block_same}
use Rattle.subpel_filter.proofs.Even.{even_pair}
use Rattle.subpel_filter.proofs.Keeping.{kept_place_is}
use Rattle.subpel_filter.proofs.kept.kept_block.Goals as goal

pub returns-then-y-eq0 : goal.returns-then-y-eq0
returns-then-y-eq0 g c =
    let p = c.args.plane.now in
    let halves = c.args.halves.now in
    let a = c.plane_with-a.result.now in
    let at = c.shift_of-at_a.result in
    let first : Position = first_of c.args.x c.args.y in
    let second : Position = second_of c.args.x c.args.y in
    let same : first ≡ second = even_pair c.args.x c.args.y c.requires.fraction.0 c.requires.fraction.1 (omega (arith, c.if-x-eq0.true)) (omega (arith, c.if-y-eq0.true)) in
    mean_same (kept_place p halves first c.args.column c.args.row) (kept_place p halves second c.args.column c.args.row) g.row.W c.args.h c.whole_block.new.out
    (block_same (whole_at a at.columns at.rows c.args.column c.args.row) (kept_place p halves first c.args.column c.args.row) g.row.W g.row.W c.args.h c.whole_block.new.out c.whole_block.ensures refl
    (λ i j m n. kept_place_is p a halves c.first_of-first.result first at.columns at.rows c.args.column c.args.row i j c.plane_with-a.ensures c.shift_of-at_a.ensures.columns c.shift_of-at_a.ensures.rows c.first_of-first.ensures))
    (λ i j. ap (λ (t : Position). kept_place p halves t c.args.column c.args.row i j) same)
