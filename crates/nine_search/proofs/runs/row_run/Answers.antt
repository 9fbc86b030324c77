use Rattle.std.proofs.Common.{◌+◌, ◌-◌, ◌∙◌, arith, refl}
use Rattle.nine_search.specs.Runs.{spot_of}
use Rattle.nine_search.proofs.Following.{four_sums, sum_moved}
use Rattle.nine_search.proofs.runs.row_run.Goals as goal

pub loaded-first-requires : goal.loaded-first-requires
loaded-first-requires c =
    let a = c.requires.inside.across in
    let d = c.requires.inside.down in
    let m = c.requires.margin in
    let n = c.requires.near in
    let r = n.ring in
    let u = n.column in
    let v = n.row in
    let l = c.sums_from.ensures.len 16 1 (omega arith) (omega arith) (omega arith) in
    omega arith

pub loaded-right-requires : goal.loaded-right-requires
loaded-right-requires c =
    let a = c.requires.inside.across in
    let d = c.requires.inside.down in
    let m = c.requires.margin in
    let n = c.requires.near in
    let r = n.ring in
    let u = n.column in
    let v = n.row in
    let l = c.sums_from-2.ensures.len 16 1 (omega arith) (omega arith) (omega arith) in
    omega arith

pub loaded-below-requires : goal.loaded-below-requires
loaded-below-requires c =
    let a = c.requires.inside.across in
    let d = c.requires.inside.down in
    let m = c.requires.margin in
    let n = c.requires.near in
    let r = n.ring in
    let u = n.column in
    let v = n.row in
    let l = c.sums_from-3.ensures.len 16 1 (omega arith) (omega arith) (omega arith) in
    omega arith

pub loaded-last-requires : goal.loaded-last-requires
loaded-last-requires c =
    let a = c.requires.inside.across in
    let d = c.requires.inside.down in
    let m = c.requires.margin in
    let n = c.requires.near in
    let r = n.ring in
    let u = n.column in
    let v = n.row in
    let l = c.sums_from-4.ensures.len 16 1 (omega arith) (omega arith) (omega arith) in
    omega arith

pub returns-clause-sums : goal.returns-clause-sums
unfolding spot_of
returns-clause-sums c =
    let n = c.requires.near in
    let m = c.requires.margin in
    let k = c.requires.count.0 in
    let t = c.args.sums.now in
    let column = c.args.x + t.pad + c.args.spot.column - c.args.spot.ring in
    let row = c.args.y + t.pad + c.args.spot.row - c.args.spot.ring in
    four_sums t c.args.x c.args.y _ (λ i. column + i) (λ i. row)
    (λ i p. (let r = n.ring in omega arith)) (λ i p. refl)
    (λ i p. c.loaded-first.ensures.value i (omega arith) ∙ c.sums_from.ensures.value i)
    (λ i p. c.loaded-right.ensures.value i (omega arith) ∙ c.sums_from-2.ensures.value i ∙ sum_moved t (column + 8 + i) (column + i + 8) row row (omega arith) refl)
    (λ i p. c.loaded-below.ensures.value i (omega arith) ∙ c.sums_from-3.ensures.value i)
    (λ i p. c.loaded-last.ensures.value i (omega arith) ∙ c.sums_from-4.ensures.value i ∙ sum_moved t (column + 8 + i) (column + i + 8) (row + 8) (row + 8) (omega arith) refl)
