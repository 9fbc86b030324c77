use Rattle.std.proofs.Common.{◌≡◌, ◌+◌, ◌∙◌, ◌<◌, ℕ, List, length, get_or, subst, ap, sym, arith}
use Rattle.picture_planes.specs.declared.plane.Plane.{Plane}
use Rattle.picture_planes.specs.Margins.{buffer_width, inward, with_buffer_row}
use Rattle.spec_inter.specs.Halves.{halves_of}
use Rattle.subpel_filter.specs.Rows.{ended}
use Rattle.subpel_filter.specs.Halves.{samples_at, RowMade}
use Rattle.subpel_filter.proofs.Planing.{row_back, row_made, across_is, wide_same, high_same, front_item}
use Rattle.subpel_filter.proofs.halves.across_row.Goals as goal

pub returns : goal.returns
returns c =
    let p : Plane = c.args.plane.now in
    let q : Plane = c.args.out.now in
    let r : ℕ = c.args.row in
    let w : List ℕ = c.halves_along.new.out in
    let f : ℕ → ℕ = λ i. (halves_of (samples_at p)).b (inward p i) (inward p r) in
    let wide = wide_same p q c.requires.shape in
    let high = high_same p q c.requires.shape in
    let place = row_back q r p.pad c.inner_row.result c.inner_row.ensures c.requires.shape.2 (omega (arith, c.requires.row, p.size)) (omega (arith, p.size)) in
    let wider = λ (i : ℕ) (h : i < buffer_width p + 5).
    front_item c.widened.new.line _ (buffer_width p + 5) i (omega arith) h
    ∙ c.widened.ensures i (omega (arith, h))
    ∙ ap (λ (n : ℕ). get_or c.window.result.now (ended n i) 0) c.window.ensures.len in
    subst (λ (n : ℕ). RowMade f r q (with_buffer_row q n w)) (sym place)
    (row_made f r w q (omega (arith, high, c.requires.row)) (omega (arith, c.padded_row_mut.ensures.len))
    (λ i h. c.halves_along.ensures i (omega (arith, c.padded_row_mut.ensures.len, h)) ∙ across_is p c.requires.filled r c.window.result.now _ c.requires.row c.window.ensures.value wider i (omega (arith, wide, h))))
