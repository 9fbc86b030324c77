use Rattle.std.proofs.Common.{◌≡◌, ◌+◌, ◌∙◌, ◌<◌, ◌≤◌, ℕ, List, get_or, subst, ap, sym, arith}
use Rattle.picture_planes.specs.declared.plane.Plane.{Plane}
use Rattle.picture_planes.specs.Margins.{buffer_width, buffer_height, inward, with_buffer_row, IsWindow}
use Rattle.spec_inter.specs.Halves.{halves_of}
use Rattle.subpel_filter.specs.Rows.{ended, RawDown}
use Rattle.subpel_filter.specs.Halves.{samples_at, RowMade}
use Rattle.subpel_filter.proofs.Planing.{Six, row_back, row_made, middle_is, wide_same, high_same, own_row, line_item}
use Rattle.subpel_filter.proofs.halves.middle_row.Goals as goal

pub middles_along-requires-clause-small : goal.middles_along-requires-clause-small
middles_along-requires-clause-small c = λ i h.
    let W : ℕ = buffer_width c.args.plane.now in
    let lt : i < W + 5 = omega (arith, h) in
    let e = line_item c.args.line.now c.raws_below.new.out c.ends_copied.new.line _ W i (omega arith) (omega (arith, c.args.plane.now.size)) (omega (arith, c.args.plane.now.size)) lt c.ends_copied.auto.line c.ends_copied.ensures in
    subst (λ (v : ℕ). v ≤ 13260) (sym e) (c.raws_below.ensures (ended W i) (omega (arith, c.args.plane.now.size))).most

pub returns : goal.returns
returns c =
    let p : Plane = c.args.plane.now in
    let q : Plane = c.args.out.now in
    let r : ℕ = c.args.row in
    let W : ℕ = buffer_width p in
    let w : List ℕ = c.middles_along.new.out in
    let f : ℕ → ℕ = λ i. (halves_of (samples_at p)).j (inward p i) (inward p r) in
    let wide = wide_same p q c.requires.shape in
    let high = high_same p q c.requires.shape in
    let place = row_back q r p.pad c.inner_row.result c.inner_row.ensures c.requires.shape.2 (omega (arith, c.requires.row, p.size)) (omega (arith, p.size)) in
    let six : Six p c.requires.filled r c.window-a.result.now c.window-b.result.now c.window-c.result.now c.window-d.result.now c.window-e.result.now c.window-f.result.now = record {
      s0 = subst (λ (k : ℕ). IsWindow p 0 k (buffer_width p) c.window-a.result.now) c.near_row.ensures.value c.window-a.ensures.value;
      s1 = subst (λ (k : ℕ). IsWindow p 0 k (buffer_width p) c.window-b.result.now) c.near_row-2.ensures.value c.window-b.ensures.value;
      s2 = subst (λ (k : ℕ). IsWindow p 0 k (buffer_width p) c.window-c.result.now) (sym (own_row r (buffer_height p) c.requires.row)) c.window-c.ensures.value;
      s3 = subst (λ (k : ℕ). IsWindow p 0 k (buffer_width p) c.window-d.result.now) c.near_row-3.ensures.value c.window-d.ensures.value;
      s4 = subst (λ (k : ℕ). IsWindow p 0 k (buffer_width p) c.window-e.result.now) c.near_row-4.ensures.value c.window-e.ensures.value;
      s5 = subst (λ (k : ℕ). IsWindow p 0 k (buffer_width p) c.window-f.result.now) c.near_row-5.ensures.value c.window-f.ensures.value;
    } in
    let raw = λ (i : ℕ) (lt : i < W + 5).
    (let e = line_item c.args.line.now c.raws_below.new.out c.ends_copied.new.line _ W i (omega arith) (omega (arith, p.size)) (omega (arith, p.size)) lt c.ends_copied.auto.line c.ends_copied.ensures in
    subst (λ (v : ℕ). RawDown c.window-a.result.now c.window-b.result.now c.window-c.result.now c.window-d.result.now c.window-e.result.now c.window-f.result.now (ended W i) v) (sym e) (c.raws_below.ensures (ended W i) (omega (arith, p.size)))) in
    subst (λ (n : ℕ). RowMade f r q (with_buffer_row q n w)) (sym place)
    (row_made f r w q (omega (arith, high, c.requires.row)) (omega (arith, c.padded_row_mut.ensures.len))
    (λ i h. c.middles_along.ensures i (omega (arith, c.padded_row_mut.ensures.len, h)) ∙ middle_is p c.requires.filled r _ _ _ _ _ _ _ six raw i (omega (arith, wide, h))))
