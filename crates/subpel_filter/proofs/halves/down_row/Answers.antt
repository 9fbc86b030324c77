use Rattle.std.proofs.Common.{◌≡◌, ◌+◌, ◌∙◌, ℕ, List, subst, ap, sym, arith}
use Rattle.picture_planes.specs.declared.plane.Plane.{Plane}
use Rattle.picture_planes.specs.Margins.{buffer_width, buffer_height, inward, with_buffer_row, IsWindow}
use Rattle.spec_inter.specs.Halves.{halves_of}
use Rattle.subpel_filter.specs.Rows.{ended}
use Rattle.subpel_filter.specs.Halves.{samples_at, RowMade}
use Rattle.subpel_filter.proofs.Planing.{Six, row_back, row_made, down_is, wide_same, high_same, own_row}
use Rattle.subpel_filter.proofs.halves.down_row.Goals as goal

pub returns : goal.returns
returns c =
    let p : Plane = c.args.plane.now in
    let q : Plane = c.args.out.now in
    let r : ℕ = c.args.row in
    let w : List ℕ = c.halves_below.new.out in
    let f : ℕ → ℕ = λ i. (halves_of (samples_at p)).h (inward p i) (inward p r) in
    let wide = wide_same p q c.requires.shape in
    let high = high_same p q c.requires.shape in
    let place = row_back q r p.pad c.inner_row.result c.inner_row.ensures c.requires.shape.2 (omega (arith, c.requires.row, p.size)) (omega (arith, p.size)) in
    let six : Six p c.requires.filled r c.window-a.result.now c.window-b.result.now c.window-c.result.now c.window-d.result.now c.window-e.result.now c.window-f.result.now = record {
      s0 = subst (λ (k : ℕ). IsWindow p 0 k (buffer_width p) c.window-a.result.now) c.near_row.ensures.value c.window-a.ensures.value;
      s1 = subst (λ (k : ℕ). IsWindow p 0 k (buffer_width p) c.window-b.result.now) c.near_row-2.ensures.value c.window-b.ensures.value;
      s2 = subst (λ (k : ℕ). IsWindow p 0 k (buffer_width p) c.window-c.result.now) (sym (own_row r (buffer_height p) c.requires.row)) c.window-c.ensures.value;
      s3 = subst (λ (k : ℕ). IsWindow p 0 k (buffer_width p) c.window-d.result.now) c.near_row-3.ensures.value c.window-d.ensures.value;
      s4 = subst (λ (k : ℕ). IsWindow p 0 k (buffer_width p) c.window-e.result.now) c.near_row-4.ensures.value c.window-e.ensures.value;
      s5 = subst (λ (k : ℕ). IsWindow p 0 k (buffer_width p) c.window-f.result.now) c.near_row-5.ensures.value c.window-f.ensures.value;
    } in
    subst (λ (n : ℕ). RowMade f r q (with_buffer_row q n w)) (sym place)
    (row_made f r w q (omega (arith, high, c.requires.row)) (omega (arith, c.padded_row_mut-made.ensures.len))
    (λ i h. c.halves_below.ensures i (omega (arith, c.padded_row_mut-made.ensures.len, h)) ∙ down_is p c.requires.filled r _ _ _ _ _ _ six i (omega (arith, wide, h))))
