use Rattle.std.proofs.Common.{◌≡◌, ◌+◌, ◌*◌, ◌∙◌, ℕ, arith, ap, refl}
use Rattle.picture_planes.specs.Margins.{buffer_at, buffer_width}
use Rattle.motion_search.proofs.Costs.{at_buffer}
use Rattle.nine_search.proofs.nine.lemma_samples.Goals as goal

pub returns : goal.returns
returns c x y p q =
    let s = c.args.plane.now in
    let i = x + s.pad in
    let j = y + s.pad in
    let a = at_buffer s x y i j p refl refl in
    let b = c.rows_from.ensures.value i j (omega arith) (omega arith) in
    let d : 0 + i ≡ i = omega arith in
    let e : 0 + j ≡ j = omega arith in
    let f = c.lemma_bytes.ensures (j * buffer_width s + i) in
    let g = b ∙ ap (λ (k : ℕ). buffer_at s k (0 + j)) d ∙ ap (buffer_at s i) e ∙ a in
    omega arith
