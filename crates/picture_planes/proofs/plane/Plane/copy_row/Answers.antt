use Rattle.std.proofs.Common.{arith, refl, ◌∙◌, ℕ, ◌+◌, ◌*◌, ◌-◌, ◌≡◌, length}
use Rattle.std.proofs.lemmas.Grind.{common_steps}
use Rattle.picture_planes.specs.Margins.{buffer_row, buffer_width}
use Rattle.picture_planes.proofs.PaddedLemmas.{one_row_of, pasted, row_fits}
use Rattle.picture_planes.proofs.plane.Plane.copy_row.Goals as goal

pub returns : goal.returns
returns c =
    let p = c.args.self.now in
    let s : ℕ = buffer_width p in
    let i : ℕ = c.args.from * s in
    let fits = row_fits p c.args.from c.requires.0 in
    let n : i + s - i ≡ s = omega arith in
    let wide : length (buffer_row p c.args.from) ≡ s = grind (arith, common_steps, fits, n) in
    one_row_of p _ c.args.to (buffer_row p c.args.from) c.requires.1 wide (refl, refl, refl)
    (c.copy_within.ensures.items ∙ pasted p.bytes.items (c.args.to * s) i (i + s - i) (i + s - i) (omega (arith, fits, n)) refl)
