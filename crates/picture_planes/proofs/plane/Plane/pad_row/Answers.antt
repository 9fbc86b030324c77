use Rattle.std.proofs.Common.{arith, refl, sym, ◌∙◌, ℕ, List, ◌+◌, ◌-◌, ◌++◌, ◌≡◌, ◌*◌, length, drop}
use borrow.Rule.Slice.PartMut.{put_mid}
use Rattle.picture_planes.specs.Edges.{with_sides}
use Rattle.picture_planes.specs.Margins.{buffer_row}
use Rattle.picture_planes.proofs.PaddedLemmas.{one_row}
use Rattle.picture_planes.proofs.Sides.{sides, sides_length, long, made}
use Rattle.std.proofs.lemmas.Grind.{common_steps}
use Rattle.picture_planes.proofs.plane.Plane.pad_row.Goals as goal

pub returns : goal.returns
returns c =
    let p = c.args.self.now in
    let r : List ℕ = c.buffer_row_mut-samples.result.now in
    let A : List ℕ = c.fill.new.self in
    let B : List ℕ = c.fill-2.new.self in
    let e : length r ≡ p.width + 2 * p.pad = c.buffer_row_mut-samples.ensures.len in
    let a : length A ≡ p.pad = grind (arith, common_steps, c.fill.ensures.len, e) in
    let b : length B ≡ p.pad = grind (arith, common_steps, c.fill-2.ensures.len, long p.pad p.width r A B e a) in
    let o = one_row p c.args.row (put_mid (p.pad + p.width) (length (A ++ drop p.pad r) - (p.pad + p.width)) (A ++ drop p.pad r) B) c.requires (sides_length p.pad p.width r A B e a b) in
    let is : put_mid (p.pad + p.width) (length (A ++ drop p.pad r) - (p.pad + p.width)) (A ++ drop p.pad r) B ≡ with_sides p.pad p.width (buffer_row p c.args.row) = sides p.pad p.width r A B e a b ∙ made p.pad p.width r (buffer_row p c.args.row) A B _ _ _ _ c.buffer_row_mut-samples.ensures.value (c.fill.ensures.after (λ _ q. q)) (sym c.fill.ensures.len ∙ a) (c.fill-2.ensures.after (λ _ q. q)) (sym c.fill-2.ensures.len ∙ b) refl refl in
    record { shape = o.shape; written = o.written ∙ is; others = o.others }
