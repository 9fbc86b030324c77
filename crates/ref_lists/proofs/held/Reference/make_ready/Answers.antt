use Rattle.std.proofs.Common.{◌∙◌, ap, sym}
use Rattle.spec_film.specs.Films.{Planes}
use Rattle.spec_lists.specs.References.{Reference as Shown}
use Rattle.ref_lists.specs.Held.{natural}
use Rattle.ref_lists.proofs.held.Reference.make_ready.Goals as goal

pub fill_halves-requires-clause-sizes : goal.fill_halves-requires-clause-sizes
fill_halves-requires-clause-sizes c =
    let shape = c.pad_edges.ensures.shape.0 in
    let old = c.requires.halves in record {
      b = (old.b.0 ∙ sym shape.0, old.b.1 ∙ sym shape.1, old.b.2 ∙ sym shape.2);
      h = (old.h.0 ∙ sym shape.0, old.h.1 ∙ sym shape.1, old.h.2 ∙ sym shape.2);
      j = (old.j.0 ∙ sym shape.0, old.j.1 ∙ sym shape.1, old.j.2 ∙ sym shape.2);
    }

pub returns-clause-made : goal.returns-clause-made
returns-clause-made c width height old =
    let shape = c.pad_edges.ensures.shape in record {
      luma = (shape.0.0 ∙ old.luma.0, shape.0.1 ∙ old.luma.1, shape.0.2 ∙ old.luma.2);
      cb = (shape.1.0 ∙ old.cb.0, shape.1.1 ∙ old.cb.1, shape.1.2 ∙ old.cb.2);
      cr = (shape.2.0 ∙ old.cr.0, shape.2.1 ∙ old.cr.1, shape.2.2 ∙ old.cr.2);
      sums = c.fill.ensures.shape;
      halves = c.fill_halves.ensures.sizes;
      records = old.records;
    }

pub returns-clause-seen : goal.returns-clause-seen
returns-clause-seen c =
    let old = c.args.self.now in
    ap (λ (p : Planes). let r : Shown = record { planes = p; motion = old.records.items; poc = natural old.poc; frame_num = old.frame_num } in r) c.pad_edges.ensures.samples
