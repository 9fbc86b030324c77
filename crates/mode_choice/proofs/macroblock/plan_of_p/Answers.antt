use Rattle.std.proofs.Common.{ℕ, List, ap, sym, ◌∙◌}
use Rattle.spec_film.specs.Films.{Planes}
use Rattle.enc_tables.specs.declared.records.SliceKind.{SliceKind}
use Rattle.spec_reconstruction.specs.Inter.{Sources}
use Rattle.mode_choice.specs.Given.{pictures_at, used}
use Rattle.mode_choice.proofs.Parting.{p_parts, p_compared}
use Rattle.mode_choice.proofs.macroblock.plan_of_p.Goals as goal

pub returns-clause-parts : goal.returns-clause-parts
returns-clause-parts g c s h e is =
    let list : List Planes = pictures_at c.args.lists.now.held.now c.as_slice-list0.result.now in
    let same = ap (λ (t : Sources). t.list0) is ∙ ap (λ (ks : List ℕ). pictures_at c.args.lists.now.held.now ks) (sym c.as_slice-list0.ensures.value) in
    p_parts s c.args.x c.args.y list _ c.best_of_list-best.result.entries same c.parts_of_first-parts.ensures.long (c.best_of_list-best.ensures.best s h e) c.parts_of_first-parts.ensures.value

pub returns-clause-compared : goal.returns-clause-compared
returns-clause-compared g c s h e is =
    let list : List Planes = pictures_at c.args.lists.now.held.now c.as_slice-list0.result.now in
    let same = ap (λ (t : Sources). t.list0) is ∙ ap (λ (ks : List ℕ). pictures_at c.args.lists.now.held.now ks) (sym c.as_slice-list0.ensures.value) in
    p_compared s c.args.x c.args.y _ list same (c.best_of_list-best.ensures.compared (used SliceKind.P s) (record { width = h.width; luma = h.luma }) e)
