use Rattle.std.proofs.Common.{ℕ, List, ap, sym, ◌∙◌}
use Rattle.spec_film.specs.Films.{Planes}
use Rattle.spec_reconstruction.specs.Inter.{Sources}
use Rattle.mode_choice.specs.Given.{pictures_at}
use Rattle.mode_choice.proofs.Parting.{b_parts, b_compared}
use Rattle.mode_choice.proofs.macroblock.plan_of_b.Goals as goal

pub returns-clause-parts : goal.returns-clause-parts
returns-clause-parts g c s h e is =
    let list0 : List Planes = pictures_at c.args.lists.now.held.now c.as_slice-list0.result.now in
    let list1 : List Planes = pictures_at c.args.lists.now.held.now c.as_slice-list1.result.now in
    let same0 = ap (λ (t : Sources). t.list0) is ∙ ap (λ (ks : List ℕ). pictures_at c.args.lists.now.held.now ks) (sym c.as_slice-list0.ensures.value) in
    let same1 = ap (λ (t : Sources). t.list1) is ∙ ap (λ (ks : List ℕ). pictures_at c.args.lists.now.held.now ks) (sym c.as_slice-list1.ensures.value) in
    b_parts s c.args.x c.args.y list0 list1 _ c.best_of_list-first.result.entries c.best_of_list-second.result.entries same0 same1 c.parts_of_both-parts.ensures.long
    (c.best_of_list-first.ensures.best s h e) (c.best_of_list-second.ensures.best s h e) (c.parts_of_both-parts.ensures.value s h (ap (λ (t : Sources). t.list0) is) (ap (λ (t : Sources). t.list1) is))

pub returns-clause-compared : goal.returns-clause-compared
returns-clause-compared g c s h e is =
    let list0 : List Planes = pictures_at c.args.lists.now.held.now c.as_slice-list0.result.now in
    let list1 : List Planes = pictures_at c.args.lists.now.held.now c.as_slice-list1.result.now in
    let same0 = ap (λ (t : Sources). t.list0) is ∙ ap (λ (ks : List ℕ). pictures_at c.args.lists.now.held.now ks) (sym c.as_slice-list0.ensures.value) in
    let same1 = ap (λ (t : Sources). t.list1) is ∙ ap (λ (ks : List ℕ). pictures_at c.args.lists.now.held.now ks) (sym c.as_slice-list1.ensures.value) in
    b_compared s c.args.x c.args.y _ _ list0 list1 same0 same1 (c.best_of_list-first.ensures.compared s h e) (c.best_of_list-second.ensures.compared s h e)
