use Rattle.std.proofs.Common.{◌≡◌, ℕ, List, length, sym, ap, ◌∙◌, arith}
use Rattle.std.specs.List.{sum_by}
use Rattle.spec_film.specs.Films.{Planes}
use Rattle.nine_search.specs.NineRefined.{vector_at, cost_at}
use Rattle.nine_search.specs.Partitions.{partition_block}
use Rattle.picture_planes.specs.Pictures.{planes_of}
use Rattle.spec_inter_plans.specs.InterPlans.{nine_compared}
use Rattle.mode_choice.specs.Given.{pictures_at}
use Rattle.mode_choice.specs.Entries.{entry_at}
use Rattle.mode_choice.proofs.Naming.{long}
use Rattle.mode_choice.proofs.Listing.{listed_is, best_more, best_last, is_entry, entry_more, sum_first, sum_next, take_all}
use Rattle.mode_choice.proofs.entries.best_of_list.Goals as goal

pub loop-number-init : goal.loop-number-init
loop-number-init g c =
    let list : List Planes = pictures_at c.args.held.now c.args.places.now in
    let all = long c.args.held.now c.args.places.now c.requires.inside in
    let some = c.requires.some in
    let few = c.find_in-first.ensures.counted in
    let p = planes_of c.reference_at-nearest.result.now.picture in
    let r = c.find_in-first.result.0 in
    let es = c.entries_of-entries in
    record {
      best = λ s h e k lt. listed_is s (partition_block c.args.x c.args.y k) list 0 p (entry_at es.result k) (vector_at r k) (cost_at r k) c.reference_at-nearest.ensures.planes (c.find_in-first.ensures.found s h e k lt)
          (es.ensures.number k lt) (es.ensures.vector k lt) (es.ensures.cost k lt);
      compared = λ s h e. sum_first (nine_compared s c.args.x c.args.y) list p _ (omega (arith, all, some)) c.reference_at-nearest.ensures.planes (c.find_in-first.ensures.compared s h e);
      counted = c.find_in-first.ensures.counted;
      most = omega arith;
      entries = λ k lt. is_entry 0 (entry_at es.result k) (vector_at r k) (cost_at r k) (es.ensures.number k lt) (es.ensures.vector k lt) (es.ensures.cost k lt) (c.find_in-first.ensures.short k lt) (c.find_in-first.ensures.small k lt) (omega arith);
    }

pub loop-number-preserved : goal.loop-number-preserved
loop-number-preserved g c =
    let list : List Planes = pictures_at c.args.held.now c.args.places.now in
    let all = long c.args.held.now c.args.places.now c.requires.inside in
    let test = c.loop-number-test.true in
    let n : ℕ = c.loop-number.number in
    let i = c.loop-number.invariant in
    let old = i.counted in
    let more = c.find_in-next.ensures.counted in
    let most = i.most in
    let p = planes_of c.reference_at-reference.result.now.picture in
    let r = c.find_in-next.result.0 in
    let es = c.entries_of-others in
    let few = c.requires.few in
    record {
      best = λ s h e k lt. best_more s (partition_block c.args.x c.args.y k) list n (entry_at c.loop-number.entries k) (entry_at es.result k) (entry_at c.lesser_entries-entries.result k) (omega arith) (i.best s h e k lt)
          (listed_is s (partition_block c.args.x c.args.y k) list n p (entry_at es.result k) (vector_at r k) (cost_at r k) c.reference_at-reference.ensures.planes (c.find_in-next.ensures.found s h e k lt)
          (es.ensures.number k lt) (es.ensures.vector k lt) (es.ensures.cost k lt))
          (c.lesser_entries-entries.ensures k lt);
      compared = λ s h e. sum_next (nine_compared s c.args.x c.args.y) list n p _ _ (omega (arith, all, test)) c.reference_at-reference.ensures.planes (i.compared s h e) (c.find_in-next.ensures.compared s h e);
      counted = omega (arith, old, more);
      most = omega arith;
      entries = λ k lt. entry_more n (entry_at c.loop-number.entries k) (entry_at es.result k) (entry_at c.lesser_entries-entries.result k) (i.entries k lt)
          (is_entry n (entry_at es.result k) (vector_at r k) (cost_at r k) (es.ensures.number k lt) (es.ensures.vector k lt) (es.ensures.cost k lt) (c.find_in-next.ensures.short k lt) (c.find_in-next.ensures.small k lt) (omega (arith, test, few)))
          (c.lesser_entries-entries.ensures k lt);
    }

pub returns-clause-best : goal.returns-clause-best
returns-clause-best g c s h e k lt =
    let list : List Planes = pictures_at c.args.held.now c.args.places.now in
    let all = long c.args.held.now c.args.places.now c.requires.inside in
    let end : c.loop-number.number ≡ length c.args.places.now = omega (arith, c.loop-number-test.false, c.loop-number.auto.number-end) in
    c.loop-number.invariant.best s h e k lt ∙ best_last s (partition_block c.args.x c.args.y k) list c.loop-number.number (end ∙ sym all)

pub returns-clause-compared : goal.returns-clause-compared
returns-clause-compared g c s h e =
    let list : List Planes = pictures_at c.args.held.now c.args.places.now in
    let all = long c.args.held.now c.args.places.now c.requires.inside in
    let end : c.loop-number.number ≡ length c.args.places.now = omega (arith, c.loop-number-test.false, c.loop-number.auto.number-end) in
    c.loop-number.invariant.compared s h e ∙ ap (sum_by (nine_compared s c.args.x c.args.y)) (take_all list c.loop-number.number (end ∙ sym all))

pub find_in-first-requires-clause-made : goal.find_in-first-requires-clause-made
find_in-first-requires-clause-made g c = c.reference_at-nearest.ensures.made _ _ c.requires.held

pub find_in-first-requires-clause-ready : goal.find_in-first-requires-clause-ready
find_in-first-requires-clause-ready g c = c.reference_at-nearest.ensures.ready _ _ c.requires.held

pub find_in-next-requires-clause-made : goal.find_in-next-requires-clause-made
find_in-next-requires-clause-made g c = c.reference_at-reference.ensures.made _ _ c.requires.held

pub find_in-next-requires-clause-ready : goal.find_in-next-requires-clause-ready
find_in-next-requires-clause-ready g c = c.reference_at-reference.ensures.ready _ _ c.requires.held
