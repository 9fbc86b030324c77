use Rattle.std.proofs.Common.{refl}
use Rattle.std.specs.Prelude.{pos}
use Rattle.std.proofs.lemmas.Simd.{get_or-replicate}
use Rattle.spec_search.specs.Scan.{spot_at}
use Rattle.nine_search.specs.NinePlanes.{sub_costs, sub_bounds}
use Rattle.nine_search.proofs.Stepping.{nine_started, cost_is_of}
use Rattle.nine_search.proofs.nine.nine_begun.Goals as goal

pub returns-clause-known : goal.returns-clause-known
unfolding spot_at
returns-clause-known g c =
    let s = c.args.source.now in
    let r = c.args.reference.now in
    nine_started (sub_costs s r c.args.x c.args.y) (sub_bounds s r c.args.x c.args.y) _
    (λ k p. get_or-replicate 9 k (pos 0) (pos 0) p) (λ k p. get_or-replicate 9 k (pos 0) (pos 0) p)
    (cost_is_of (sub_costs s r c.args.x c.args.y) 0 c.four_differences-parts.result c.nine_sums-sads.result c.four_differences-parts.ensures.value c.nine_sums-sads.ensures)
    refl
