use Rattle.std.proofs.Common.{◌≡◌, ◌∙◌, ◌≤◌, ◌<◌, ◌+◌, ℕ, length, length-set, vec_len, get_or, refl, ap, arith}
use Rattle.std.specs.Prelude.{◌≢◌}
use Rattle.std.proofs.lemmas.List.{get_or-set_other}
use Rattle.std.proofs.lemmas.List.Elements.{All-set}
use Rattle.enc_tables.specs.declared.plans.RowPlan.{RowPlan}
use Rattle.plan_workers.proofs.Moving.{placed_next}
use Rattle.plan_workers.proofs.placing.place_plans.Goals as goal

pub loop-k-preserved : goal.loop-k-preserved
loop-k-preserved c =
    let k : ℕ = c.loop-k.k in
    let blank : RowPlan = c.index-from-k.result in
    let row : ℕ = (get_or c.loop-k.from k blank).row in
    let more : k < c.args.filled = c.loop-k-test.true in
    let inside : k < length c.args.from.now = let room = c.requires.filled in omega (arith, more, room) in
    let here : k < length c.loop-k.from = let long = c.loop-k.invariant.from_long in omega (arith, inside, long) in
    let there : row < length c.loop-k.plans =
    let same = ap (λ (p : RowPlan). p.row) (c.loop-k.invariant.later k blank (omega arith)) in
    let low = c.requires.below k blank more in
    let long = c.loop-k.invariant.plans_long in
    omega (arith, same, low, long) in
    record {
      from_long = length-set c.loop-k.from k c.swap.new.x ∙ c.loop-k.invariant.from_long;
      plans_long = length-set c.loop-k.plans row c.swap.new.y ∙ c.loop-k.invariant.plans_long;
      later = λ j d le.
          let apart : j ≢ k = λ e. omega (arith, e, le) in
          get_or-set_other c.loop-k.from k j c.swap.new.x d apart ∙ c.loop-k.invariant.later j d (omega (arith, le));
      placed = placed_next k row c.args.from.now c.args.plans.now c.loop-k.from c.loop-k.plans blank c.index-from-k-in-loop-k.result c.swap.new.y inside here there c.loop-k.invariant.placed c.loop-k.invariant.later refl c.swap.ensures.y_after;
      wide = λ across from plans.
          let both = c.loop-k.invariant.wide across from plans in (
            All-set (λ (p : RowPlan). vec_len p.mbs ≡ across) c.loop-k.from k c.swap.new.x
                (ap (λ (p : RowPlan). vec_len p.mbs) c.swap.ensures.x_after ∙ both.1 row c.index-plans-row.result there) both.0,
            All-set (λ (p : RowPlan). vec_len p.mbs ≡ across) c.loop-k.plans row c.swap.new.y
                (ap (λ (p : RowPlan). vec_len p.mbs) c.swap.ensures.y_after ∙ both.0 k c.index-from-k-in-loop-k.result here) both.1,
          );
    }
