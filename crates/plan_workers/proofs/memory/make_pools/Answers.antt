use Rattle.std.proofs.Common.{◌≡◌, ◌∙◌, ◌+◌, ◌*◌, List, [], ◌∷◌, ◌++◌, vec_len, sym, ap, subst, arith}
use Rattle.std.specs.List.{All}
use Rattle.std.proofs.lemmas.List.Elements.{All-append, All-cons, All-nil}
use Rattle.plan_workers.specs.declared.pool.Pool.{Pool}
use Rattle.plan_workers.specs.Pools.{FitsRows, room_of}
use Rattle.plan_workers.proofs.Making.{room_next}
use Rattle.plan_workers.proofs.memory.make_pools.Goals as goal

pub loop-preserved : goal.loop-preserved
loop-preserved c =
    let pool : Pool = c.in_ok-pool.pool in
    let pushed = c.in_ok-push.ensures.items in
    record {
      long = let more = c.in_ok-push.ensures.len in let before = c.loop.invariant.long in omega (arith, more, before);
      fit =
          subst (λ (pools : List Pool). All (FitsRows c.args.across) pools) (sym pushed)
          (All-append (FitsRows c.args.across) c.loop.pools.items (pool ∷ []) c.loop.invariant.fit (All-cons (FitsRows c.args.across) pool [] c.in_ok-pool.ensures.fits (All-nil (FitsRows c.args.across))));
      room = ap (λ (pools : List Pool). room_of pools) pushed ∙ room_next c.loop.pools.items pool c.loop.counter (2 * c.div_ceil.result + 1) c.loop.invariant.room c.in_ok-pool.ensures.count;
    }
