use Rattle.std.proofs.Common.{◌≡◌, ◌*◌, vec_len}
use Rattle.std.specs.List.{All}
use Rattle.plan_workers.specs.Pools.{FitsRows, room_of}
use Rattle.plan_workers.proofs.memory.make_pools.Given as goal

abbrev pub invariant-loop : goal.invariant-loop
invariant-loop l = record {
  long : vec_len l.pools ≡ l.counter;
  fit : All (FitsRows l.across) l.pools.items;
  room : room_of l.pools.items ≡ l.counter * l.count;
}
