use Rattle.std.proofs.Common.{rules, refl}
use Rattle.spec_partitions.specs.InRange.{HasEntries}
use Rattle.plan_workers.proofs.tests.a_free_thread_takes_the_next_row.Goals as goal

-- src/tests.rt:73:20
pub plan_by_workers-compared-requires-clause-task : goal.plan_by_workers-compared-requires-clause-task
unfolding HasEntries
plan_by_workers-compared-requires-clause-task g c κs = record {
  some = search rules;
  few = search rules;
  down_fits = search rules;
  width = search rules;
  height = search rules;
  entries = record {};
  inside = search rules;
  held = search rules;
  sums_are = search rules;
  range_fits = search rules;
}
