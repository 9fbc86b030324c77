-- What rows are planned from, in the words of the definitions.
use Rattle.std.specs.Prelude.{ℕ, length, ◌≡◌, ◌≤◌, ◌<◌, ◌*◌, ◌/◌, ◌%◌}
use Rattle.block_sums.specs.Tables.{IsTableOf}
use Rattle.picture_planes.specs.Pictures.{planes_of}
use Rattle.ref_lists.specs.Entries.{ArePlaces}
use Rattle.ref_lists.specs.Held.{AreHeld}
use Rattle.spec_inter_plans.specs.InterPlans.{Search, row_compared}
use Rattle.spec_partitions.specs.InRange.{HasEntries}
use Rattle.mode_choice.specs.Given.{search_of, used}
use Rattle.plan_workers.specs.declared.task.PlanTask.{PlanTask}

-- macroblocks in a row
abbrev pub across_in : PlanTask → ℕ
across_in t = t.source.now.y.width / 16

abbrev pub search_in : PlanTask → Search
search_in t = search_of (across_in t) t.lists.now (planes_of t.source.now) t.range

-- how many vectors are compared for the plans of a row
abbrev pub compared_in : PlanTask → ℕ → ℕ
compared_in t row = row_compared (used t.kind (search_in t)) row

-- its source and references have one size, in whole macroblocks, the references are ready, and the lists have the entries of its kind
pub record IsTask (t : PlanTask) : Type 0 where
  pub some : 0 < t.slices
  pub few : t.slices ≤ t.down
  pub down_fits : t.down ≤ 144
  pub width : t.source.now.y.width % 16 ≡ 0
  pub height : t.source.now.y.height ≡ 16 * t.down
  pub entries : HasEntries t.kind (length t.lists.now.list0.items) (length t.lists.now.list1.items)
  pub inside : ArePlaces (length t.lists.now.held.now) t.lists.now.list0.items × ArePlaces (length t.lists.now.held.now) t.lists.now.list1.items
  pub held : AreHeld t.source.now.y.width t.source.now.y.height t.lists.now.held.now
  pub sums_are : IsTableOf t.sums.now t.source.now.y
  pub range_fits : (1 ≤ t.range) × (t.range ≤ 32)
