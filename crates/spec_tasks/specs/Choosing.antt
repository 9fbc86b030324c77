-- What slices of P and B pictures are coded from: headers, lists, plans.
use Rattle.std.specs.Prelude.{ℕ, ◌/◌, ◌%◌, true, List, map, Option}
use Rattle.enc_tables.specs.declared.records.MbPlan.{MbPlan}
use Rattle.enc_tables.specs.declared.records.PlanStep.{PlanStep}
use Rattle.spec_film.specs.Films.{Planes}
use Rattle.spec_headers.specs.declared.heads.SliceHead.{SliceHead}
use Rattle.spec_headers.specs.Heads.{other_head}
use Rattle.spec_lists.specs.References.{Reference}
use Rattle.spec_lists.specs.Lists.{Lists}
use Rattle.spec_lists.specs.Colocated.{colocated_at}
use Rattle.spec_tasks.specs.Entries.{entries0, entries1}
use Rattle.spec_slice_payload.specs.Layer.{Format, facts_of}
use Rattle.spec_reconstruction.specs.Inter.{Sources}
use Rattle.spec_inter_plans.specs.InterPlans.{Search, plan_of}
use Rattle.spec_coded.specs.Tasks.{Task}

-- the header of a slice of a picture that isn't an IDR picture, with its picture's command
abbrev pub head_by : PlanStep → List Reference → Option ℕ → ℕ → ℕ → SliceHead
head_by step held moved first qp = other_head first step.kind step.frame_num step.poc (entries0 step.kind held) (entries1 step.kind) moved qp true

-- the pictures of lists
abbrev pub sources_of : Lists → Sources
sources_of lists = record { list0 = map (λ r. r.planes) lists.list0; list1 = map (λ r. r.planes) lists.list1 }

-- what a slice with this header is coded from, with the plans of its macroblocks by address. The target QP is the slice's
abbrev pub task_by : Format → SliceHead → Lists → Planes → (ℕ → MbPlan) → Task
task_by f h lists source plan = record {
  facts = facts_of f h;
  colocated = colocated_at lists;
  sources = sources_of lists;
  source = source;
  plan = plan;
  target = λ address. h.qp;
}

abbrev pub search_by : Format → Lists → Planes → ℕ → Search
search_by f lists source range = record { across = f.across; sources = sources_of lists; source = source; range = range }

-- the plan of a macroblock by its address
abbrev pub plan_by : Format → SliceHead → Lists → Planes → ℕ → ℕ → MbPlan
plan_by f h lists source range address =
    plan_of h.kind (search_by f lists source range) (h.first_mb / f.across) f.t8x8 (address / f.across) (address % f.across)
