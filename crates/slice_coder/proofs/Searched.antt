-- Slices by the plans of rows are those of the search.
use Rattle.std.proofs.Common.{◌≡◌, ℕ, zero, suc, ◌*◌, ◌<◌, ◌≤◌, List, [], ◌∷◌, ◌++◌, length, refl, ap, arith}
use Rattle.enc_tables.specs.declared.records.MbPlan.{MbPlan}
use Rattle.enc_tables.specs.declared.records.MbRecord.{MbRecord}
use Rattle.enc_tables.specs.declared.plans.RowPlan.{RowPlan}
use Rattle.spec_film.specs.Films.{Planes}
use Rattle.spec_headers.specs.declared.heads.SliceHead.{SliceHead}
use Rattle.spec_lists.specs.Lists.{Lists as ShownLists}
use Rattle.spec_slice_payload.specs.Layer.{Format}
use Rattle.spec_coded.specs.Tasks.{Task, built_by, records_in_order, task_records}
use Rattle.spec_coded.specs.Coarsest.{coarsest_after, coarsest_records}
use Rattle.spec_tasks.specs.Choosing.{task_by, plan_by}
use Rattle.slice_coder.specs.Plans.{ArePlanned, task_of}
use Rattle.slice_coder.proofs.Along.{replanned, task_same}
use Rattle.slice_coder.proofs.Planned.{plan_searched}
use Rattle.slice_coder.proofs.Shapes.{row_inside}

pub plain_searched : (f : Format) (h : SliceHead) (lists : ShownLists) (source : Planes) (plans : List RowPlan) (a : ArePlanned f h lists source plans) (before : Planes) (row n : ℕ) → 0 < f.across → h.first_mb ≡ row * f.across → n ≤ length plans * f.across
    → task_records (task_of f h lists source plans) before n ≡ task_records (task_by f h lists source (plan_by f h lists source a.range)) before n
plain_searched f h lists source plans a before row n some begins most =
    task_same (task_of f h lists source plans) (plan_by f h lists source a.range) before n
    (λ k l. plan_searched f h lists source plans a k row some begins (row_inside k (length plans) f.across some (omega arith)))

-- the coarsest records look at no plans
pub coarsest_same : (t : Task) (plan : ℕ → MbPlan) (p : Planes) (n : ℕ) → coarsest_records t p n ≡ coarsest_records (replanned t plan) p n
unfolding coarsest_records records_in_order coarsest_after
coarsest_same t plan p zero = refl
coarsest_same t plan p (suc n) = ap (λ (before : List MbRecord). before ++ coarsest_after t before (built_by t p before) ∷ []) (coarsest_same t plan p n)
