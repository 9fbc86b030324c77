-- The records of a slice, one behind another, by the written choice or as the coarsest ones.
use Rattle.std.proofs.Common.{◌≡◌, ℕ, zero, suc, ◌+◌, ◌<◌, ◌++◌, Bool, true, false, List, [], ◌∷◌, length, refl, sym, ap, subst, ◌∙◌, arith, length-append}
use Rattle.enc_tables.specs.declared.records.MbPlan.{MbPlan}
use Rattle.enc_tables.specs.declared.records.MbRecord.{MbRecord}
use Rattle.enc_tables.specs.declared.records.SliceKind.{SliceKind}
use Rattle.enc_tables.specs.Choice.{choice}
use Rattle.spec_film.specs.Films.{Planes}
use Rattle.spec_partitions.specs.Near.{View, view_in}
use Rattle.spec_reconstruction.specs.declared.Site.{Site}
use Rattle.spec_reconstruction.specs.Records.{site_of}
use Rattle.spec_coded.specs.Tasks.{Task, by_motion, by_choice, in_p, in_b, in_slice, reached, record_at, record_after, built_by, records_in_order, task_records}
use Rattle.spec_coded.specs.Coarsest.{coarsest_records}
use Rattle.slice_coder.specs.Records.{records_by, next_by}

-- ---- one more

pub records_next : (coarsest : Bool) (t : Task) (p : Planes) (n : ℕ)
    → (let before : List MbRecord = records_by coarsest t p n in records_by coarsest t p (n + 1) ≡ before ++ next_by coarsest t before (built_by t p before) ∷ [])
unfolding task_records coarsest_records records_in_order
records_next true t p n = let on : n + 1 ≡ suc n = omega arith in ap (λ (k : ℕ). coarsest_records t p k) on
records_next false t p n = let on : n + 1 ≡ suc n = omega arith in ap (λ (k : ℕ). task_records t p k) on

pub records_none : (coarsest : Bool) (t : Task) (p : Planes) → records_by coarsest t p 0 ≡ []
unfolding task_records coarsest_records records_in_order
records_none true t p = refl
records_none false t p = refl

pub records_long : (coarsest : Bool) (t : Task) (p : Planes) (n : ℕ) → length (records_by coarsest t p n) ≡ n
records_long coarsest t p zero = ap (λ (xs : List MbRecord). length xs) (records_none coarsest t p)
records_long coarsest t p (suc n) =
    let before : List MbRecord = records_by coarsest t p n in
    let on : suc n ≡ n + 1 = omega arith in
    ap (λ (k : ℕ). length (records_by coarsest t p k)) on
    ∙ ap (λ (xs : List MbRecord). length xs) (records_next coarsest t p n)
    ∙ length-append before (next_by coarsest t before (built_by t p before) ∷ [])
    ∙ (let long = records_long coarsest t p n in omega arith)

-- ---- plans count where their macroblocks are

-- a task with other plans
abbrev pub replanned : Task → (ℕ → MbPlan) → Task
replanned t plan = record t { plan = plan }

slice_same : (t : Task) (plan : ℕ → MbPlan) (k : SliceKind) (site : Site) (view : View) (cost : ℕ) (chosen : MbRecord) → in_slice k t site view cost chosen ≡ in_slice k (replanned t plan) site view cost chosen
unfolding in_p in_b by_motion
slice_same t plan SliceKind.I site view cost chosen = refl
slice_same t plan SliceKind.P site view cost chosen = refl
slice_same t plan SliceKind.B site view cost chosen = refl

at_same : (t : Task) (plan : ℕ → MbPlan) (site : Site) (view : View) (mb : MbPlan) (p : Planes) → record_at t site view mb p ≡ record_at (replanned t plan) site view mb p
unfolding record_at by_choice by_motion
at_same t plan site view mb p =
    let least = choice t.facts.kind mb site.qp t.facts.t8x8 in
    ap (λ (r : MbRecord). reached view.near.qp r) (slice_same t plan t.facts.kind site view least.1 (by_choice t site view mb least.0 p))

after_same : (t : Task) (plan : ℕ → MbPlan) (before : List MbRecord) (p : Planes) → t.plan (t.facts.first + length before) ≡ plan (t.facts.first + length before) → record_after t before p ≡ record_after (replanned t plan) before p
unfolding record_after
after_same t plan before p e =
    let address : ℕ = t.facts.first + length before in
    let site : Site = site_of t.facts.width t.facts.first address (t.target address) in
    let view : View = view_in t.facts t.colocated before in
    at_same t plan site view (t.plan address) p ∙ ap (λ (mb : MbPlan). record_at (replanned t plan) site view mb p) e

pub task_same : (t : Task) (plan : ℕ → MbPlan) (p : Planes) (n : ℕ) → ((k : ℕ) → k < n → t.plan (t.facts.first + k) ≡ plan (t.facts.first + k)) → task_records t p n ≡ task_records (replanned t plan) p n
unfolding task_records records_in_order
task_same t plan p zero h = refl
task_same t plan p (suc n) h =
    let before : List MbRecord = task_records t p n in
    let others : List MbRecord = task_records (replanned t plan) p n in
    let same : before ≡ others = task_same t plan p n (λ k l. h k (omega arith)) in
    let here : t.plan (t.facts.first + length before) ≡ plan (t.facts.first + length before) = subst (λ (k : ℕ). t.plan (t.facts.first + k) ≡ plan (t.facts.first + k)) (sym (records_long false t p n)) (h n (omega arith)) in
    ap (λ (r : MbRecord). before ++ r ∷ []) (after_same t plan before (built_by t p before) here)
    ∙ ap (λ (xs : List MbRecord). xs ++ record_after (replanned t plan) xs (built_by t p xs) ∷ []) same
