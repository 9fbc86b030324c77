-- The plan of the next macroblock, and its record.
use Rattle.std.proofs.Common.{◌≡◌, ℕ, ◌+◌, ◌-◌, ◌*◌, ◌/◌, ◌%◌, ◌<◌, Bool, true, false, List, length, get_or, refl, sym, ap, subst, ◌∙◌}
use Rattle.enc_tables.specs.declared.records.MbPlan.{MbPlan}
use Rattle.enc_tables.specs.declared.records.MbRecord.{MbRecord}
use Rattle.enc_tables.specs.declared.plans.RowPlan.{RowPlan}
use Rattle.enc_tables.specs.Choice.{SmallCosts}
use Rattle.spec_film.specs.Films.{Planes}
use Rattle.spec_headers.specs.declared.heads.SliceHead.{SliceHead}
use Rattle.spec_partitions.specs.Near.{SliceFacts, near_in, view_in, last_qp}
use Rattle.spec_reconstruction.specs.declared.Site.{Site}
use Rattle.spec_reconstruction.specs.Records.{site_of}
use Rattle.spec_coded.specs.Tasks.{Task, record_at, record_after}
use Rattle.spec_coded.specs.Coarsest.{coarsest_in, coarsest_after}
use Rattle.spec_record_laws.specs.Coded.{ModesFit}
use Rattle.spec_inter_records.specs.Fits.{InterPlanned, TaskFits}
use Rattle.spec_tasks.specs.Choosing.{task_by, plan_by}
use Rattle.spec_tasks.proofs.Told.{task_fits}
use Rattle.ref_lists.specs.Named.{named}
use Rattle.inter_coder.specs.declared.given.Pictures.{Pictures}
use Rattle.inter_coder.specs.Given.{source_in, count0, count1}
use Rattle.slice_coder.specs.declared.place.Place.{Place}
use Rattle.slice_coder.specs.Plans.{plan_at}
use Rattle.slice_coder.specs.Records.{next_by}
use Rattle.slice_coder.specs.Given.{format_in, IsPlaced, CanBe, SamplesFit}
use Rattle.slice_coder.proofs.Made.{given}
use Rattle.slice_coder.proofs.Planned.{plan_searched, plan_cheap, plan_found}
use Rattle.slice_coder.proofs.Shapes.{row_inside}

-- ---- the plan

-- its row is one of the slice's
pub row_there : (place : Place) (h : SliceHead) (p : Pictures) (plans : List RowPlan) (n : ℕ) → IsPlaced place h p → CanBe false place h p plans → n < (place.end - place.row) * place.across → n / place.across < length plans
row_there place h p plans n is can inside = row_inside n (length plans) place.across is.wide (subst (λ (m : ℕ). n < m * place.across) (sym (can.count refl)) inside)

module _ (place : Place) (h : SliceHead) (p : Pictures) (plans : List RowPlan) (n : ℕ) (plan : MbPlan) (is : IsPlaced place h p) (can : CanBe false place h p plans) (fits : SamplesFit p) (inside : n < (place.end - place.row) * place.across)
    (found : (d : RowPlan) (mb : MbPlan) → plan ≡ get_or (get_or plans (n / place.across) d).mbs.items (n % place.across) mb) where
  pub at_address : plan ≡ plan_at place.across (h.first_mb / place.across) plans (h.first_mb + n)
  at_address =
      plan_found (format_in place p) h (named p.lists.now) (source_in p) plans (can.planned refl) n place.row plan is.wide is.first (row_there place h p plans n is can inside) found

  pub costs : SmallCosts plan
  costs =
      subst (λ (m : MbPlan). SmallCosts m) (sym at_address)
      (plan_cheap (format_in place p) h (named p.lists.now) (source_in p) plans (can.planned refl) n place.row is.wide is.first (row_there place h p plans n is can inside))

  searched : plan ≡ plan_by (format_in place p) h (named p.lists.now) (source_in p) (can.planned refl).range (h.first_mb + n)
  searched =
      at_address ∙ plan_searched (format_in place p) h (named p.lists.now) (source_in p) plans (can.planned refl) n place.row is.wide is.first (row_there place h p plans n is can inside)

  task_is_fit : TaskFits (task_by (format_in place p) h (named p.lists.now) (source_in p) (plan_by (format_in place p) h (named p.lists.now) (source_in p) (can.planned refl).range))
  task_is_fit =
      task_fits (format_in place p) h (named p.lists.now) (source_in p) (can.planned refl).range (given place h p (can.planned refl).range is fits (can.planned refl).range_fits)

  pub modes : ModesFit plan
  modes = subst (λ (m : MbPlan). ModesFit m) (sym searched) (task_is_fit.modes (h.first_mb + n))

  pub parts : InterPlanned h.kind (count0 p) (count1 p) 131 plan
  parts =
      subst (λ (m : MbPlan). InterPlanned h.kind (count0 p) (count1 p) 131 m) (sym searched)
      (subst (λ (a : ℕ). InterPlanned h.kind a (count1 p) 131 (plan_by (format_in place p) h (named p.lists.now) (source_in p) (can.planned refl).range (h.first_mb + n))) (sym is.lists.count0)
      (subst (λ (b : ℕ). InterPlanned h.kind h.refs0 b 131 (plan_by (format_in place p) h (named p.lists.now) (source_in p) (can.planned refl).range (h.first_mb + n))) (sym is.lists.count1) (task_is_fit.parts (h.first_mb + n))))

-- ---- the record

pub near_qp : (s : SliceFacts) (before : List MbRecord) → (near_in s before).qp ≡ last_qp s.qp before
unfolding near_in
near_qp s before = refl

-- a site has its own QP
pub own_site : (across first address qp : ℕ) (site : Site) → site ≡ site_of across first address qp → site ≡ site_of across first address site.qp
own_site across first address qp site e = e ∙ ap (λ (q : ℕ). site_of across first address q) (sym (ap (λ (t : Site). t.qp) e))

pub next_coarsest : (b : Bool) (t : Task) (before : List MbRecord) (p : Planes) → b ≡ true → coarsest_in t.facts.kind (view_in t.facts t.colocated before) ≡ next_by b t before p
unfolding coarsest_after
next_coarsest b t before p e = rw e refl

after_is : (b : Bool) (t : Task) (before : List MbRecord) (p : Planes) → b ≡ false
    → record_at t (site_of t.facts.width t.facts.first (t.facts.first + length before) (t.target (t.facts.first + length before))) (view_in t.facts t.colocated before) (t.plan (t.facts.first + length before)) p ≡ next_by b t before p
unfolding record_after
after_is b t before p e = rw e refl

pub next_plain : (b : Bool) (t : Task) (before : List MbRecord) (p : Planes) (site : Site) (plan : MbPlan) (mb : MbRecord) → b ≡ false
    → site ≡ site_of t.facts.width t.facts.first (t.facts.first + length before) (t.target (t.facts.first + length before)) → plan ≡ t.plan (t.facts.first + length before)
    → mb ≡ record_at t site (view_in t.facts t.colocated before) plan p → mb ≡ next_by b t before p
next_plain b t before p site plan mb e at found is =
    let view = view_in t.facts t.colocated before in
    is
    ∙ ap (λ (s : Site). record_at t s view plan p) at
    ∙ ap (λ (m : MbPlan). record_at t (site_of t.facts.width t.facts.first (t.facts.first + length before) (t.target (t.facts.first + length before))) view m p) found
    ∙ after_is b t before p e
