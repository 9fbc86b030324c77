-- Coders before and after calls that code.
use Rattle.std.proofs.Common.{ℕ, ◌≡◌, refl, ap, ap₂, sym, subst, ◌∙◌}
use Rattle.std.proofs.Common.{List}
use Rattle.enc_tables.specs.declared.plans.RowPlan.{RowPlan}
use Rattle.spec_film_coder.specs.Pictures.{Shape, format}
use Rattle.spec_tasks.specs.Choosing.{search_by}
use Rattle.picture_plans.specs.Planned.{SlicesPlanned}
use Rattle.ref_lists.specs.Named.{named}
use Rattle.picture_coder.specs.declared.coder.PictureCoder.{PictureCoder}
use Rattle.picture_coder.specs.declared.job.Job.{Job}
use Rattle.picture_coder.specs.Jobs.{IsJob, held_in, source_in}
use Rattle.picture_coder.specs.Coders.{IsFor, HasPlans, OnlyPictureDiffers, OnlyPlansDiffer, shape_for}
use Rattle.enc_session.specs.Trying.{Asked, asked_by}
use Rattle.enc_session.specs.Asking.{SameCoder}

pub for_still : (old new : PictureCoder) (j : Job) → SameCoder old new → IsFor old j → IsFor new j
for_still old new j d f = record {
  job = subst (λ (n : ℕ). IsJob n new.down j) (sym d.across) (subst (λ (n : ℕ). IsJob old.across n j) (sym d.down) f.job);
  slices_are = f.slices_are ∙ sym d.slices;
  workers_are = f.workers_are ∙ sym d.workers;
}

pub asked_still : (old new : PictureCoder) (j : Job) → SameCoder old new → asked_by new j ≡ asked_by old j
asked_still old new j d =
    ap₂ (λ (a b : ℕ). let s : Shape = record { across = a; down = b; slices = new.slices; t8x8 = j.t8x8; range = j.range } in let x : Asked = record { shape = s; held = held_in j; step = j.step; idr_id = j.idr_id; source = source_in j } in x) d.across d.down
    ∙ ap (λ (n : ℕ). let s : Shape = record { across = old.across; down = old.down; slices = n; t8x8 = j.t8x8; range = j.range } in let x : Asked = record { shape = s; held = held_in j; step = j.step; idr_id = j.idr_id; source = source_in j } in x) d.slices

pub coder_still : (old new : PictureCoder) → OnlyPictureDiffers old new → SameCoder old new
coder_still old new d = record { across = d.across; down = d.down; slices = d.slices; workers = d.workers; room = d.room }

pub coder_then : (a b c : PictureCoder) → SameCoder a b → SameCoder b c → SameCoder a c
coder_then a b c d e = record { across = e.across ∙ d.across; down = e.down ∙ d.down; slices = e.slices ∙ d.slices; workers = e.workers ∙ d.workers; room = e.room ∙ d.room }

pub coder_same : (a : PictureCoder) → SameCoder a a
coder_same a = record { across = refl; down = refl; slices = refl; workers = refl; room = refl }

planned_by : (a b n a' b' n' : ℕ) (j : Job) (ps : List RowPlan) → a' ≡ a → b' ≡ b → n' ≡ n
    → SlicesPlanned j.step.kind (search_by (format (record { across = a; down = b; slices = n; t8x8 = j.t8x8; range = j.range })) (named j.lists.now) (source_in j) j.range) n b j.t8x8 n ps
    → SlicesPlanned j.step.kind (search_by (format (record { across = a'; down = b'; slices = n'; t8x8 = j.t8x8; range = j.range })) (named j.lists.now) (source_in j) j.range) n' b' j.t8x8 n' ps
planned_by a b n a' b' n' j ps p q r h =
    subst (λ (x : ℕ). SlicesPlanned j.step.kind (search_by (format (record { across = x; down = b'; slices = n'; t8x8 = j.t8x8; range = j.range })) (named j.lists.now) (source_in j) j.range) n' b' j.t8x8 n' ps) (sym p)
    (subst (λ (x : ℕ). SlicesPlanned j.step.kind (search_by (format (record { across = a; down = x; slices = n'; t8x8 = j.t8x8; range = j.range })) (named j.lists.now) (source_in j) j.range) n' x j.t8x8 n' ps) (sym q)
    (subst (λ (x : ℕ). SlicesPlanned j.step.kind (search_by (format (record { across = a; down = b; slices = x; t8x8 = j.t8x8; range = j.range })) (named j.lists.now) (source_in j) j.range) x b j.t8x8 x ps) (sym r) h))

pub plans_still : (old new : PictureCoder) (j : Job) → OnlyPictureDiffers old new → HasPlans old j → HasPlans new j
plans_still old new j d h =
    subst (λ v. SlicesPlanned j.step.kind (search_by (format (shape_for new j)) (named j.lists.now) (source_in j) j.range) new.slices new.down j.t8x8 new.slices v.items) (sym d.plans)
    (planned_by old.across old.down old.slices new.across new.down new.slices j old.plans.items d.across d.down d.slices h)

pub coder_planned : (old new : PictureCoder) → OnlyPlansDiffer old new → SameCoder old new
coder_planned old new d = record { across = d.across; down = d.down; slices = d.slices; workers = d.workers; room = d.room }
