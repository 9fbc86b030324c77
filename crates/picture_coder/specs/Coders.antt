-- What a coder of pictures holds, and what it makes of a job.
use Rattle.std.specs.Prelude.{ℕ, Bool, List, ◌≡◌, ◌*◌}
use Rattle.spec_basics.specs.Sizes.{in_macroblocks}
use Rattle.spec_lists.specs.References.{Reference as Shown}
use Rattle.spec_slice_payload.specs.Layer.{Slice}
use Rattle.spec_tasks.specs.Choosing.{search_by}
use Rattle.spec_film_coder.specs.Pictures.{Shape, format, plain_picture, coarsest_picture, compared_at}
use Rattle.ref_lists.specs.declared.held.Reference.{Reference}
use Rattle.ref_lists.specs.Held.{IsMade}
use Rattle.ref_lists.specs.Named.{named}
use Rattle.picture_plans.specs.Planned.{SlicesPlanned}
use Rattle.picture_coder.specs.declared.coding.Coding.{Coding}
use Rattle.picture_coder.specs.declared.job.Job.{Job}
use Rattle.picture_coder.specs.declared.coder.PictureCoder.{PictureCoder}
use Rattle.picture_coder.specs.Jobs.{IsJob, held_in, source_in}
use Rattle.picture_coder.specs.Kept.{shown_by}

-- macroblocks in a row of its pictures, and rows of them
abbrev pub mbs_across : PictureCoder → ℕ
mbs_across c = c.across

abbrev pub mbs_down : PictureCoder → ℕ
mbs_down c = c.down

-- slices of each picture, and by how many threads it is planned
abbrev pub slice_count : PictureCoder → ℕ
slice_count c = c.slices

abbrev pub worker_count : PictureCoder → ℕ
worker_count c = c.workers

-- the most bits of a slice's payload
abbrev pub payload_room : PictureCoder → ℕ
payload_room c = c.room

-- the picture that it lends
abbrev pub lent_reference : PictureCoder → Reference
lent_reference c = c.reference

-- a coder of pictures of this size
pub record IsMadeFor (c : PictureCoder) (width height slices workers : ℕ) : Type 0 where
  pub across : c.across ≡ in_macroblocks width
  pub down : c.down ≡ in_macroblocks height
  pub slices_are : c.slices ≡ slices
  pub workers_are : c.workers ≡ workers

-- the picture that it lends has its sizes and margins, and a record for each macroblock
abbrev pub HasOwnSizes : PictureCoder → Type 0
HasOwnSizes c = IsMade (16 * c.across) (16 * c.down) c.reference

-- a job for this coder
pub record IsFor (c : PictureCoder) (j : Job) : Type 0 where
  pub job : IsJob c.across c.down j
  pub slices_are : j.slices ≡ c.slices
  pub workers_are : j.workers ≡ c.workers

-- ---- what a job makes

abbrev pub shape_for : PictureCoder → Job → Shape
shape_for c j = record { across = c.across; down = c.down; slices = c.slices; t8x8 = j.t8x8; range = j.range }

-- its slices by the written choice, at a QP, and as the coarsest ones
abbrev pub plain_for : PictureCoder → Job → ℕ → List Slice
plain_for c j qp = plain_picture (shape_for c j) (held_in j) j.step j.idr_id qp (source_in j)

abbrev pub coarsest_for : PictureCoder → Job → List Slice
coarsest_for c j = coarsest_picture (shape_for c j) (held_in j) j.step j.idr_id (source_in j)

-- how many vectors are compared for its plans
abbrev pub compared_for : PictureCoder → Job → ℕ
compared_for c j = compared_at (shape_for c j) (held_in j) j.step (source_in j)

-- the picture of these slices, as later ones see it
abbrev pub kept_for : PictureCoder → Job → List Slice → Shown
kept_for c j slices = shown_by (shape_for c j) (held_in j) j.step slices

-- all its rows are planned
abbrev pub HasPlans : PictureCoder → Job → Type 0
HasPlans c j = SlicesPlanned j.step.kind (search_by (format (shape_for c j)) (named j.lists.now) (source_in j) j.range) c.slices c.down j.t8x8 c.slices c.plans.items

-- how its pictures are coded with this quantisation parameter
abbrev pub coding_for : PictureCoder → ℕ → Bool → Coding
coding_for c qp coarsest = record { across = c.across; down = c.down; slices = c.slices; qp = qp; coarsest = coarsest }

-- ---- a coder before and after a call

-- that plans
pub record OnlyPlansDiffer (old new : PictureCoder) : Type 0 where
  pub across : new.across ≡ old.across
  pub down : new.down ≡ old.down
  pub slices : new.slices ≡ old.slices
  pub workers : new.workers ≡ old.workers
  pub room : new.room ≡ old.room
  pub reference : new.reference ≡ old.reference

-- that codes
pub record OnlyPictureDiffers (old new : PictureCoder) : Type 0 where
  pub across : new.across ≡ old.across
  pub down : new.down ≡ old.down
  pub slices : new.slices ≡ old.slices
  pub workers : new.workers ≡ old.workers
  pub room : new.room ≡ old.room
  pub plans : new.plans ≡ old.plans
