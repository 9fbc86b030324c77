-- What a job for a coder of pictures gives the plans of its rows.
use Rattle.std.proofs.Common.{◌≡◌, ◌*◌, ◌/◌, ◌%◌, ℕ, List, length, sym, ap, subst, ◌∙◌, arith}
use Rattle.enc_tables.specs.declared.plans.RowPlan.{RowPlan}
use Rattle.block_sums.specs.Tables.{HasShapeOf}
use Rattle.spec_inter_plans.specs.InterPlans.{Search, picture_compared}
use Rattle.spec_partitions.specs.InRange.{HasEntries}
use Rattle.spec_tasks.specs.Choosing.{search_by}
use Rattle.spec_film_coder.specs.Pictures.{format}
use Rattle.ref_lists.specs.declared.held.Reference.{Reference}
use Rattle.ref_lists.specs.Held.{all_seen, seen, AreHeld}
use Rattle.ref_lists.specs.Entries.{entries, ArePlaces}
use Rattle.ref_lists.specs.Named.{named}
use Rattle.ref_lists.proofs.Entering.{length-seen, length-entries}
use Rattle.mode_choice.specs.Given.{search_of, used}
use Rattle.picture_plans.specs.Planned.{AreRows, SlicesPlanned}
use Rattle.picture_coder.specs.declared.job.Job.{Job}
use Rattle.picture_coder.specs.declared.coder.PictureCoder.{PictureCoder}
use Rattle.picture_coder.specs.Jobs.{IsMoved, held_in, source_in}
use Rattle.picture_coder.specs.Coders.{IsFor, shape_for, compared_for}
use Rattle.picture_coder.proofs.MemorySizes.{whole, sixteenth}
use Rattle.picture_coder.proofs.PlanLists.{has_entries, compared_is}

-- ---- sizes

pub own_width : (c : PictureCoder) (j : Job) → IsFor c j → j.source.now.y.width ≡ 16 * c.across
own_width c j is = is.job.source.luma.0 ∙ whole c.across

pub own_height : (c : PictureCoder) (j : Job) → IsFor c j → j.source.now.y.height ≡ 16 * c.down
own_height c j is = is.job.source.luma.1 ∙ whole c.down

pub own_across : (c : PictureCoder) (j : Job) → IsFor c j → j.source.now.y.width / 16 ≡ c.across
own_across c j is = sixteenth j.source.now.y.width c.across (own_width c j is)

pub in_macroblocks : (c : PictureCoder) (j : Job) → IsFor c j → j.source.now.y.width % 16 ≡ 0
in_macroblocks c j is = even j.source.now.y.width c.across (own_width c j is)
  where
    even : (w a : ℕ) → w ≡ 16 * a → w % 16 ≡ 0
    even w a e = omega (arith, e)

-- the coder's table of sums is for the source
pub table_for : (c : PictureCoder) (j : Job) → IsFor c j → HasShapeOf c.sums j.source.now.y
table_for c j is = record {
  width = c.sums_fit.0 ∙ sym (own_width c j is);
  height = c.sums_fit.1 ∙ sym (own_height c j is);
  pad = c.sums_fit.2 ∙ sym is.job.source.luma.2;
}

-- rows of the coder are rows of the source
pub rows_for : (c : PictureCoder) (j : Job) (plans : List RowPlan) → IsFor c j → AreRows c.across plans → AreRows (j.source.now.y.width / 16) plans
rows_for c j plans is rows = subst (λ (n : ℕ). AreRows n plans) (sym (own_across c j is)) rows

-- ---- references

pub held_for : (c : PictureCoder) (j : Job) → IsFor c j → AreHeld j.source.now.y.width j.source.now.y.height j.lists.now.held.now
held_for c j is =
    subst (λ (h : ℕ). AreHeld j.source.now.y.width h j.lists.now.held.now) (sym (own_height c j is))
    (subst (λ (w : ℕ). AreHeld w (16 * c.down) j.lists.now.held.now) (sym (own_width c j is)) is.job.held)

-- a list has an entry for each of its places
long : (held : List Reference) (places : List ℕ) → ArePlaces (length held) places → length (entries (all_seen held) places) ≡ length places
long held places inside = length-entries (all_seen held) places (subst (λ (n : ℕ). ArePlaces n places) (sym (length-seen seen held)) inside)

pub entries_for : (c : PictureCoder) (j : Job) → IsFor c j → HasEntries j.step.kind (length j.lists.now.list0.items) (length j.lists.now.list1.items)
entries_for c j is =
    has_entries j.step (held_in j) j.idr_id j.moved (named j.lists.now) (length j.lists.now.list0.items) (length j.lists.now.list1.items) is.job.step is.job.lists is.job.entries
    (long j.lists.now.held.now j.lists.now.list0.items is.job.first) (long j.lists.now.held.now j.lists.now.list1.items is.job.second)

-- ---- the search

pub search_is : (c : PictureCoder) (j : Job) → IsFor c j → search_of (j.source.now.y.width / 16) j.lists.now (source_in j) j.range ≡ search_by (format (shape_for c j)) (named j.lists.now) (source_in j) j.range
search_is c j is = ap (λ (n : ℕ). search_of n j.lists.now (source_in j) j.range) (own_across c j is)

-- rows that are planned for the source are the job's plans
pub plans_for : (c : PictureCoder) (j : Job) (down : ℕ) (plans : List RowPlan) → IsFor c j → down ≡ c.down
    → SlicesPlanned j.step.kind (search_of (j.source.now.y.width / 16) j.lists.now (source_in j) j.range) c.slices down j.t8x8 c.slices plans
    → SlicesPlanned j.step.kind (search_by (format (shape_for c j)) (named j.lists.now) (source_in j) j.range) c.slices c.down j.t8x8 c.slices plans
plans_for c j down plans is e planned =
    subst (λ (s : Search). SlicesPlanned j.step.kind s c.slices c.down j.t8x8 c.slices plans) (search_is c j is)
    (subst (λ (n : ℕ). SlicesPlanned j.step.kind (search_of (j.source.now.y.width / 16) j.lists.now (source_in j) j.range) c.slices n j.t8x8 c.slices plans) e planned)

-- the vectors that are compared for them are those of the job
pub compared_then : (c : PictureCoder) (j : Job) (down n : ℕ) → IsFor c j → IsMoved j → down ≡ c.down
    → n ≡ picture_compared (used j.step.kind (search_of (j.source.now.y.width / 16) j.lists.now (source_in j) j.range)) down → n ≡ compared_for c j
compared_then c j down n is moved e same =
    same
    ∙ ap (λ (s : Search). picture_compared (used j.step.kind s) down) (search_is c j is)
    ∙ ap (λ (m : ℕ). picture_compared (used j.step.kind (search_by (format (shape_for c j)) (named j.lists.now) (source_in j) j.range)) m) e
    ∙ compared_is (shape_for c j) j.step (held_in j) j.idr_id j.moved (source_in j) (named j.lists.now) is.job.step moved is.job.lists
