-- The headers of a job's slices: what they say, and that the syntax has room for them.
use Rattle.std.proofs.Common.{◌≡◌, ◌≤◌, ◌<◌, ◌-◌, ◌%◌, ◌^◌, ℕ, Bool, true, false, List, length, Option, Some, None, refl, sym, ap, ap₂, ◌∙◌, arith, lit<}
use Rattle.std.specs.Prelude.{if◌then◌else◌}
use Rattle.enc_tables.specs.declared.records.PlanStep.{PlanStep}
use Rattle.enc_tables.specs.declared.records.SliceKind.{SliceKind}
use Rattle.enc_tables.specs.declared.records.SliceKind.TheVariants.{I, P, B}
use Rattle.spec_headers.specs.declared.heads.SliceHead.{SliceHead}
use Rattle.spec_headers.specs.Heads.{idr_head, other_head, MovedFits}
use Rattle.spec_lists.specs.References.{Reference as Shown}
use Rattle.spec_lists.specs.Lists.{lists_of}
use Rattle.spec_partitions.specs.InRange.{HasEntries}
use Rattle.spec_slice_payload.specs.Slices.{IsIdrHead, IsOtherHead}
use Rattle.spec_decoder.specs.Frames.{lists_by, or_none}
use Rattle.spec_tasks.specs.Choosing.{head_by}
use Rattle.spec_tasks.specs.Entries.{entries0, entries1}
use Rattle.spec_film_coder.specs.Sound.{StepFits}
use Rattle.ref_lists.specs.Named.{named}
use Rattle.picture_coder.specs.declared.job.Job.{Job}
use Rattle.picture_coder.specs.Jobs.{IsJob, held_in, head_in}

-- ---- the header of either kind of picture

pub head_idr : (j : Job) (qp first : ℕ) → j.step.idr ≡ true → j.idr_id ≤ 1 → idr_head first 0 j.idr_id 0 qp true ≡ head_in j qp first
head_idr j qp first e small =
    ap (λ (i : ℕ). idr_head first 0 i 0 qp true) parity
    ∙ ap (λ (b : Bool). if b then idr_head first 0 (j.idr_id % 2) 0 qp true else head_by j.step (held_in j) j.moved first qp) (sym e)
  where
    parity : j.idr_id ≡ j.idr_id % 2
    parity = omega (arith, small)

pub head_other : (j : Job) (qp first refs0 refs1 : ℕ) → j.step.idr ≡ false → refs0 ≡ entries0 j.step.kind (held_in j) → refs1 ≡ entries1 j.step.kind
    → other_head first j.step.kind j.step.frame_num j.step.poc refs0 refs1 j.moved qp true ≡ head_in j qp first
head_other j qp first refs0 refs1 e f g =
    ap₂ (λ (a b : ℕ). other_head first j.step.kind j.step.frame_num j.step.poc a b j.moved qp true) f g
    ∙ ap (λ (b : Bool). if b then idr_head first 0 (j.idr_id % 2) 0 qp true else head_by j.step (held_in j) j.moved first qp) (sym e)

-- ---- room for them

below : (n : ℕ) → n ≤ 36864 → n < 2 ^ 32 - 1
below n h = omega arith

pub idr_fits : (m i qp : ℕ) → m ≤ 36864 → i ≤ 1 → qp ≤ 51 → IsIdrHead (idr_head m 0 i 0 qp true)
unfolding idr_head
idr_fits m i qp few small most = record {
  same = refl;
  first_mb_fits = below m few;
  frame_num_fits = lit< tt;
  idr_id_fits = small;
  poc_fits = lit< tt;
  qp_fits = most;
}

pub small_command : (moved : Option ℕ) → ((n : ℕ) → moved ≡ Some n → n < 65536) → MovedFits moved
small_command None h = tt
small_command (Some n) h = by (h n refl)
  where
    by : n < 65536 → n < 2 ^ 32 - 1
    by l = omega arith

pub other_fits : (idr : Bool) (kind : SliceKind) (st : PlanStep) (held : List Shown) (m refs0 refs1 qp : ℕ) (moved : Option ℕ) → idr ≡ false → StepFits idr kind st → HasEntries kind (entries0 kind held) (entries1 kind) → length held ≤ 4
    → refs0 ≡ entries0 kind held → refs1 ≡ entries1 kind → MovedFits moved → m ≤ 36864 → qp ≤ 51 → IsOtherHead (other_head m kind st.frame_num st.poc refs0 refs1 moved qp true)
unfolding other_head HasEntries
other_fits true kind st held m refs0 refs1 qp moved other fits some few e f small first most = absurd cc
other_fits false I st held m refs0 refs1 qp moved other fits some few e f small first most = absurd fits.0
other_fits false P st held m refs0 refs1 qp moved other fits some few e f small first most = record {
  same = refl;
  kind_fits = f;
  fits = record { first_mb_fits = below m first; frame_num_fits = fits.1; poc_fits = fits.2; some = omega (arith, e, some); few = omega (arith, e, few); moved_fits = small; qp_fits = most };
}
other_fits false B st held m refs0 refs1 qp moved other fits some few e f small first most =
    let least : 0 < length held - 1 = some.0 in record {
      same = refl;
      kind_fits = (omega (arith, f), omega (arith, f));
      fits = record { first_mb_fits = below m first; frame_num_fits = fits.1; poc_fits = fits.2; some = omega (arith, e, least); few = omega (arith, e, few); moved_fits = small; qp_fits = most };
    }

-- ---- what they say

-- a fact of both headers
either : (Q : SliceHead → Type 0) (b : Bool) (x y : SliceHead) → Q x → Q y → Q (if b then x else y)
either Q true x y p q = p
either Q false x y p q = q

pub head_first : (j : Job) (qp first : ℕ) → (head_in j qp first).first_mb ≡ first
unfolding idr_head other_head
head_first j qp first = either (λ (h : SliceHead). h.first_mb ≡ first) j.step.idr (idr_head first 0 (j.idr_id % 2) 0 qp true) (head_by j.step (held_in j) j.moved first qp) refl refl

pub head_qp : (j : Job) (qp first : ℕ) → (head_in j qp first).qp ≡ qp
unfolding idr_head other_head
head_qp j qp first = either (λ (h : SliceHead). h.qp ≡ qp) j.step.idr (idr_head first 0 (j.idr_id % 2) 0 qp true) (head_by j.step (held_in j) j.moved first qp) refl refl

kind_by : (idr : Bool) (kind : SliceKind) (st : PlanStep) (x y : SliceHead) → StepFits idr kind st → x.kind ≡ I → y.kind ≡ kind → (let h : SliceHead = if idr then x else y in h.kind ≡ kind)
kind_by true kind st x y fits e f = e ∙ sym fits.0
kind_by false kind st x y fits e f = f

pub head_kind : (j : Job) (qp first : ℕ) → StepFits j.step.idr j.step.kind j.step → (head_in j qp first).kind ≡ j.step.kind
unfolding idr_head other_head
head_kind j qp first fits = kind_by j.step.idr j.step.kind j.step (idr_head first 0 (j.idr_id % 2) 0 qp true) (head_by j.step (held_in j) j.moved first qp) fits refl refl

refs_by : (idr : Bool) (kind : SliceKind) (st : PlanStep) (held : List Shown) (x y : SliceHead) → StepFits idr kind st → x.refs0 ≡ 0 → x.refs1 ≡ 0 → y.refs0 ≡ entries0 kind held → y.refs1 ≡ entries1 kind
    → (let h : SliceHead = if idr then x else y in (entries0 kind held ≡ h.refs0) × (entries1 kind ≡ h.refs1))
refs_by true kind st held x y fits a b e f = (ap (λ (k : SliceKind). entries0 k held) fits.0 ∙ sym a, ap (λ (k : SliceKind). entries1 k) fits.0 ∙ sym b)
refs_by false kind st held x y fits a b e f = (sym e, sym f)

pub head_refs : (j : Job) (qp first : ℕ) → StepFits j.step.idr j.step.kind j.step → (entries0 j.step.kind (held_in j) ≡ (head_in j qp first).refs0) × (entries1 j.step.kind ≡ (head_in j qp first).refs1)
unfolding idr_head other_head
head_refs j qp first fits = refs_by j.step.idr j.step.kind j.step (held_in j) (idr_head first 0 (j.idr_id % 2) 0 qp true) (head_by j.step (held_in j) j.moved first qp) fits refl refl refl refl

-- ---- their lists, for which the first macroblock and the QP don't count

other_lists : (kind : SliceKind) (moved : Option ℕ) (held : List Shown) (frame_num poc refs0 refs1 first qp : ℕ) → lists_of (other_head first kind frame_num poc refs0 refs1 moved qp true) held ≡ lists_of (other_head 0 kind frame_num poc refs0 refs1 moved 0 true) held
unfolding other_head lists_of
other_lists I None held frame_num poc refs0 refs1 first qp = refl
other_lists P None held frame_num poc refs0 refs1 first qp = refl
other_lists B None held frame_num poc refs0 refs1 first qp = refl
other_lists I (Some d) held frame_num poc refs0 refs1 first qp = refl
other_lists P (Some d) held frame_num poc refs0 refs1 first qp = refl
other_lists B (Some d) held frame_num poc refs0 refs1 first qp = refl

idr_lists : (held : List Shown) (i first qp : ℕ) → lists_of (idr_head first 0 i 0 qp true) held ≡ lists_of (idr_head 0 0 i 0 0 true) held
unfolding idr_head lists_of
idr_lists held i first qp = refl

lists_either : (b : Bool) (x y z w : SliceHead) (held : List Shown) → lists_of x held ≡ lists_of z held → lists_of y held ≡ lists_of w held → lists_of (if b then x else y) held ≡ lists_of (if b then z else w) held
lists_either true x y z w held e f = e
lists_either false x y z w held e f = f

-- each slice has the job's lists
pub head_lists : (across down : ℕ) (j : Job) (qp first : ℕ) → IsJob across down j → lists_by (head_in j qp first) (held_in j) ≡ named j.lists.now
head_lists across down j qp first is =
    ap or_none
    (lists_either j.step.idr (idr_head first 0 (j.idr_id % 2) 0 qp true) (head_by j.step (held_in j) j.moved first qp) (idr_head 0 0 (j.idr_id % 2) 0 0 true) (head_by j.step (held_in j) j.moved 0 0) (held_in j)
    (idr_lists (held_in j) (j.idr_id % 2) first qp)
    (other_lists j.step.kind j.moved (held_in j) j.step.frame_num j.step.poc (entries0 j.step.kind (held_in j)) (entries1 j.step.kind) first qp)
    ∙ is.lists)
