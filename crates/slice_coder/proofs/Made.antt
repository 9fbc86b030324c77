-- A slice's records are records of the syntax, each behind those before it; and what is known around the next macroblock.
use Rattle.std.proofs.Common.{◌≡◌, ℕ, zero, suc, ◌+◌, ◌-◌, ◌*◌, ◌/◌, ◌<◌, ◌≤◌, ◌==◌, ◌&&◌, ◌++◌, not, Bool, true, false, List, [], ◌∷◌, length, Option, Some, None, refl, sym, ap, subst, ◌∙◌, arith, append_assoc, append-nil}
use Rattle.std.proofs.lemmas.Bool.Decides.{nat_tests}
use Rattle.enc_tables.specs.declared.records.MbRecord.{MbRecord}
use Rattle.enc_tables.specs.declared.plans.RowPlan.{RowPlan}
use Rattle.spec_film.specs.Films.{Planes}
use Rattle.spec_headers.specs.declared.heads.SliceHead.{SliceHead}
use Rattle.spec_lists.specs.Lists.{Lists as ShownLists}
use Rattle.spec_lists.specs.Colocated.{colocated_at}
use Rattle.spec_partitions.specs.InRange.{AllFit, NearFits}
use Rattle.spec_partitions.specs.Near.{last_qp, last_has_delta, has_residual}
use Rattle.spec_partitions.specs.Small.{ViewSmall, NearSmall}
use Rattle.spec_macroblock.specs.Records.{IsRecord}
use Rattle.spec_macroblock.proofs.Following.{qp_follows, delta_follows}
use Rattle.spec_slice_payload.specs.Layer.{Format, Colocated, near_of, view_of}
use Rattle.spec_slice_payload.specs.Slices.{AreRecords}
use Rattle.spec_slice_payload.proofs.Carried.{IfThere, Around, around_has}
use Rattle.spec_slice_payload.proofs.InRange.{IsSmall, view_small, all_small, all_fit}
use Rattle.spec_coded.specs.Tasks.{Task, built_by}
use Rattle.spec_record_laws.specs.Coded.{PlanesFit}
use Rattle.spec_inter_records.proofs.Along.{Made, records_made, coarsest_made}
use Rattle.spec_tasks.specs.Choosing.{task_by, plan_by}
use Rattle.spec_tasks.specs.Given.{IsGiven}
use Rattle.spec_tasks.proofs.Told.{task_fits}
use Rattle.ref_lists.specs.declared.naming.Lists.{Lists}
use Rattle.ref_lists.specs.declared.held.Reference.{Reference}
use Rattle.ref_lists.specs.Held.{seen, all_seen}
use Rattle.ref_lists.specs.Entries.{entries, ArePlaces}
use Rattle.ref_lists.specs.Named.{named}
use Rattle.ref_lists.proofs.Entering.{length-seen, length-entries}
use Rattle.inter_coder.specs.declared.given.Pictures.{Pictures}
use Rattle.inter_coder.specs.declared.given.Beside.{Beside}
use Rattle.inter_coder.specs.Given.{source_in, IsBeside}
use Rattle.inter_coder.specs.Beside.{BesideFits, BesideSmall}
use Rattle.slice_coder.specs.declared.place.Place.{Place}
use Rattle.slice_coder.specs.Plans.{ArePlanned}
use Rattle.slice_coder.specs.Records.{records_by, next_by}
use Rattle.slice_coder.specs.Given.{format_in, task_in, IsPlaced, CanBe, SamplesFit, MovesFit}
use Rattle.slice_coder.specs.Strings.{near_at, Follows}
use Rattle.slice_coder.proofs.Along.{records_next, records_none, task_same}
use Rattle.slice_coder.proofs.Heads.{Says, head_says}
use Rattle.slice_coder.proofs.Planned.{whole_rows, plan_searched}
use Rattle.slice_coder.proofs.Shapes.{row_inside}

-- ---- what is given

entries_long : (held : List Reference) (places : List ℕ) → ArePlaces (length held) places → length (entries (all_seen held) places) ≡ length places
entries_long held places inside = length-entries (all_seen held) places (subst (λ (n : ℕ). ArePlaces n places) (sym (length-seen seen held)) inside)

pub given : (place : Place) (h : SliceHead) (p : Pictures) (range : ℕ) → IsPlaced place h p → SamplesFit p → range ≤ 32 → IsGiven (format_in place p) h (named p.lists.now) (source_in p) range
given place h p range is fits near =
    let says : Says h = head_says h.idr h is.head in
    let l : Lists = p.lists.now in
    record {
      some = is.wide;
      row = ap (λ (n : ℕ). n / place.across * place.across) is.first ∙ ap (λ (n : ℕ). n * place.across) (whole_rows place.row place.across is.wide) ∙ sym is.first;
      qp = says.qp;
      range_fits = near;
      source_fits = fits.source;
      pictures0 = fits.list0;
      pictures1 = fits.list1;
      length0 = entries_long l.held.now l.list0.items is.lists.first ∙ is.lists.count0;
      length1 = entries_long l.held.now l.list1.items is.lists.second ∙ is.lists.count1;
      few0 = says.few0;
      few1 = says.few1;
      entries = says.entries;
    }

-- ---- records

-- the records and their planes so far
pub made : (coarsest : Bool) (place : Place) (h : SliceHead) (p : Pictures) (plans : List RowPlan) (base : Planes) (n : ℕ) → IsPlaced place h p → CanBe coarsest place h p plans → SamplesFit p → PlanesFit base → n ≤ (place.end - place.row) * place.across
    → Made (format_in place p) (colocated_at (named p.lists.now)) h (records_by coarsest (task_in place h p plans) base n)
made true place h p plans base n is can fits built most = coarsest_made (format_in place p) h (task_in place h p plans) base n refl is.wide (can.greatest refl) built
made false place h p plans base n is can fits built most =
    let f : Format = format_in place p in
    let lists : ShownLists = named p.lists.now in
    let a : ArePlanned f h lists (source_in p) plans = can.planned refl in
    let searched : Task = task_by f h lists (source_in p) (plan_by f h lists (source_in p) a.range) in
    subst (λ (rs : List MbRecord). Made f (colocated_at lists) h rs)
    (sym (task_same (task_in place h p plans) (plan_by f h lists (source_in p) a.range) base n
    (λ k l. plan_searched f h lists (source_in p) plans a k place.row is.wide is.first (row_inside k (length plans) place.across is.wide (subst (λ (m : ℕ). k < m * place.across) (sym (can.count refl)) (omega arith))))))
    (records_made f h searched base n refl (task_fits f h lists (source_in p) a.range (given place h p a.range is fits a.range_fits)) built)

last_is : (f : Format) (c : Colocated) (h : SliceHead) (before xs : List MbRecord) (mb : MbRecord) → AreRecords f c h before (xs ++ mb ∷ []) → IsRecord (near_of f h (before ++ xs)) mb
last_is f c h before [] mb a = subst (λ (bs : List MbRecord). IsRecord (near_of f h bs) mb) (sym (append-nil before)) a.0.written
last_is f c h before (x ∷ xs) mb a = subst (λ (bs : List MbRecord). IsRecord (near_of f h bs) mb) (append_assoc before (x ∷ []) xs) (last_is f c h (before ++ x ∷ []) xs mb a.1)

no_delta : (residual : Bool) (a b : ℕ) → a ≡ b → (residual && not (a == b)) ≡ false
no_delta true a b e = rw e (grind (arith, nat_tests))
no_delta false a b e = refl

module _ (coarsest : Bool) (place : Place) (h : SliceHead) (p : Pictures) (plans : List RowPlan) (base : Planes) (is : IsPlaced place h p) (can : CanBe coarsest place h p plans) (fits : SamplesFit p) (built : PlanesFit base) where
  task : Task
  task = task_in place h p plans

  so_far : ℕ → List MbRecord
  so_far n = records_by coarsest (task_in place h p plans) base n

  -- the record of macroblock n
  next : ℕ → MbRecord
  next n = next_by coarsest (task_in place h p plans) (records_by coarsest (task_in place h p plans) base n) (built_by (task_in place h p plans) base (records_by coarsest (task_in place h p plans) base n))

  count : ℕ
  count = (place.end - place.row) * place.across

  made_here : (n : ℕ) → n ≤ (place.end - place.row) * place.across → Made (format_in place p) (colocated_at (named p.lists.now)) h (records_by coarsest (task_in place h p plans) base n)
  made_here n most = made coarsest place h p plans base n is can fits built most

  made_more : (n : ℕ) → n < (place.end - place.row) * place.across → Made (format_in place p) (colocated_at (named p.lists.now)) h (so_far n ++ next n ∷ [])
  unfolding so_far next
  made_more n inside = subst (λ (rs : List MbRecord). Made (format_in place p) (colocated_at (named p.lists.now)) h rs) (records_next coarsest (task_in place h p plans) base n) (made_here (n + 1) (omega arith))

  at_qp : (n : ℕ) → n < (place.end - place.row) * place.across → (next n).qp ≡ h.qp
  at_qp n inside = sym (qp_follows h.qp (so_far n) (next n)) ∙ (made_more n inside).last

  behind : (n : ℕ) → n ≤ (place.end - place.row) * place.across → last_has_delta false h.qp (so_far n) ≡ false
  unfolding so_far next last_has_delta
  behind zero most = ap (λ (rs : List MbRecord). last_has_delta false h.qp rs) (records_none coarsest (task_in place h p plans) base)
  behind (suc n) most =
      let on : suc n ≡ n + 1 = omega arith in
      ap (λ (k : ℕ). last_has_delta false h.qp (records_by coarsest (task_in place h p plans) base k)) on
      ∙ ap (λ (rs : List MbRecord). last_has_delta false h.qp rs) (records_next coarsest (task_in place h p plans) base n)
      ∙ delta_follows false h.qp (so_far n) (next n)
      ∙ no_delta (has_residual (next n)) (next n).qp (last_qp h.qp (so_far n)) (at_qp n (omega arith) ∙ sym (made_here n (omega arith)).last)

  pub next_fits : (n : ℕ) → n < (place.end - place.row) * place.across → IsRecord (near_at place h (records_by coarsest (task_in place h p plans) base n)) (next_by coarsest (task_in place h p plans) (records_by coarsest (task_in place h p plans) base n) (built_by (task_in place h p plans) base (records_by coarsest (task_in place h p plans) base n)))
  unfolding so_far next
  next_fits n inside = last_is (format_in place p) (colocated_at (named p.lists.now)) h [] (so_far n) (next n) (made_more n inside).are

  pub next_follows : (n : ℕ) → n < (place.end - place.row) * place.across → Follows h (records_by coarsest (task_in place h p plans) base n) (next_by coarsest (task_in place h p plans) (records_by coarsest (task_in place h p plans) base n) (built_by (task_in place h p plans) base (records_by coarsest (task_in place h p plans) base n)))
  unfolding so_far next
  next_follows n inside = record { qp = (made_here n (omega arith)).last ∙ sym (at_qp n inside); no_delta = behind n (omega arith) }

  -- the motion of those so far
  pub moves : (n : ℕ) → n ≤ (place.end - place.row) * place.across → MovesFit h (records_by coarsest (task_in place h p plans) base n)
  moves n most =
      let m = made_here n most in
      let says : Says h = head_says h.idr h is.head in
      record {
        fits = all_fit (format_in place p) (colocated_at (named p.lists.now)) h (records_by coarsest (task_in place h p plans) base n) is.wide says.entries m.are;
        small = all_small 131 (format_in place p) (colocated_at (named p.lists.now)) h (records_by coarsest (task_in place h p plans) base n) is.wide m.are m.small.at;
      }

  pub same_qp : (n : ℕ) → n ≤ (place.end - place.row) * place.across → last_qp h.qp (records_by coarsest (task_in place h p plans) base n) ≡ h.qp
  same_qp n most = (made_here n most).last

-- ---- around the next macroblock

fits_there : (a b : ℕ) (n : Option MbRecord) → IfThere (λ r. AllFit a b r.motion) n → NearFits a b n
unfolding IfThere NearFits
fits_there a b None h = tt
fits_there a b (Some n) h = h

pub beside_fits : (f : Format) (c : Colocated) (h : SliceHead) (before : List MbRecord) (b : Beside) → 0 < f.across → MovesFit h before → IsBeside (view_of f c h before) b → BesideFits h.refs0 h.refs1 b
beside_fits f c h before b some m is =
    let a : Around (λ r. AllFit h.refs0 h.refs1 r.motion) f c h before = around_has (λ r. AllFit h.refs0 h.refs1 r.motion) f c h before some (record { at = m.fits }) in
    record {
      left = subst (λ (n : Option MbRecord). NearFits h.refs0 h.refs1 n) is.left (fits_there h.refs0 h.refs1 _ a.left);
      above = subst (λ (n : Option MbRecord). NearFits h.refs0 h.refs1 n) is.above (fits_there h.refs0 h.refs1 _ a.above);
      above_right = subst (λ (n : Option MbRecord). NearFits h.refs0 h.refs1 n) is.above_right (fits_there h.refs0 h.refs1 _ a.above_right);
      above_left = subst (λ (n : Option MbRecord). NearFits h.refs0 h.refs1 n) is.above_left (fits_there h.refs0 h.refs1 _ a.above_left);
    }

pub beside_small : (f : Format) (c : Colocated) (h : SliceHead) (before : List MbRecord) (b : Beside) → 0 < f.across → MovesFit h before → IsBeside (view_of f c h before) b → BesideSmall 131 b
beside_small f c h before b some m is =
    let v : ViewSmall 131 (view_of f c h before) = view_small 131 f c h before (around_has (IsSmall 131) f c h before some (record { at = m.small })) in
    record {
      left = subst (λ (n : Option MbRecord). NearSmall 131 n) is.left v.left;
      above = subst (λ (n : Option MbRecord). NearSmall 131 n) is.above v.above;
      above_right = subst (λ (n : Option MbRecord). NearSmall 131 n) is.above_right v.above_right;
      above_left = subst (λ (n : Option MbRecord). NearSmall 131 n) is.above_left v.above_left;
    }
