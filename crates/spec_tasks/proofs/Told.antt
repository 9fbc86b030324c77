-- What a slice is coded from fits, where its lists' pictures and its header do.
use Rattle.std.proofs.Common.{◌≡◌, ◌≤◌, ◌+◌, ◌*◌, ◌/◌, ◌%◌, ℕ, zero, suc, ℤ, pos, negsuc, Bool, List, [], ◌∷◌, length, map, Some, refl, subst, ◌∙◌, arith}
use Rattle.std.specs.List.{slice_get}
use Rattle.std.proofs.lemmas.List.{length-map}
use Rattle.std.proofs.lemmas.Nat.{div-add-mod'}
use Rattle.enc_tables.specs.declared.records.MbPlan.{MbPlan}
use Rattle.enc_tables.specs.declared.records.MbRecord.{MbRecord}
use Rattle.enc_tables.specs.declared.records.Motion.{Motion}
use Rattle.enc_tables.specs.declared.records.SliceKind.{SliceKind}
use Rattle.enc_tables.specs.declared.records.Vector.{Vector}
use Rattle.spec_headers.specs.declared.heads.SliceHead.{SliceHead}
use Rattle.spec_film.specs.Films.{Planes}
use Rattle.spec_intra.specs.Near.{macroblock_avail}
use Rattle.spec_lists.specs.References.{Reference}
use Rattle.spec_lists.specs.Lists.{Lists}
use Rattle.spec_partitions.specs.InRange.{HasEntries}
use Rattle.spec_partitions.specs.Small.{Small}
use Rattle.spec_partitions.specs.Near.{view_in}
use Rattle.spec_lists.specs.Colocated.{colocated_at}
use Rattle.spec_slice_payload.specs.Layer.{Format, view_of}
use Rattle.spec_slice_payload.specs.Slices.{AreRecords}
use Rattle.spec_coded.specs.Tasks.{task_records}
use Rattle.spec_reconstruction.specs.Inter.{source_at}
use Rattle.spec_inter_plans.specs.InterPlans.{Search, plan_of}
use Rattle.spec_record_laws.specs.Coded.{PlanesFit, ModesFit, ModesAllowed}
use Rattle.spec_record_laws.proofs.Plans.{plans_fit}
use Rattle.spec_record_laws.proofs.Allowed.{plans_allowed}
use Rattle.spec_inter_records.specs.Fits.{SourcesFit, MotionChosen, PartsChosen, InterPlanned, TaskFits}
use Rattle.spec_inter_records.proofs.Along.{records_are}
use Rattle.spec_tasks.specs.Choosing.{sources_of, task_by, search_by, plan_by}
use Rattle.spec_tasks.specs.Given.{PicturesFit, IsGiven}
use Rattle.spec_tasks.proofs.Plans.{most, p_plan, b_plan}

-- ---- pictures

abbrev planes_of : List Reference → List Planes
planes_of list = map (λ r. r.planes) list

there : (list : List Reference) (k : ℕ) (p : Planes) → PicturesFit list → slice_get (planes_of list) k ≡ Some p → PlanesFit p
there [] k p h e = absurd cc
there (r ∷ rs) zero p h e = let same : r.planes ≡ p = cc in subst (λ (q : Planes). PlanesFit q) same h.0
there (r ∷ rs) (suc k) p h e = there rs k p h.1 e

at_index : (list : List Reference) (r : ℤ) (p : Planes) → PicturesFit list → source_at (planes_of list) r ≡ Some p → PlanesFit p
at_index list (pos k) p h e = there list k p h e
at_index list (negsuc k) p h e = absurd cc

sources_fit : (lists : Lists) → PicturesFit lists.list0 → PicturesFit lists.list1 → SourcesFit (sources_of lists)
sources_fit lists g h = record { first = λ r p e. at_index lists.list0 r p g e; second = λ r p e. at_index lists.list1 r p h e }

-- ---- vectors

larger : (m n : ℕ) (v : Vector) → m ≤ n → Small m v → Small n v
larger m n v le h = record { across = (let a = h.across in omega arith); down = (let a = h.down in omega arith) }

motion_larger : (kind : SliceKind) (refs0 refs1 m n : ℕ) (v : Motion) → m ≤ n → MotionChosen kind refs0 refs1 m v → MotionChosen kind refs0 refs1 n v
motion_larger kind refs0 refs1 m n v le h = record {
  first = h.first;
  second = h.second;
  uses = h.uses;
  small0 = larger m n _ le h.small0;
  small1 = larger m n _ le h.small1;
  unused0 = h.unused0;
  unused1 = h.unused1;
}

parts_larger : (kind : SliceKind) (refs0 refs1 m n : ℕ) (plan : MbPlan) → m ≤ n → PartsChosen kind refs0 refs1 m plan → PartsChosen kind refs0 refs1 n plan
parts_larger kind refs0 refs1 m n plan le h = record { at = λ k lt. motion_larger kind refs0 refs1 m n _ le (h.at k lt) }

-- as many entries as the header says
entries_are : (kind : SliceKind) (a b c d m : ℕ) (plan : MbPlan) → a ≡ c → b ≡ d → PartsChosen kind a b m plan → PartsChosen kind c d m plan
entries_are kind a b c d m plan e f h = subst (λ (n : ℕ). PartsChosen kind n d m plan) e (subst (λ (n : ℕ). PartsChosen kind a n m plan) f h)

long : (list : List Reference) (n : ℕ) → length list ≡ n → length (map (λ r. r.planes) list) ≡ n
long list n e = length-map list (λ r. r.planes) ∙ e

parts_for : (kind : SliceKind) (s : Search) (first_row : ℕ) (t8x8 : Bool) (row column refs0 refs1 : ℕ) → length s.sources.list0 ≡ refs0 → length s.sources.list1 ≡ refs1 → refs0 ≤ 4 → refs1 ≤ 4 → HasEntries kind refs0 refs1 → s.range ≤ 32
    → InterPlanned kind refs0 refs1 131 (plan_of kind s first_row t8x8 row column)
unfolding HasEntries
parts_for SliceKind.I s first_row t8x8 row column refs0 refs1 e f few0 few1 some near = tt
parts_for SliceKind.P s first_row t8x8 row column refs0 refs1 e f few0 few1 some near =
    let h = p_plan s first_row t8x8 row column (omega arith) (omega arith) in
    parts_larger SliceKind.P refs0 refs1 (most s) 131 _ (omega arith) (entries_are SliceKind.P _ _ refs0 refs1 (most s) _ e f h)
parts_for SliceKind.B s first_row t8x8 row column refs0 refs1 e f few0 few1 some near =
    let h = b_plan s first_row t8x8 row column (omega (arith, some.0)) (omega arith) (omega (arith, some.1)) (omega arith) in
    parts_larger SliceKind.B refs0 refs1 (most s) 131 _ (omega arith) (entries_are SliceKind.B _ _ refs0 refs1 (most s) _ e f h)

-- ---- modes: the intra part of a plan is the intra plan

modes_fit : (kind : SliceKind) (s : Search) (first_row : ℕ) (t8x8 : Bool) (row column : ℕ) → ModesFit (plan_of kind s first_row t8x8 row column)
unfolding plan_of
modes_fit kind s first_row t8x8 row column =
    let m = plans_fit s.across first_row t8x8 s.source row column in
    record { mode16 = m.mode16; modes8_length = m.modes8_length; modes8 = m.modes8; modes4_length = m.modes4_length; modes4 = m.modes4; chroma_mode = m.chroma_mode }

modes_allowed : (kind : SliceKind) (s : Search) (first_row : ℕ) (t8x8 : Bool) (row column : ℕ) → PlanesFit s.source → ModesAllowed t8x8 (macroblock_avail s.across (first_row * s.across) (row * s.across + column)) (plan_of kind s first_row t8x8 row column)
unfolding plan_of
modes_allowed kind s first_row t8x8 row column g =
    let m = plans_allowed s.across first_row t8x8 s.source row column g in
    record { mode16 = m.mode16; modes8 = m.modes8; modes4 = m.modes4; chroma_mode = m.chroma_mode }

-- ---- all of it

pub task_fits : (f : Format) (h : SliceHead) (lists : Lists) (source : Planes) (range : ℕ) → IsGiven f h lists source range → TaskFits (task_by f h lists source (plan_by f h lists source range))
task_fits f h lists source range g =
    let s : Search = search_by f lists source range in
    record {
      some = g.some;
      qp = g.qp;
      target = λ address. refl;
      source = g.source_fits;
      sources = sources_fit lists g.pictures0 g.pictures1;
      modes = λ address. modes_fit h.kind s (h.first_mb / f.across) f.t8x8 (address / f.across) (address % f.across);
      allowed = λ address. subst (λ (first : ℕ). ModesAllowed f.t8x8 (macroblock_avail f.across first address) (plan_by f h lists source range address)) g.row
          (subst (λ (a : ℕ). ModesAllowed f.t8x8 (macroblock_avail f.across (h.first_mb / f.across * f.across) a) (plan_by f h lists source range address)) (div-add-mod' address f.across)
          (modes_allowed h.kind s (h.first_mb / f.across) f.t8x8 (address / f.across) (address % f.across) g.source_fits));
      parts = λ address. parts_for h.kind s (h.first_mb / f.across) f.t8x8 (address / f.across) (address % f.across) h.refs0 h.refs1 (long lists.list0 h.refs0 g.length0) (long lists.list1 h.refs1 g.length1) g.few0 g.few1 g.entries g.range_fits;
    }

pub planned_records : (f : Format) (h : SliceHead) (lists : Lists) (source : Planes) (range : ℕ) (p : Planes) (n : ℕ) → IsGiven f h lists source range → PlanesFit p
    → AreRecords f (colocated_at lists) h [] (task_records (task_by f h lists source (plan_by f h lists source range)) p n)
planned_records f h lists source range p n g fits = records_are f h (task_by f h lists source (plan_by f h lists source range)) p n refl (task_fits f h lists source range g) fits

pub seen_alike : (f : Format) (h : SliceHead) (lists : Lists) (source : Planes) (plan : ℕ → MbPlan) (before : List MbRecord) → (let t = task_by f h lists source plan in view_in t.facts t.colocated before) ≡ view_of f (colocated_at lists) h before
seen_alike f h lists source plan before = refl
