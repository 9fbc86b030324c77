-- A slice of rows is a slice of the picture.
use Rattle.std.proofs.Common.{◌≡◌, ◌≤◌, ◌<◌, ◌+◌, ◌-◌, ◌*◌, ◌/◌, ◌++◌, ℕ, zero, suc, Bool, true, false, List, [], ◌∷◌, length, take, drop, get_or, refl, sym, ap, ap₂, subst, ◌∙◌, arith, length-append, append_assoc}
use Rattle.std.specs.List.{All}
use Rattle.std.proofs.lemmas.List.{get_or-take, get_or-drop, length-take, length-take-le, length-drop, take_at}
use Rattle.std.proofs.lemmas.List.Elements.{All-nil, All-cons}
use Rattle.std.proofs.Math.Nat.{mul-div_cancel}
use Rattle.enc_tables.specs.declared.records.MbRecord.{MbRecord}
use Rattle.enc_tables.specs.declared.records.MbPlan.{MbPlan}
use Rattle.enc_tables.specs.declared.plans.RowPlan.{RowPlan}
use Rattle.enc_tables.specs.declared.records.SliceKind.{SliceKind}
use Rattle.enc_tables.specs.Choice.{SmallCosts}
use Rattle.enc_tables.specs.declared.records.SliceKind.{SliceKind}
use Rattle.picture_planes.specs.declared.picture.Picture.{Picture}
use Rattle.spec_film.specs.Films.{Planes}
use Rattle.spec_headers.specs.declared.heads.SliceHead.{SliceHead}
use Rattle.spec_lists.specs.Lists.{Lists as ShownLists}
use Rattle.spec_partitions.specs.Near.{has_residual, near_in, last_qp}
use Rattle.spec_macroblock.specs.Records.{QpFits}
use Rattle.spec_macroblock.proofs.Following.{qp_follows}
use Rattle.spec_slice_payload.specs.Layer.{Format, Slice, Colocated, near_of}
use Rattle.spec_slice_payload.specs.Slices.{AreRecords, IsSlice}
use Rattle.spec_slice_payload.specs.Writing.{layer_bits}
use Rattle.spec_reconstruction.specs.Inter.{Sources}
use Rattle.spec_reconstruction.specs.Records.{slice_built}
use Rattle.spec_inter_plans.specs.InterPlans.{row_plans}
use Rattle.spec_coded.specs.Tasks.{Task, records_in_order, task_records}
use Rattle.spec_coded.specs.Coarsest.{coarsest_records}
use Rattle.spec_tasks.specs.Choosing.{search_by, task_by, plan_by, sources_of}
use Rattle.spec_encoding.proofs.Numbers.{behind}
use Rattle.spec_film_coder.specs.Pictures.{first_of, count_of}
use Rattle.ref_lists.specs.Named.{named}
use Rattle.picture_plans.specs.Planned.{row_at, RowsPlanned}
use Rattle.slice_coder.specs.Plans.{ArePlanned, format_of, task_of}
use Rattle.slice_coder.specs.Records.{records_by, coded}
use Rattle.picture_coder.specs.declared.coding.Coding.{Coding}
use Rattle.picture_coder.specs.declared.job.Job.{Job}
use Rattle.picture_coder.specs.Jobs.{source_in, head_in}
use Rattle.picture_coder.specs.Pictures.{shape_of, format_for, IsCoding, HasPlansFor, IsQuantised, slice_at, SliceCoded}
use Rattle.picture_coder.proofs.Sizes.{sixteenth}
use Rattle.picture_coder.proofs.JobHeads.{head_first, head_kind, head_lists}

-- ---- numbers

pub between : (a b w : ℕ) → a ≤ b → (b - a) * w ≡ b * w - a * w
between a b w h = let e = behind a b w h in omega arith

-- so many records were lent
pub lent : (a b w m from to : ℕ) (records : List MbRecord) → from ≡ a * w → to ≡ b * w → a ≤ b → to ≤ length records → m ≡ w → length (take (to - from) (drop from records)) ≡ (b - a) * m
lent a b w m from to records f g h inside e =
    let rest = length-drop from records in
    length-take-le (to - from) (drop from records) (omega arith) ∙ ap₂ (λ (x y : ℕ). y - x) f g ∙ sym (between a b w h) ∙ ap (λ (k : ℕ). (b - a) * k) (sym e)

pub first_small : (row across : ℕ) → row ≤ 144 → across ≤ 256 → row * across ≤ 36864
first_small row across h g = grind arith

pub same_format : (c : Coding) (j : Job) (p : Picture) → IsCoding c j p → format_of p j.t8x8 ≡ format_for c j
same_format c j p is = by (p.y.width / 16) (p.y.height / 16) (sixteenth p.y.width c.across is.wide) (sixteenth p.y.height c.down is.high)
  where
    by : (a d : ℕ) → a ≡ c.across → d ≡ c.down → (let f : Format = record { across = a; total = a * d; t8x8 = j.t8x8 } in f ≡ format_for c j)
    by a d e h =
        ap (λ (n : ℕ). let f : Format = record { across = n; total = n * d; t8x8 = j.t8x8 } in f) e
        ∙ ap (λ (n : ℕ). let f : Format = record { across = c.across; total = c.across * n; t8x8 = j.t8x8 } in f) h

-- ---- the plans of a slice

-- planned, with this range
abbrev pub PlannedBy : Format → SliceHead → ShownLists → Planes → ℕ → List RowPlan → Type 0
PlannedBy f h lists source range plans = (a : ArePlanned f h lists source plans) × (a.range ≡ range)

-- the plans of some rows
part_planned : (f : Format) (h : SliceHead) (lists : ShownLists) (source : Planes) (range first end : ℕ) (plans : List RowPlan) → range ≤ 32 → h.first_mb / f.across ≡ first → end ≤ length plans
    → RowsPlanned h.kind (search_by f lists source range) first end f.t8x8 plans → PlannedBy f h lists source range (take (end - first) (drop first plans))
part_planned f h lists source range first end plans most at inside are = (
  record {
    range = range;
    range_fits = most;
    rows = λ k d l.
        ap (λ (p : RowPlan). p.mbs.items) (got k d l)
        ∙ (are (first + k) d (omega arith) (omega (arith, short k l))).plans
        ∙ ap (λ (r : ℕ). row_plans h.kind (search_by f lists source range) r f.t8x8 (r + k)) (sym at);
    small = λ k d l. subst (λ (p : RowPlan). All SmallCosts p.mbs.items) (sym (got k d l)) (are (first + k) d (omega arith) (omega (arith, short k l))).small;
  },
  refl,
)
  where
    short : (k : ℕ) → k < length (take (end - first) (drop first plans)) → k < end - first
    short k l = omega (arith, l, length-take (end - first) (drop first plans))

    got : (k : ℕ) (d : RowPlan) → k < length (take (end - first) (drop first plans)) → get_or (take (end - first) (drop first plans)) k d ≡ get_or plans (first + k) d
    got k d l = get_or-take (end - first) (drop first plans) k d (short k l) ∙ get_or-drop first plans k d

-- ---- the slice

-- the laws on slices by the plans of rows
pub record AreSearched : Type 0 where
  pub plain : (f : Format) (h : SliceHead) (lists : ShownLists) (source : Planes) (plans : List RowPlan) (a : ArePlanned f h lists source plans) (before : Planes) (row n : ℕ) → 0 < f.across → h.first_mb ≡ row * f.across → n ≤ length plans * f.across
      → task_records (task_of f h lists source plans) before n ≡ task_records (task_by f h lists source (plan_by f h lists source a.range)) before n
  pub coarsest : (f : Format) (h : SliceHead) (lists : ShownLists) (source : Planes) (plans : List RowPlan) (plan : ℕ → MbPlan) (before : Planes) (n : ℕ)
      → coarsest_records (task_of f h lists source plans) before n ≡ coarsest_records (task_by f h lists source plan) before n

-- what a call that codes rows of a picture is given for slice k
pub record IsGiven (c : Coding) (j : Job) (plans : List RowPlan) (k first end n : ℕ) (h : SliceHead) : Type 0 where
  pub coding : IsCoding c j j.source.now
  pub slice : k < c.slices
  pub first_is : first ≡ row_at c.slices c.down k
  pub end_is : end ≡ row_at c.slices c.down (k + 1)
  pub order : first < end
  pub inside : end ≤ length plans
  pub head : h ≡ head_in j c.qp (first * c.across)
  pub count : n ≡ (end - first) * (j.source.now.y.width / 16)
  pub planned : HasPlansFor c j plans
  pub laws : AreSearched

pub given_slice : (c : Coding) (j : Job) (plans : List RowPlan) (k first end from to : ℕ) (h : SliceHead) (records : List MbRecord) → IsCoding c j j.source.now → k < c.slices → first ≡ row_at c.slices c.down k → end ≡ row_at c.slices c.down (k + 1)
    → first < end → end ≤ length plans → h ≡ head_in j c.qp (first * c.across) → HasPlansFor c j plans → from ≡ first * c.across → to ≡ end * c.across → to ≤ length records → AreSearched
    → IsGiven c j plans k first end (length (take (to - from) (drop from records))) h
given_slice c j plans k first end from to h records is few a b some within head planned f g inside searched = record {
  coding = is;
  slice = few;
  first_is = a;
  end_is = b;
  order = some;
  inside = within;
  head = head;
  count = lent first end c.across (j.source.now.y.width / 16) from to records f g (omega (arith, some)) inside (sixteenth j.source.now.y.width c.across is.wide);
  planned = planned;
  laws = searched;
}

first_mb_is : (c : Coding) (j : Job) (plans : List RowPlan) (k first end n : ℕ) (h : SliceHead) → IsGiven c j plans k first end n h → h.first_mb ≡ first * c.across
first_mb_is c j plans k first end n h g = ap (λ (x : SliceHead). x.first_mb) g.head ∙ head_first j c.qp (first * c.across)

abbrev part : ℕ → ℕ → List RowPlan → List RowPlan
part first end plans = take (end - first) (drop first plans)

-- its rows are planned
pub slice_planned : (c : Coding) (j : Job) (plans : List RowPlan) (k first end n : ℕ) (h : SliceHead) → IsGiven c j plans k first end n h → c.coarsest ≡ false → PlannedBy (format_of j.source.now j.t8x8) h (named j.lists.now) (source_in j) j.range (take (end - first) (drop first plans))
slice_planned c j plans k first end n h g chosen =
    let f : Format = format_for c j in
    let kind : h.kind ≡ j.step.kind = ap (λ (x : SliceHead). x.kind) g.head ∙ head_kind j c.qp (first * c.across) g.coding.job.step in
    let at : h.first_mb / c.across ≡ first = ap (λ (m : ℕ). m / c.across) (first_mb_is c j plans k first end n h g) ∙ mul-div_cancel first g.coding.across_some in
    let rows : RowsPlanned h.kind (search_by f (named j.lists.now) (source_in j) j.range) first end j.t8x8 plans =
    subst (λ (s : SliceKind). RowsPlanned s (search_by f (named j.lists.now) (source_in j) j.range) first end j.t8x8 plans) (sym kind)
    (subst (λ (a : ℕ). RowsPlanned j.step.kind (search_by f (named j.lists.now) (source_in j) j.range) a end j.t8x8 plans) (sym g.first_is)
    (subst (λ (b : ℕ). RowsPlanned j.step.kind (search_by f (named j.lists.now) (source_in j) j.range) (row_at c.slices c.down k) b j.t8x8 plans) (sym g.end_is) (g.planned chosen k g.slice))) in
    subst (λ (x : Format). PlannedBy x h (named j.lists.now) (source_in j) j.range (part first end plans)) (sym (same_format c j j.source.now g.coding))
    (part_planned f h (named j.lists.now) (source_in j) j.range first end plans g.coding.job.range_fits at g.inside rows)

-- records by the plans of rows are those of the search
searched : AreSearched → (b : Bool) (f : Format) (h : SliceHead) (lists : ShownLists) (source : Planes) (range : ℕ) (plans : List RowPlan) (before : Planes) (row n : ℕ) → (b ≡ false → PlannedBy f h lists source range plans) → 0 < f.across → h.first_mb ≡ row * f.across
    → n ≤ length plans * f.across → records_by b (task_of f h lists source plans) before n ≡ records_by b (task_by f h lists source (plan_by f h lists source range)) before n
searched laws true f h lists source range plans before row n are some first few = laws.coarsest f h lists source plans (plan_by f h lists source range) before n
searched laws false f h lists source range plans before row n are some first few =
    laws.plain f h lists source plans (are refl).0 before row n some first few
    ∙ ap (λ (r : ℕ). records_by false (task_by f h lists source (plan_by f h lists source r)) before n) (are refl).1

made : Coding → Job → Planes → Format → ShownLists → SliceHead → ℕ → Slice
made c j before f lists h n = record { head = h; records = records_by c.coarsest (task_by f h lists (source_in j) (plan_by f h lists (source_in j) j.range)) before n }

pub slice_is : (c : Coding) (j : Job) (plans : List RowPlan) (k first end n : ℕ) (h : SliceHead) (before : Planes) → IsGiven c j plans k first end n h
    → coded c.coarsest h (task_of (format_of j.source.now j.t8x8) h (named j.lists.now) (source_in j) (take (end - first) (drop first plans))) before n ≡ slice_at c j k before
unfolding made
slice_is c j plans k first end n h before g =
    let f : Format = format_of j.source.now j.t8x8 in
    let l : ShownLists = named j.lists.now in
    let wide : f.across ≡ c.across = sixteenth j.source.now.y.width c.across g.coding.wide in
    let first_is : h.first_mb ≡ first * f.across = first_mb_is c j plans k first end n h g ∙ ap (λ (a : ℕ). first * a) (sym wide) in
    let some : 0 < f.across = subst (λ (a : ℕ). 0 < a) (sym wide) g.coding.across_some in
    let long : length (part first end plans) ≡ end - first = length-take-le (end - first) (drop first plans) (omega (arith, length-drop first plans, g.inside)) in
    let all : n ≡ length (part first end plans) * f.across = g.count ∙ ap (λ (m : ℕ). m * f.across) (sym long) in
    let head : h ≡ head_in j c.qp (first_of (shape_of c j) k) = g.head ∙ ap (λ (r : ℕ). head_in j c.qp (r * c.across)) g.first_is in
    let count : n ≡ count_of (shape_of c j) k = g.count ∙ ap (λ (a : ℕ). (end - first) * a) wide ∙ ap₂ (λ (a b : ℕ). (b - a) * c.across) g.first_is g.end_is in
    ap (λ (rs : List MbRecord). let s : Slice = record { head = h; records = rs } in s)
    (searched g.laws c.coarsest f h l (source_in j) j.range (part first end plans) before first n (slice_planned c j plans k first end n h g) some first_is (omega (arith, all)))
    ∙ ap (λ (x : Format). made c j before x l h n) (same_format c j j.source.now g.coding)
    ∙ ap (λ (x : SliceHead). made c j before (format_for c j) l x n) head
    ∙ ap₂ (λ (m : ℕ) (x : ShownLists). made c j before (format_for c j) x (head_in j c.qp (first_of (shape_of c j) k)) m) count (sym (head_lists c.across c.down j c.qp (first_of (shape_of c j) k) g.coding.job))

pub bits_are : (c : Coding) (j : Job) (plans : List RowPlan) (k first end n : ℕ) (h : SliceHead) (before : Planes) → IsGiven c j plans k first end n h
    → layer_bits (format_of j.source.now j.t8x8) (coded c.coarsest h (task_of (format_of j.source.now j.t8x8) h (named j.lists.now) (source_in j) (take (end - first) (drop first plans))) before n) ≡ layer_bits (format_for c j) (slice_at c j k before)
bits_are c j plans k first end n h before g = ap₂ (λ (f : Format) (s : Slice). layer_bits f s) (same_format c j j.source.now g.coding) (slice_is c j plans k first end n h before g)

length-order : {A : Type 0} (next : List A → Planes → A) (built : List A → Planes) (n : ℕ) → length (records_in_order next built n) ≡ n
unfolding records_in_order
length-order next built zero = refl
length-order next built (suc n) = omega (arith, length-append (records_in_order next built n) (next (records_in_order next built n) (built (records_in_order next built n)) ∷ []), length-order next built n)

records_long : (b : Bool) (t : Task) (p : Planes) (n : ℕ) → length (records_by b t p n) ≡ n
unfolding task_records coarsest_records
records_long true t p n = length-order _ _ n
records_long false t p n = length-order _ _ n

-- records that are written over those of the slice
written : (from to : ℕ) (was new : List MbRecord) → from ≤ to → to ≤ length was → length new ≡ to - from → take to (take from was ++ (new ++ drop (to - from) (drop from was))) ≡ take from was ++ new
written from to was new h inside long =
    let front : length (take from was) ≡ from = length-take-le from was (omega arith) in
    let both : length (take from was ++ new) ≡ to = length-append (take from was) new ∙ ap₂ (λ (a b : ℕ). a + b) front long ∙ omega arith in
    ap (λ (rs : List MbRecord). take to rs) (sym (append_assoc (take from was) new (drop (to - from) (drop from was))))
    ∙ take_at (take from was ++ new) (drop (to - from) (drop from was)) to both

pub slice_coded : (c : Coding) (j : Job) (plans : List RowPlan) (k first end n from to : ℕ) (h : SliceHead) (before now : Planes) (was new : List MbRecord) → IsGiven c j plans k first end n h → from ≡ first * c.across → to ≡ end * c.across → from ≤ to → to ≤ length was
    → new ≡ records_by c.coarsest (task_of (format_of j.source.now j.t8x8) h (named j.lists.now) (source_in j) (take (end - first) (drop first plans))) before n
    → now ≡ slice_built (j.source.now.y.width / 16) (sources_of (named j.lists.now)) h.first_mb new before
    → SliceCoded c j (slice_at c j k before) k before now was (take from was ++ (new ++ drop (to - from) (drop from was)))
slice_coded c j plans k first end n from to h before now was new g a b rows inside records planes =
    let wide = sixteenth j.source.now.y.width c.across g.coding.wide in
    let o : Sources = sources_of (named j.lists.now) in
    let same = slice_is c j plans k first end n h before g in
    let are : new ≡ (slice_at c j k before).records = records ∙ ap (λ (s : Slice). s.records) same in
    let from_is : from ≡ first_of (shape_of c j) k = a ∙ ap (λ (r : ℕ). r * c.across) g.first_is in
    let to_is : to ≡ first_of (shape_of c j) (k + 1) = b ∙ ap (λ (r : ℕ). r * c.across) g.end_is in
    let long : length new ≡ to - from =
    ap (λ (rs : List MbRecord). length rs) records
    ∙ records_long c.coarsest (task_of (format_of j.source.now j.t8x8) h (named j.lists.now) (source_in j) (part first end plans)) before n
    ∙ g.count
    ∙ ap (λ (a : ℕ). (end - first) * a) wide
    ∙ between first end c.across (omega (arith, g.order))
    ∙ ap₂ (λ (a b : ℕ). b - a) (sym a) (sym b) in
    record {
      planes =
          planes
          ∙ ap (λ (a : ℕ). slice_built a o h.first_mb new before) wide
          ∙ ap (λ (rs : List MbRecord). slice_built c.across o h.first_mb rs before) records
          ∙ ap (λ (s : Slice). slice_built c.across o s.head.first_mb s.records before) same;
      records =
          ap (λ (m : ℕ). take m (take from was ++ (new ++ drop (to - from) (drop from was)))) (sym to_is)
          ∙ written from to was new rows inside long
          ∙ ap₂ (λ (m : ℕ) (rs : List MbRecord). take m was ++ rs) from_is are;
    }

-- ---- the quantisation parameters of records that the syntax can give

near_qp : (f : Format) (h : SliceHead) (before : List MbRecord) → (near_of f h before).qp ≡ last_qp h.qp before
unfolding near_in
near_qp f h before = refl

small_qp : (b : Bool) (before qp : ℕ) → before ≤ 51 → QpFits b before qp → qp ≤ 51
small_qp true before qp h fits = fits.0
small_qp false before qp h fits = omega (arith, h, fits)

next_quantised : (f : Format) (c : Colocated) (h : SliceHead) (before rs : List MbRecord) → last_qp h.qp before ≤ 51 → AreRecords f c h before rs → All IsQuantised rs
next_quantised f c h before [] small are = All-nil IsQuantised
next_quantised f c h before (mb ∷ rs) small are =
    let here : mb.qp ≤ 51 = small_qp (has_residual mb) (near_of f h before).qp mb.qp (subst (λ (q : ℕ). q ≤ 51) (sym (near_qp f h before)) small) are.0.written.qp_fits in
    All-cons IsQuantised mb rs here (next_quantised f c h (before ++ mb ∷ []) rs (subst (λ (q : ℕ). q ≤ 51) (sym (qp_follows h.qp before mb)) here) are.1)

no_more : (qp : ℕ) → last_qp qp [] ≡ qp
unfolding last_qp
no_more qp = refl

pub all_small : (f : Format) (c : Colocated) (idr : Bool) (s t : Slice) → s ≡ t → s.head.qp ≤ 51 → IsSlice f c idr s → All IsQuantised t.records
all_small f c idr s t e small is =
    subst (λ (x : Slice). All IsQuantised x.records) e
    (next_quantised f c s.head [] s.records (subst (λ (q : ℕ). q ≤ 51) (sym (no_more s.head.qp)) small) is.each)
