-- A macroblock, coded by its plan.
use Rattle.std.proofs.Common.{◌≡◌, ℕ, zero, suc, ◌+◌, ◌*◌, ◌/◌, ◌<◌, ◌≤◌, ◌&&◌, ◌++◌, not, cond, Bool, true, false, List, [], ◌∷◌, replicate, get_or, Option, Some, None, refl, sym, ap, subst, ◌∙◌, arith, lit≤}
use Rattle.std.specs.Prelude.{IfSome, nat_le, negsuc, pos, ℤ, int_lt, if◌then◌else◌}
use Rattle.enc_tables.specs.declared.records.MbKind.{MbKind}
use Rattle.enc_tables.specs.declared.records.MbPlan.{MbPlan}
use Rattle.enc_tables.specs.declared.records.MbRecord.{MbRecord}
use Rattle.enc_tables.specs.declared.records.Motion.{Motion}
use Rattle.enc_tables.specs.declared.records.SliceKind.{SliceKind}
use Rattle.enc_tables.specs.declared.plans.RowPlan.{RowPlan}
use Rattle.enc_tables.specs.Choice.{choice}
use Rattle.enc_tables.specs.Kinds.{is_intra, is_pcm}
use Rattle.enc_tables.specs.Plans.{blank_part}
use Rattle.enc_tables.specs.Records.{zero_vector, blank_record}
use Rattle.picture_planes.specs.declared.plane.Plane.{Plane}
use Rattle.picture_planes.specs.declared.stripe.Stripe.{Stripe}
use Rattle.spec_basics.specs.Sums.{sad}
use Rattle.spec_contexts.specs.Near.{pointed}
use Rattle.spec_film.specs.Films.{Planes}
use Rattle.spec_headers.specs.declared.heads.SliceHead.{SliceHead}
use Rattle.spec_partitions.specs.Derived.{skip_motion, direct_motion}
use Rattle.spec_partitions.specs.Near.{View, has_residual}
use Rattle.spec_partitions.specs.Small.{Small}
use Rattle.spec_partitions.proofs.Small.{zero_small}
use Rattle.spec_reconstruction.specs.declared.Site.{Site}
use Rattle.spec_reconstruction.specs.Inter.{inter_built, luma_predicted}
use Rattle.spec_reconstruction.specs.Parts.{block_at}
use Rattle.spec_reconstruction.specs.Records.{site_of, macroblock_built}
use Rattle.spec_reconstruction.specs.Slices.{coded_record}
use Rattle.spec_coded.specs.Planned.{moving, planned}
use Rattle.spec_coded.specs.Levels.{with_levels, levelled, predicted_planes, is_blank}
use Rattle.spec_coded.specs.Tasks.{Task, by_motion, by_choice, difference_from, in_p, in_b, in_slice, reached, record_at}
use Rattle.spec_inter_records.proofs.Choices.{Chosen}
use Rattle.residual_coder.specs.Inside.{IsSource}
use Rattle.intra_coder.specs.Reach.{Stands}
use Rattle.inter_coder.specs.declared.given.Pictures.{Pictures}
use Rattle.inter_coder.specs.declared.given.Beside.{Beside}
use Rattle.inter_coder.specs.Given.{wide_of, sources_in, source_in, IsBeside}
use Rattle.inter_coder.specs.Made.{made_by, built_by, difference_of, if_blank, direct_or, Taken}
use Rattle.slice_coder.specs.declared.place.Place.{Place}
use Rattle.slice_coder.specs.Plans.{HoldsRows}
use Rattle.slice_coder.specs.Given.{task_in, PlannedFor, taken_or}
use Rattle.slice_coder.proofs.Building.{inter_is}
use Rattle.slice_coder.proofs.Planned.{row_of}
use Rattle.slice_coder.proofs.Shapes.{row_inside}

-- ---- modes

small_append : (xs ys : List ℕ) → ((i : ℕ) → get_or xs i 0 ≤ 8) → ((i : ℕ) → get_or ys i 0 ≤ 8) → (i : ℕ) → get_or (xs ++ ys) i 0 ≤ 8
small_append [] ys h g i = g i
small_append (x ∷ xs) ys h g zero = h zero
small_append (x ∷ xs) ys h g (suc i) = small_append xs ys (λ j. h (suc j)) g i

small_zeros : (n i : ℕ) → get_or (replicate n 0) i 0 ≤ 8
small_zeros zero i = lit≤ tt
small_zeros (suc n) zero = lit≤ tt
small_zeros (suc n) (suc i) = small_zeros n i

pub modes8_small : (modes all : List ℕ) → all ≡ modes ++ replicate 12 0 → ((i : ℕ) → get_or modes i 0 ≤ 8) → (b : ℕ) → get_or all b 0 < 9
modes8_small modes all e h b =
    let k : get_or all b 0 ≤ 8 = subst (λ (xs : List ℕ). get_or xs b 0 ≤ 8) (sym e) (small_append modes (replicate 12 0) h (small_zeros 12) b) in
    omega arith

-- ---- plans

used_small : (list : ℕ) (m : Motion) (r : ℤ) → Small 131 (get_or m.vectors list zero_vector) → Small 131 (if int_lt r (pos 0) then zero_vector else get_or m.vectors list zero_vector)
used_small list m r h = go (int_lt r (pos 0))
  where
    go : (b : Bool) → Small 131 (if b then zero_vector else get_or m.vectors list zero_vector)
    go true = zero_small 131
    go false = h

-- partitions that may be coded
pub planned_for : (s : SliceKind) (entries0 entries1 : ℕ) (t8x8 : Bool) (plan : MbPlan) (k : MbKind) → Chosen s entries0 entries1 t8x8 plan k → is_intra k ≡ false → PlannedFor entries0 entries1 k plan
planned_for s entries0 entries1 t8x8 plan k c e =
    let i = c.inter e in
    record {
      moves = i.0;
      fits = record { at = λ n l. record { first = (i.2.at n l).first; second = (i.2.at n l).second } };
      small = record {
        at = λ n l. record {
          first = used_small 0 (get_or plan.parts n blank_part).motion (get_or (get_or plan.parts n blank_part).motion.refs 0 (negsuc 0)) (i.2.at n l).small0;
          second = used_small 1 (get_or plan.parts n blank_part).motion (get_or (get_or plan.parts n blank_part).motion.refs 1 (negsuc 0)) (i.2.at n l).small1;
        };
      };
    }

-- ---- the place

-- a macroblock of the slice stands in each stripe that has the slice's rows, as it does in one that has more of them
pub stands_at : (s : Stripe) (whole : Plane) (row count across n qp : ℕ) (site : Site) → site ≡ site_of across (row * across) (row * across + n) qp → 0 < across → n / across < count → HoldsRows s row (row + count)
    → s.picture.now.y.width ≡ whole.width → Stands (site_of across (row * across) (row * across + n) qp) (16 * s.first) whole → Stands site (16 * s.first) s.picture.now.y
stands_at s whole row count across n qp site e some inside holds w st =
    let below : (row * across + n) / across ≡ row + n / across = row_of n row across some in
    let ends : 16 * (row + count) ≤ 16 * s.first + s.picture.now.y.height = holds.ends in
    subst (λ (t : Site). Stands t (16 * s.first) s.picture.now.y) (sym e) record {
      columns = (let k = st.columns in omega arith);
      begins = st.begins;
      rows = omega arith;
      left = st.left;
      above = st.above;
      corner_left = st.corner_left;
      corner_above = st.corner_above;
      beyond = λ h. (let k = st.beyond h in omega arith);
      beyond_above = st.beyond_above;
    }

-- with rows above it a plane has more macroblocks
pub more_rows : (across top down n : ℕ) → n < across * down → n < across * (top + down)
more_rows across top down n h =
    let e : across * (top + down) ≡ across * top + across * down = grind arith in
    omega arith

-- and the source has its block
pub source_at : (source plane : Plane) (across first address qp : ℕ) (site : Site) → site ≡ site_of across first address qp → 0 < across → address < across * (source.height / 16) → plane.width ≡ source.width → IsSource 16 site.y plane source
source_at source plane across first address qp site e some inside w =
    let turned : source.height / 16 * across ≡ across * (source.height / 16) = grind arith in
    let row : address / across < source.height / 16 = row_inside address (source.height / 16) across some (omega arith) in
    subst (λ (t : Site). IsSource 16 t.y plane source) (sym e) record { wide = sym w; rows = omega arith }

-- ---- by the choice

pub chosen_intra : (t : Task) (site : Site) (view : View) (plan : MbPlan) (kind : MbKind) (p : Planes) → is_intra kind ≡ true → coded_record t.facts.width site kind plan t.source p ≡ by_choice t site view plan kind p
unfolding by_choice
chosen_intra t site view plan kind p e = rw e refl

pub chosen_inter : (t : Task) (site : Site) (view : View) (plan : MbPlan) (kind : MbKind) (p : Planes) → is_intra kind ≡ false → by_motion t site (planned view plan kind site.qp) ≡ by_choice t site view plan kind p
unfolding by_choice
chosen_inter t site view plan kind p e = rw e refl

-- a macroblock with the levels over what its motion predicts
pub motion_is : (place : Place) (h : SliceHead) (p : Pictures) (plans : List RowPlan) (site : Site) (mb : MbRecord) → wide_of p ≡ 16 * place.across → made_by p place.t8x8 site mb ≡ by_motion (task_in place h p plans) site mb
unfolding by_motion
motion_is place h p plans site mb w = ap (λ (wide : ℕ). levelled wide site place.t8x8 (source_in p) (predicted_planes wide (sources_in p) site mb) mb) w

pub difference_is : (place : Place) (h : SliceHead) (p : Pictures) (plans : List RowPlan) (site : Site) (mb : MbRecord) → wide_of p ≡ 16 * place.across → difference_of p site mb ≡ difference_from (task_in place h p plans) site mb
difference_is place h p plans site mb w = ap (λ (wide : ℕ). sad (block_at wide site.x site.y 16 (source_in p).luma) (luma_predicted wide (sources_in p) site mb)) w

-- its kind and its QP are those of the macroblock without levels
pub made_kind : (p : Pictures) (t8x8 : Bool) (site : Site) (mb : MbRecord) → (made_by p t8x8 site mb).kind ≡ mb.kind
unfolding levelled with_levels
made_kind p t8x8 site mb = refl

pub made_qp : (p : Pictures) (t8x8 : Bool) (site : Site) (mb : MbRecord) → (made_by p t8x8 site mb).qp ≡ mb.qp
unfolding levelled with_levels
made_qp p t8x8 site mb = refl

pub planned_kind : (view : View) (plan : MbPlan) (kind : MbKind) (qp : ℕ) → (planned view plan kind qp).kind ≡ kind
unfolding planned blank_record
planned_kind view plan kind qp = refl

pub planned_qp : (view : View) (plan : MbPlan) (kind : MbKind) (qp : ℕ) → (planned view plan kind qp).qp ≡ qp
unfolding planned blank_record
planned_qp view plan kind qp = refl

pub moving_kind : (kind : MbKind) (qp : ℕ) (motion : List Motion) → (moving kind qp motion).kind ≡ kind
unfolding blank_record
moving_kind kind qp motion = refl

pub moving_qp : (kind : MbKind) (qp : ℕ) (motion : List Motion) → (moving kind qp motion).qp ≡ qp
unfolding blank_record
moving_qp kind qp motion = refl

-- what is around a macroblock, as far as the code finds it
abbrev pub view_from : Beside → View
view_from b = record {
  near = record { kind = SliceKind.P; left = pointed b.left; above = pointed b.above; last_delta = false; qp = 0; t8x8 = false; refs0 = 0; refs1 = 0 };
  above_right = pointed b.above_right;
  above_left = pointed b.above_left;
  colocated = [];
}

pub around_it : (b : Beside) → IsBeside (view_from b) b
around_it b = record { left = refl; above = refl; above_right = refl; above_left = refl }

-- with the motion of the co-located blocks
abbrev pub with_colocated : Beside → List (Option Motion) → View
with_colocated b c = record (view_from b) { colocated = c }

pub around_there : (b : Beside) (c : List (Option Motion)) → IsBeside (with_colocated b c) b
around_there b c = record { left = refl; above = refl; above_right = refl; above_left = refl }

-- what is built of an inter macroblock
pub built_inter : (place : Place) (p : Pictures) (first address : ℕ) (site : Site) (mb : MbRecord) (planes : Planes) → wide_of p ≡ 16 * place.across → is_intra mb.kind ≡ false → mb.qp ≡ site.qp → site ≡ site_of place.across first address site.qp
    → built_by p site mb planes ≡ macroblock_built place.across (sources_in p) first address mb planes
built_inter place p first address site mb planes w inter same is = ap (λ (wide : ℕ). inter_built wide (sources_in p) site mb planes) w ∙ inter_is place.across (sources_in p) first address site mb planes inter same is

-- one of a kind that moves, without levels
pub built_moving : (place : Place) (p : Pictures) (first address : ℕ) (site : Site) (kind : MbKind) (motion : List Motion) (mb : MbRecord) (planes : Planes) → wide_of p ≡ 16 * place.across → is_intra kind ≡ false → mb ≡ moving kind site.qp motion
    → site ≡ site_of place.across first address site.qp → built_by p site mb planes ≡ macroblock_built place.across (sources_in p) first address mb planes
built_moving place p first address site kind motion mb planes w inter e is =
    built_inter place p first address site mb planes w (ap (λ (r : MbRecord). is_intra r.kind) e ∙ ap (λ (k : MbKind). is_intra k) (moving_kind kind site.qp motion) ∙ inter)
    (ap (λ (r : MbRecord). r.qp) e ∙ moving_qp kind site.qp motion) is

-- ---- the mean of the samples around, without levels

abbrev pub by_mean : ℕ → MbRecord
by_mean qp = record (blank_record MbKind.Intra16 qp) { modes = 2 ∷ replicate 15 0 }

pub mean_qp : (qp : ℕ) → (by_mean qp).qp ≡ qp
unfolding blank_record
mean_qp qp = refl

mean_kind : (qp : ℕ) → (let mb : MbRecord = by_mean qp in (is_intra mb.kind && not (is_pcm mb.kind)) ≡ true)
unfolding blank_record
mean_kind qp = refl

pub mean_intra : (qp : ℕ) (mb : MbRecord) → mb ≡ by_mean qp → (is_intra mb.kind && not (is_pcm mb.kind)) ≡ true
mean_intra qp mb e = ap (λ (r : MbRecord). is_intra r.kind && not (is_pcm r.kind)) e ∙ mean_kind qp

-- ---- skipped and direct ones

-- an inter macroblock of this QP
pub record IsInter (qp : ℕ) (mb : MbRecord) : Type 0 where
  pub inter : is_intra mb.kind ≡ false
  pub same : mb.qp ≡ qp

abbrev pub MaybeInter : ℕ → Option MbRecord → Type 0
MaybeInter qp None = Unit {0}
MaybeInter qp (Some mb) = IsInter qp mb

pub same_of : (qp : ℕ) (o : Option MbRecord) → MaybeInter qp o → IfSome o (λ mb. mb.qp ≡ qp)
same_of qp None m = tt
same_of qp (Some mb) m = m.same

pub taken_is : (place : Place) (p : Pictures) (first address : ℕ) (site : Site) (o : Option MbRecord) (old new : Planes) → wide_of p ≡ 16 * place.across → site ≡ site_of place.across first address site.qp → MaybeInter site.qp o
    → Taken (built_by p site) old new o → Taken (macroblock_built place.across (sources_in p) first address) old new o
taken_is place p first address site None old new w is m t = t
taken_is place p first address site (Some mb) old new w is m t = t ∙ built_inter place p first address site mb old w m.inter m.same is

pub none_taken : (built : MbRecord → Planes → Planes) (old new : Planes) (o : Option MbRecord) → Taken built old new o → o ≡ None → new ≡ old
none_taken built old new o t e = subst (λ (x : Option MbRecord). Taken built old new x) e t

pub blank_inter : (qp : ℕ) (b : Bool) (mb : MbRecord) → IsInter qp mb → MaybeInter qp (cond b (Some mb) None)
blank_inter qp true mb h = h
blank_inter qp false mb h = tt

pub direct_inter : (qp : ℕ) (b c : Bool) (mb skipped : MbRecord) → IsInter qp mb → IsInter qp skipped → MaybeInter qp (cond b (Some skipped) (cond c (Some mb) None))
direct_inter qp true c mb skipped h g = g
direct_inter qp false true mb skipped h g = h
direct_inter qp false false mb skipped h g = tt

pub or_blank : (b : Bool) (mb chosen : MbRecord) → cond b mb chosen ≡ taken_or chosen (cond b (Some mb) None)
or_blank true mb chosen = refl
or_blank false mb chosen = refl

pub or_direct : (b c : Bool) (mb skipped chosen : MbRecord) → cond b skipped (cond c mb chosen) ≡ taken_or chosen (cond b (Some skipped) (cond c (Some mb) None))
or_direct true c mb skipped chosen = refl
or_direct false true mb skipped chosen = refl
or_direct false false mb skipped chosen = refl

-- P_Skip or the chosen one
pub p_is : (place : Place) (h : SliceHead) (p : Pictures) (plans : List RowPlan) (site : Site) (view : View) (cost : ℕ) (chosen : MbRecord) (o : Option MbRecord) → wide_of p ≡ 16 * place.across
    → o ≡ if_blank (made_by p place.t8x8 site (moving MbKind.PSkip site.qp (skip_motion view))) → in_slice SliceKind.P (task_in place h p plans) site view cost chosen ≡ taken_or chosen o
unfolding in_p
p_is place h p plans site view cost chosen o w e =
    let t : Task = task_in place h p plans in
    let skipped : MbRecord = by_motion t site (moving MbKind.PSkip site.qp (skip_motion view)) in
    or_blank (is_blank skipped) skipped chosen
    ∙ ap (λ (mb : MbRecord). taken_or chosen (if_blank mb)) (sym (motion_is place h p plans site (moving MbKind.PSkip site.qp (skip_motion view)) w))
    ∙ ap (λ (x : Option MbRecord). taken_or chosen x) (sym e)

-- B_Skip, B_Direct_16x16 or the chosen one
pub b_is : (place : Place) (h : SliceHead) (p : Pictures) (plans : List RowPlan) (site : Site) (view : View) (cost : ℕ) (chosen : MbRecord) (o : Option MbRecord) → wide_of p ≡ 16 * place.across
    → (let direct : MbRecord = made_by p place.t8x8 site (moving MbKind.BDirect site.qp (direct_motion view)) in o ≡ direct_or (difference_of p site direct) cost direct) → in_slice SliceKind.B (task_in place h p plans) site view cost chosen ≡ taken_or chosen o
unfolding in_b
b_is place h p plans site view cost chosen o w e =
    let t : Task = task_in place h p plans in
    let base : MbRecord = moving MbKind.BDirect site.qp (direct_motion view) in
    let direct : MbRecord = by_motion t site base in
    or_direct (is_blank direct) (nat_le (difference_from t site direct) cost) direct (record direct { kind = MbKind.BSkip }) chosen
    ∙ ap (λ (d : ℕ). taken_or chosen (direct_or d cost direct)) (sym (difference_is place h p plans site direct w))
    ∙ ap (λ (mb : MbRecord). taken_or chosen (direct_or (difference_of p site mb) cost mb)) (sym (motion_is place h p plans site base w))
    ∙ ap (λ (x : Option MbRecord). taken_or chosen x) (sym e)

pub p_inter : (p : Pictures) (t8x8 : Bool) (site : Site) (view : View) (o : Option MbRecord) → o ≡ if_blank (made_by p t8x8 site (moving MbKind.PSkip site.qp (skip_motion view))) → MaybeInter site.qp o
unfolding levelled with_levels blank_record
p_inter p t8x8 site view o e =
    let skipped : MbRecord = made_by p t8x8 site (moving MbKind.PSkip site.qp (skip_motion view)) in
    subst (λ (x : Option MbRecord). MaybeInter site.qp x) (sym e) (blank_inter site.qp (is_blank skipped) skipped (record { inter = refl; same = refl }))

pub b_inter : (p : Pictures) (t8x8 : Bool) (site : Site) (view : View) (cost : ℕ) (o : Option MbRecord) → (let direct : MbRecord = made_by p t8x8 site (moving MbKind.BDirect site.qp (direct_motion view)) in o ≡ direct_or (difference_of p site direct) cost direct) → MaybeInter site.qp o
unfolding levelled with_levels blank_record
b_inter p t8x8 site view cost o e =
    let direct : MbRecord = made_by p t8x8 site (moving MbKind.BDirect site.qp (direct_motion view)) in
    subst (λ (x : Option MbRecord). MaybeInter site.qp x) (sym e)
    (direct_inter site.qp (is_blank direct) (nat_le (difference_of p site direct) cost) direct (record direct { kind = MbKind.BSkip }) (record { inter = refl; same = refl }) (record { inter = refl; same = refl }))

-- ---- the record

reached_same : (before : ℕ) (mb : MbRecord) → mb.qp ≡ before → reached before mb ≡ mb
reached_same before mb e = go (has_residual mb) before e
  where
    go : (b : Bool) (qp : ℕ) → mb.qp ≡ qp → cond b mb (record mb { qp = qp }) ≡ mb
    go true qp e = refl
    go false qp e = subst (λ (n : ℕ). record mb { qp = n } ≡ mb) e refl

-- where the slice's kind, the choice and what became of the macroblock are these
pub record_is : (t : Task) (site : Site) (view : View) (plan : MbPlan) (p : Planes) (kind : SliceKind) (least : MbKind × ℕ) (mb : MbRecord) → t.facts.kind ≡ kind → least ≡ choice kind plan site.qp t.facts.t8x8
    → in_slice kind t site view least.1 (by_choice t site view plan least.0 p) ≡ mb → mb.qp ≡ site.qp → view.near.qp ≡ site.qp → mb ≡ record_at t site view plan p
unfolding record_at
record_is t site view plan p kind least mb k c e q v =
    let made : MbKind × ℕ → MbRecord = λ x. in_slice t.facts.kind t site view x.1 (by_choice t site view plan x.0 p) in
    let to_kind : in_slice t.facts.kind t site view least.1 (by_choice t site view plan least.0 p) ≡ mb = ap (λ (s : SliceKind). in_slice s t site view least.1 (by_choice t site view plan least.0 p)) k ∙ e in
    let picked : choice t.facts.kind plan site.qp t.facts.t8x8 ≡ least = ap (λ (s : SliceKind). choice s plan site.qp t.facts.t8x8) k ∙ sym c in
    sym (reached_same view.near.qp mb (q ∙ sym v))
    ∙ ap (λ (r : MbRecord). reached view.near.qp r) (sym to_kind ∙ ap made (sym picked))
