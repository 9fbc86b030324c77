-- One step of a session: what is kept behind it, and that it holds.
use Rattle.std.proofs.Common.{ℕ, ℤ, pos, negsuc, zero, suc, ◌+◌, ◌*◌, ◌/◌, ◌≡◌, ◌≢◌, ◌≤◌, ◌<◌, ◌≤ℤ◌, ◌<ℤ◌, Bool, true, false, List, [], ◌∷◌, map, take, Result, Ok, refl, ap, ap₂, sym, subst, ◌∙◌, arith}
use Rattle.std.specs.Prelude.{if◌then◌else◌}
use Rattle.std.specs.List.{AllByRecursion}
use Rattle.std.proofs.lemmas.Int.{ints}
use Rattle.enc_edge.specs.declared.studio.Out.{Out}
use Rattle.enc_edge.specs.Seen.{Seen}
use Rattle.enc_tables.specs.declared.records.PlanStep.{PlanStep}
use Rattle.enc_tables.specs.declared.records.SliceKind.{SliceKind}
use Rattle.enc_tables.specs.declared.records.SliceKind.TheVariants.{I, P, B}
use Rattle.bit_strings.specs.BitText.{BitText}
use Rattle.picture_planes.specs.Clamped.{rounded}
use Rattle.picture_planes.specs.declared.picture.Picture.{Picture}
use Rattle.picture_planes.specs.Pictures.{planes_of}
use Rattle.spec_basics.specs.Sizes.{in_macroblocks}
use Rattle.spec_bits.specs.Bits.{bytes_of_bits}
use Rattle.spec_film.specs.declared.FilmHead.{FilmHead}
use Rattle.spec_film.specs.Films.{Planes, AllowedHead}
use Rattle.spec_words.specs.declared.command.Settings.{Settings}
use Rattle.spec_words.specs.Choices.{early_of}
use Rattle.spec_lists.specs.References.{Reference as Shown, kept, slid}
use Rattle.spec_lists.specs.Heads.{is_referred}
use Rattle.spec_buffer.specs.Buffer.{Rate}
use Rattle.spec_buffer.specs.Ledger.{Ledger as Spent, available, filler_bytes as filler_count, spent}
use Rattle.spec_decoder.specs.Frames.{frames}
use Rattle.spec_decoder.specs.Pictures.{made}
use Rattle.spec_decoder.specs.Macroblocks.{Slice as Read}
use Rattle.spec_pictures.specs.Accesses.{held_after}
use Rattle.spec_plan.specs.Marks.{mark, KindFits}
use Rattle.spec_report.specs.declared.ReportPicture.{ReportPicture}
use Rattle.spec_report.specs.Lines.{picture_line}
use Rattle.spec_coding.specs.Encoding.{State, Picked, access_of, coded, after}
use Rattle.spec_coding.specs.Trials.{moved_by, picked_by}
use Rattle.spec_coding.specs.Laws.{IsTrial}
use Rattle.spec_coding.specs.Report.{reported}
use Rattle.spec_coding.proofs.Choosing.{is_trial}
use Rattle.spec_film_coder.specs.Pictures.{film_coder}
use Rattle.spec_film_coder.specs.Sound.{StepFits}
use Rattle.spec_session.specs.Settings.{SessionSettings, AreInRange, completed, settled}
use Rattle.spec_session.specs.Encodings.{coder_of, rate_of, sequence_of}
use Rattle.ref_lists.specs.declared.held.Reference.{Reference}
use Rattle.ref_lists.specs.declared.store.RefStore.{RefStore}
use Rattle.ref_lists.specs.Held.{seen, all_seen, natural, IsMade as IsReference}
use Rattle.ref_lists.specs.Entries.{next_number}
use Rattle.ref_lists.specs.Stored.{references_of, held_of, places_of, width_of, height_of, SameStore, order_counts, IsNumberedNext, IsShownLast}
use Rattle.buffer_control.specs.Seen.{rate_of as rate_in, spent_of}
use Rattle.picture_coder.specs.declared.coder.PictureCoder.{PictureCoder}
use Rattle.picture_coder.specs.Coders.{HasOwnSizes, lent_reference}
use Rattle.picture_coder.specs.Kept.{IsKept}
use Rattle.picture_coder.specs.Sizes.{HasSizes}
use Rattle.enc_session.specs.declared.engine.Engine.{Engine}
use Rattle.enc_session.specs.declared.units.Made.{Made}
use Rattle.enc_session.specs.Asking.{MayFollow, SameCoder}
use Rattle.enc_session.specs.Keeping.{IsNext, IsSlid, KeptLeft, Taken}
use Rattle.enc_session.specs.Left.{UnitLeft}
use Rattle.enc_session.specs.Ready.{Holds, settings_in, state_in, units_in, unit_room}
use Rattle.enc_session.specs.Stepping.{line_by, unit_of, line_in, picture_in, InSlot}
use Rattle.enc_session.specs.Steps.{film_in, choice_in, IsMade, IsReset}
use Rattle.enc_session.proofs.AccessBytes.{unit_is}
use Rattle.enc_session.proofs.Begun.{kept_is, none_seen}

-- ---- the engine once the unit is made

abbrev pub made_engine : Engine → Engine → Engine
made_engine e f = record e { store = f.store; coder = f.coder; unit = f.unit }

-- ---- bits and filler

bits_fit_by : (f : SessionSettings) (s : State) (st : PlanStep) (source : Planes) (p : Picked Read) → IsTrial (film_in f) (film_coder (coder_of f)) s st source p → p.bits ≤ available (rate_of f) s.ledger
unfolding picked_by
bits_fit_by f s st source p t = subst (λ (n : ℕ). n ≤ available (rate_of f) s.ledger) (sym (ap (λ (x : Picked Read). x.bits) t.same)) t.small

filler_fits_by : (f : SessionSettings) (s : State) (st : PlanStep) (source : Planes) (p : Picked Read) → IsTrial (film_in f) (film_coder (coder_of f)) s st source p → p.filler ≡ filler_count (rate_of f) s.ledger p.bits
unfolding picked_by
filler_fits_by f s st source p t = ap (λ (x : Picked Read). x.filler) t.same ∙ ap (λ (n : ℕ). filler_count (rate_of f) s.ledger n) (sym (ap (λ (x : Picked Read). x.bits) t.same))

ledger_of : (e f : Engine) → f ≡ made_engine e f → f.ledger ≡ e.ledger
ledger_of e f is = ap (λ (x : Engine). x.ledger) is

pub bits_fit : (e f : Engine) (st : PlanStep) (source : Planes) (m : Made) (unit : BitText) (k : Reference) (p : Picked Read) → f ≡ made_engine e f → Holds e → IsMade (settings_in e) (state_in e) st source m unit k p → m.bits ≤ available (rate_in f.ledger) (spent_of f.ledger)
bits_fit e f st source m unit k p is h mine =
    subst (λ (n : ℕ). n ≤ available (rate_in f.ledger) (spent_of f.ledger)) (sym mine.bits)
    (subst (λ l. p.bits ≤ available (rate_in l) (spent_of l)) (sym (ledger_of e f is))
    (subst (λ (t : Rate). p.bits ≤ available t (spent_of e.ledger)) (sym h.rate)
    (bits_fit_by (settings_in e) (state_in e) st source p (is_trial (film_in (settings_in e)) (film_coder (coder_of (settings_in e))) (state_in e) st source p mine.chosen))))

pub filler_fits : (e f : Engine) (st : PlanStep) (source : Planes) (m : Made) (unit : BitText) (k : Reference) (p : Picked Read) → f ≡ made_engine e f → Holds e → IsMade (settings_in e) (state_in e) st source m unit k p → m.filler ≡ filler_count (rate_in f.ledger) (spent_of f.ledger) m.bits
filler_fits e f st source m unit k p is h mine =
    mine.filler
    ∙ filler_fits_by (settings_in e) (state_in e) st source p (is_trial (film_in (settings_in e)) (film_coder (coder_of (settings_in e))) (state_in e) st source p mine.chosen)
    ∙ ap (λ (n : ℕ). filler_count (rate_of (settings_in e)) (spent_of e.ledger) n) (sym mine.bits)
    ∙ ap (λ (t : Rate). filler_count t (spent_of e.ledger) m.bits) (sym h.rate)
    ∙ ap (λ l. filler_count (rate_in l) (spent_of l) m.bits) (sym (ledger_of e f is))

-- ---- sizes

sixteen : (n : ℕ) → n * 16 ≡ 16 * n
sixteen n = omega arith

pub same_size : (b : Bool) (old new : RefStore) → IsReset b old new → SameStore old new
same_size true old new h = h.1
same_size false old new h = subst (λ (s : RefStore). SameStore old s) (sym h) (refl, refl, refl)

pub made_reference : (e f : Engine) (idr : Bool) → f ≡ made_engine e f → Holds e → IsReset idr e.store f.store → SameCoder e.coder f.coder → HasOwnSizes f.coder → IsReference (width_of f.store) (height_of f.store) (lent_reference f.coder)
made_reference e f idr is h reset same own =
    let size = same_size idr e.store f.store reset in
    let w : 16 * f.coder.across ≡ width_of f.store = ap (λ (n : ℕ). 16 * n) (same.across ∙ h.coder.across) ∙ sym (size.0 ∙ h.width ∙ sixteen (in_macroblocks e.head.width)) in
    let v : 16 * f.coder.down ≡ height_of f.store = ap (λ (n : ℕ). 16 * n) (same.down ∙ h.coder.down) ∙ sym (size.1 ∙ h.height ∙ sixteen (in_macroblocks e.head.height)) in
    subst (λ (a : ℕ). IsReference a (height_of f.store) (lent_reference f.coder)) w (subst (λ (b : ℕ). IsReference (16 * f.coder.across) b (lent_reference f.coder)) v own)

-- ---- the next reference

natural_is : (z : ℤ) → pos 0 ≤ℤ z → pos (natural z) ≡ z
natural_is (pos n) h = refl
natural_is (negsuc n) h = absurd (omega (arith, ints, h))

below_pos : (z : ℤ) (n : ℕ) → pos 0 ≤ℤ z → natural z < n → z <ℤ pos n
below_pos z n h k = let e = natural_is z h in omega (arith, ints, e, k)

numbered_next : (n : ℕ) (held : List Shown) → n ≡ next_number held → IsNumberedNext n held
numbered_next n [] e = tt
numbered_next n (r ∷ rs) e = e

shown_last : (poc : ℤ) (n : ℕ) (rs : List Reference) → poc ≡ pos n → AllByRecursion (λ r. pos 0 ≤ℤ r.poc) rs → AllByRecursion (λ (m : ℕ × ℕ). m.0 < n) (map mark (all_seen rs)) → IsShownLast poc (order_counts rs)
shown_last poc n [] e o h = tt
shown_last poc n (r ∷ rs) e o h = subst (λ (z : ℤ). r.poc <ℤ z) (sym e) (below_pos r.poc n o.0 h.0)

first_below : (n k : ℕ) (ms : List (ℕ × ℕ)) → AllByRecursion (λ m. (m.0 < n) × (m.1 < k)) ms → AllByRecursion (λ m. m.0 < n) ms
first_below n k [] h = tt
first_below n k (m ∷ ms) h = (h.0.0, first_below n k ms h.1)

none_next : (store : RefStore) (r : Reference) → held_of store ≡ [] → IsNext store r
none_next store r e = (
  subst (λ (hs : List Shown). IsNumberedNext r.frame_num hs) (sym e) tt,
  subst (λ (rs : List Reference). IsShownLast r.poc (order_counts rs)) (sym (none_seen (references_of store) e)) tt,
)

inter_only : (b : Bool) (k : SliceKind) (st : PlanStep) → b ≡ false → k ≡ I → StepFits b k st → ⊥
inter_only true k st i e f = absurd cc
inter_only false I st i e f = f.0
inter_only false P st i e f = absurd cc
inter_only false B st i e f = absurd cc

next_by : (b : Bool) (k : SliceKind) (st : PlanStep) (store : RefStore) (r : Reference) (x : Shown) → st.idr ≡ b → st.kind ≡ k → MayFollow store st → IsKept r x → x.poc ≡ st.poc → x.frame_num ≡ st.frame_num → k ≢ B → IsNext store r
next_by true k st store r x i e m own ep en differ = none_next store r (m.none i)
next_by false I st store r x i e m own ep en differ = absurd (inter_only st.idr st.kind st i e m.step)
next_by false P st store r x i e m own ep en differ =
    let marks : KindFits P st.poc st.frame_num (map mark (held_of store)) = subst (λ (k : SliceKind). KindFits k st.poc st.frame_num (map mark (held_of store))) e m.marks in (
      numbered_next r.frame_num (held_of store) (ap (λ (y : Shown). y.frame_num) own.seen_is ∙ en ∙ m.number i),
      shown_last r.poc st.poc (references_of store) (own.poc_is ∙ ap (λ (n : ℕ). pos n) ep) m.origin (first_below st.poc st.frame_num (map mark (held_of store)) marks.1),
    )
next_by false B st store r x i e m own ep en differ = absurd (differ refl)

pub is_next : (st : PlanStep) (store : RefStore) (r : Reference) (x : Shown) → MayFollow store st → IsKept r x → x.poc ≡ st.poc → x.frame_num ≡ st.frame_num → st.kind ≢ B → IsNext store r
is_next st store r x m own ep en differ = next_by st.idr st.kind st store r x refl refl m own ep en differ

pub own_counts : (f : SessionSettings) (s : State) (st : PlanStep) (p : Picked Read) → ((picture_in f s st p).poc ≡ st.poc) × ((picture_in f s st p).frame_num ≡ st.frame_num)
unfolding made
own_counts f s st p = (refl, refl)

-- ---- what is held

held_by : (k : SliceKind) (f : SessionSettings) (s : State) (st : PlanStep) (p : Picked Read) (store new : RefStore) (c d : PictureCoder) (slot q : Picture) → st.kind ≡ k → held_of store ≡ kept st.idr s.held → places_of store ≡ f.refs → IsKept (lent_reference c) (picture_in f s st p) → KeptLeft k store new c d slot q
    → held_of new ≡ held_after frames (sequence_of f) s.held (access_of st p)
unfolding held_after
held_by I f s st p store new c d slot q e h places own left =
    left.0.held
    ∙ ap (λ (n : ℕ). slid n (seen (lent_reference c)) (held_of store)) places
    ∙ ap₂ (λ (x : Shown) (hs : List Shown). slid f.refs x hs) own.seen_is h
    ∙ sym (ap (λ (k : SliceKind). if is_referred k then slid f.refs (picture_in f s st p) (kept st.idr s.held) else kept st.idr s.held) e)
held_by P f s st p store new c d slot q e h places own left =
    left.0.held
    ∙ ap (λ (n : ℕ). slid n (seen (lent_reference c)) (held_of store)) places
    ∙ ap₂ (λ (x : Shown) (hs : List Shown). slid f.refs x hs) own.seen_is h
    ∙ sym (ap (λ (k : SliceKind). if is_referred k then slid f.refs (picture_in f s st p) (kept st.idr s.held) else kept st.idr s.held) e)
held_by B f s st p store new c d slot q e h places own left =
    ap (λ (x : RefStore). held_of x) left.0 ∙ h
    ∙ sym (ap (λ (k : SliceKind). if is_referred k then slid f.refs (picture_in f s st p) (kept st.idr s.held) else kept st.idr s.held) e)

-- ---- the state

state_by : (f : SessionSettings) (s : State) (st : PlanStep) (p : Picked Read) (t : State) → t.held ≡ held_after frames (sequence_of f) s.held (access_of st p) → t.ledger ≡ spent (rate_of f) s.ledger p.bits p.filler → t.idrs ≡ (if st.idr then s.idrs + 1 else s.idrs)
    → t.last_idr ≡ (if st.idr then s.ledger.units else s.last_idr) → t.compared ≡ s.compared + p.compared → t ≡ after frames (sequence_of f) (choice_in f) s st p
unfolding after moved_by
state_by f s st p t eh el ei eu ec =
    ap₂ (λ (h : List Shown) (l : Spent). let x : State = record { held = h; ledger = l; idrs = t.idrs; last_idr = t.last_idr; compared = t.compared } in x) eh el
    ∙ ap₂ (λ (i u : ℕ). let x : State = record { held = held_after frames (sequence_of f) s.held (access_of st p); ledger = spent (rate_of f) s.ledger p.bits p.filler; idrs = i; last_idr = u; compared = t.compared } in x) ei eu
    ∙ ap (λ (c : ℕ). let x : State = record { held = held_after frames (sequence_of f) s.held (access_of st p); ledger = spent (rate_of f) s.ledger p.bits p.filler; idrs = if st.idr then s.idrs + 1 else s.idrs; last_idr = if st.idr then s.ledger.units else s.last_idr; compared = c } in x) ec

pub state_is : (e f g : Engine) (st : PlanStep) (source : Planes) (m : Made) (unit : BitText) (p : Picked Read) (slot q : Picture) → f ≡ made_engine e f → Holds e → IsReset st.idr e.store f.store → IsMade (settings_in e) (state_in e) st source m unit (lent_reference f.coder) p → Taken st m f g → KeptLeft st.kind f.store g.store f.coder g.coder slot q
    → state_in g ≡ after frames (sequence_of (settings_in e)) (choice_in (settings_in e)) (state_in e) st p
state_is e f g st source m unit p slot q is h reset mine taken left =
    state_by (settings_in e) (state_in e) st p (state_in g)
    (held_by st.kind (settings_in e) (state_in e) st p f.store g.store f.coder g.coder slot q refl (kept_is st.idr e.store f.store reset) ((same_size st.idr e.store f.store reset).2 ∙ h.places) mine.shown left)
    (taken.ledger ∙ ap (λ l. spent (rate_in l) (spent_of l) m.bits m.filler) (ledger_of e f is) ∙ ap (λ (t : Rate). spent t (spent_of e.ledger) m.bits m.filler) h.rate ∙ ap₂ (λ (b n : ℕ). spent (rate_of (settings_in e)) (spent_of e.ledger) b n) mine.bits mine.filler)
    (taken.idrs ∙ ap (λ (x : Engine). if st.idr then x.idrs + 1 else x.idrs) is)
    (taken.last_idr ∙ ap (λ (x : Engine). if st.idr then units_in x else x.last_idr) is)
    (taken.compared ∙ ap₂ (λ (a b : ℕ). a + b) (ap (λ (x : Engine). x.compared) is) mine.compared)

-- ---- what is written

line_is : (f : SessionSettings) (s : State) (st : PlanStep) (source : Planes) (m : Made) (unit : BitText) (k : Reference) (p : Picked Read) (place : ℕ) → place ≡ s.ledger.units → IsMade f s st source m unit k p → line_by place st m ≡ reported s.ledger.units (coded frames (sequence_of f) s st p)
unfolding coded
line_is f s st source m unit k p place e mine =
    ap₂ (λ (n q : ℕ). let x : ReportPicture = record { coded = n; display = st.display; kind = st.kind; qp = q; coarsest = m.coarsest; bits = m.bits; filler = 8 * m.filler; have = m.have } in x) e mine.qp
    ∙ ap₂ (λ (c : Bool) (b : ℕ). let x : ReportPicture = record { coded = s.ledger.units; display = st.display; kind = st.kind; qp = p.qp; coarsest = c; bits = b; filler = 8 * m.filler; have = m.have } in x) mine.coarsest mine.bits
    ∙ ap₂ (λ (n h : ℕ). let x : ReportPicture = record { coded = s.ledger.units; display = st.display; kind = st.kind; qp = p.qp; coarsest = p.coarsest; bits = p.bits; filler = 8 * n; have = h } in x) mine.filler mine.have

pub written_is : (f : SessionSettings) (s : State) (st : PlanStep) (source : Planes) (m : Made) (unit : BitText) (k : Reference) (p : Picked Read) (place : ℕ) (line : ReportPicture) (bytes : List ℕ) (old new : Seen) (r : Result (Unit {0}) Out) → place ≡ s.ledger.units → IsMade f s st source m unit k p → line ≡ line_by place st m → bytes ≡ bytes_of_bits unit.text
    → UnitLeft bytes (picture_line line) old new r → UnitLeft (unit_of f st p) (line_in f s st p) old new r
written_is f s st source m unit k p place line bytes old new r e mine el eb h =
    subst (λ (xs : List ℕ). UnitLeft xs (line_in f s st p) old new r) (unit_is (unit_of f st p) bytes unit.text mine.text mine.are_bytes eb)
    (subst (λ (x : ReportPicture). UnitLeft bytes (picture_line x) old new r) (el ∙ line_is f s st source m unit k p place e mine) h)

-- ---- the slot

pub in_slot : (k : SliceKind) (f : SessionSettings) (s : State) (st : PlanStep) (p : Picked Read) (store new : RefStore) (c d : PictureCoder) (slot q : Picture) → IsKept (lent_reference c) (picture_in f s st p) → KeptLeft k store new c d slot q → InSlot k q (picture_in f s st p).planes
in_slot I f s st p store new c d slot q own left = tt
in_slot P f s st p store new c d slot q own left = tt
in_slot B f s st p store new c d slot q own left = ap (λ (x : Picture). planes_of x) left.1 ∙ ap (λ (x : Shown). x.planes) own.seen_is

-- ---- what holds behind it

-- a reference with another picture of its sizes
swapped : (a b w v : ℕ) (r : Reference) (p : Picture) → a ≡ rounded w → b ≡ rounded v → HasSizes w v p → IsReference a b r → IsReference a b (record r { picture = p })
swapped a b w v r p ea eb s h = record {
  luma = (s.luma.0 ∙ sym ea, s.luma.1 ∙ sym eb, s.luma.2);
  cb = (s.cb.0 ∙ ap (λ (n : ℕ). n / 2) (sym ea), s.cb.1 ∙ ap (λ (n : ℕ). n / 2) (sym eb), s.cb.2);
  cr = (s.cr.0 ∙ ap (λ (n : ℕ). n / 2) (sym ea), s.cr.1 ∙ ap (λ (n : ℕ). n / 2) (sym eb), s.cr.2);
  sums = record { width = h.sums.width ∙ same_width; height = h.sums.height ∙ same_height; pad = h.sums.pad ∙ same_pad };
  halves = record {
    b = (h.halves.b.0 ∙ same_width, h.halves.b.1 ∙ same_height, h.halves.b.2 ∙ same_pad);
    h = (h.halves.h.0 ∙ same_width, h.halves.h.1 ∙ same_height, h.halves.h.2 ∙ same_pad);
    j = (h.halves.j.0 ∙ same_width, h.halves.j.1 ∙ same_height, h.halves.j.2 ∙ same_pad);
  };
  records = h.records;
}
  where
    same_width : r.picture.y.width ≡ p.y.width
    same_width = h.luma.0 ∙ ea ∙ sym s.luma.0

    same_height : r.picture.y.height ≡ p.y.height
    same_height = h.luma.1 ∙ eb ∙ sym s.luma.1

    same_pad : r.picture.y.pad ≡ p.y.pad
    same_pad = h.luma.2 ∙ sym s.luma.2

-- the coder keeps its sizes
coder_by : (k : SliceKind) (store new : RefStore) (c d : PictureCoder) (slot q : Picture) → KeptLeft k store new c d slot q → SameCoder c d
coder_by I store new c d slot q left = record { across = ap (λ (x : PictureCoder). x.across) left.0.coder; down = ap (λ (x : PictureCoder). x.down) left.0.coder; slices = ap (λ (x : PictureCoder). x.slices) left.0.coder; workers = ap (λ (x : PictureCoder). x.workers) left.0.coder; room = ap (λ (x : PictureCoder). x.room) left.0.coder }
coder_by P store new c d slot q left = record { across = ap (λ (x : PictureCoder). x.across) left.0.coder; down = ap (λ (x : PictureCoder). x.down) left.0.coder; slices = ap (λ (x : PictureCoder). x.slices) left.0.coder; workers = ap (λ (x : PictureCoder). x.workers) left.0.coder; room = ap (λ (x : PictureCoder). x.room) left.0.coder }
coder_by B store new c d slot q left = record { across = ap (λ (x : PictureCoder). x.across) left.2; down = ap (λ (x : PictureCoder). x.down) left.2; slices = ap (λ (x : PictureCoder). x.slices) left.2; workers = ap (λ (x : PictureCoder). x.workers) left.2; room = ap (λ (x : PictureCoder). x.room) left.2 }

sizes_by : (k : SliceKind) (w v : ℕ) (store new : RefStore) (c d : PictureCoder) (slot q : Picture) → width_of store ≡ rounded w → height_of store ≡ rounded v → HasSizes w v slot → IsReference (width_of store) (height_of store) (lent_reference c) → KeptLeft k store new c d slot q → IsReference (width_of store) (height_of store) (lent_reference d)
sizes_by I w v store new c d slot q ew ev s h left = left.0.made
sizes_by P w v store new c d slot q ew ev s h left = left.0.made
sizes_by B w v store new c d slot q ew ev s h left =
    subst (λ (x : PictureCoder). IsReference (width_of store) (height_of store) (lent_reference x)) (sym left.2) (swapped (width_of store) (height_of store) w v (lent_reference c) slot ew ev s h)

store_by : (k : SliceKind) (store new : RefStore) (c d : PictureCoder) (slot q : Picture) → KeptLeft k store new c d slot q → SameStore store new
store_by I store new c d slot q left = left.0.size
store_by P store new c d slot q left = left.0.size
store_by B store new c d slot q left = subst (λ (s : RefStore). SameStore store s) (sym left.0) (refl, refl, refl)

-- no order count is below 0
counts_from : (rs : List Reference) → AllByRecursion (λ r. pos 0 ≤ℤ r.poc) rs → AllByRecursion (λ (z : ℤ). pos 0 ≤ℤ z) (order_counts rs)
counts_from [] h = tt
counts_from (r ∷ rs) h = (h.0, counts_from rs h.1)

counts_back : (rs : List Reference) → AllByRecursion (λ (z : ℤ). pos 0 ≤ℤ z) (order_counts rs) → AllByRecursion (λ r. pos 0 ≤ℤ r.poc) rs
counts_back [] h = tt
counts_back (r ∷ rs) h = (h.0, counts_back rs h.1)

counts_taken : (n : ℕ) (zs : List ℤ) → AllByRecursion (λ (z : ℤ). pos 0 ≤ℤ z) zs → AllByRecursion (λ (z : ℤ). pos 0 ≤ℤ z) (take n zs)
counts_taken zero zs h = tt
counts_taken (suc n) [] h = tt
counts_taken (suc n) (z ∷ zs) h = (h.0, counts_taken n zs h.1)

origin_slid : (store new : RefStore) (c d : PictureCoder) → pos 0 ≤ℤ (lent_reference c).poc → AllByRecursion (λ r. pos 0 ≤ℤ r.poc) (references_of store) → IsSlid store new c d → AllByRecursion (λ r. pos 0 ≤ℤ r.poc) (references_of new)
origin_slid store new c d z o left =
    counts_back (references_of new)
    (subst (λ (zs : List ℤ). AllByRecursion (λ (z : ℤ). pos 0 ≤ℤ z) zs) (sym left.counts) (counts_taken (places_of store) ((lent_reference c).poc ∷ order_counts (references_of store)) (z, counts_from (references_of store) o)))

origin_by : (k : SliceKind) (store new : RefStore) (c d : PictureCoder) (slot q : Picture) → pos 0 ≤ℤ (lent_reference c).poc → AllByRecursion (λ r. pos 0 ≤ℤ r.poc) (references_of store) → KeptLeft k store new c d slot q → AllByRecursion (λ r. pos 0 ≤ℤ r.poc) (references_of new)
origin_by I store new c d slot q z o left = origin_slid store new c d z o left.0
origin_by P store new c d slot q z o left = origin_slid store new c d z o left.0
origin_by B store new c d slot q z o left = subst (λ (s : RefStore). AllByRecursion (λ r. pos 0 ≤ℤ r.poc) (references_of s)) (sym left.0) o

idrs_small : (b : Bool) (i u : ℕ) → i ≤ u → (if b then i + 1 else i) ≤ u + 1
idrs_small true i u h = omega (arith, h)
idrs_small false i u h = omega (arith, h)

last_small : (b : Bool) (l u : ℕ) → l ≤ u → (if b then u else l) ≤ u + 1
last_small true l u h = omega arith
last_small false l u h = omega (arith, h)

units_more : (t : Rate) (l : Spent) (b n : ℕ) → (spent t l b n).units ≡ l.units + 1
unfolding spent
units_more t l b n = refl

pub units_next : (e f g : Engine) (st : PlanStep) (m : Made) → f ≡ made_engine e f → Taken st m f g → units_in g ≡ units_in e + 1
units_next e f g st m is taken =
    ap (λ (l : Spent). l.units) taken.ledger ∙ units_more (rate_in f.ledger) (spent_of f.ledger) m.bits m.filler ∙ ap (λ (x : Engine). units_in x + 1) is

pub holds_next : (e f g : Engine) (st : PlanStep) (source : Planes) (m : Made) (unit : BitText) (p : Picked Read) (slot q : Picture) → f ≡ made_engine e f → Holds e → IsReset st.idr e.store f.store → SameCoder e.coder f.coder → HasOwnSizes f.coder → f.unit.made ≡ unit_room e.settings.cpb
    → MayFollow f.store st → IsMade (settings_in e) (state_in e) st source m unit (lent_reference f.coder) p → HasSizes e.head.width e.head.height slot → Taken st m f g → KeptLeft st.kind f.store g.store f.coder g.coder slot q → Holds g
holds_next e f g st source m unit p slot q is h reset same own room follow mine sized taken left =
    let se : g.settings ≡ e.settings = taken.settings ∙ ap (λ (x : Engine). x.settings) is in
    let he : g.head ≡ e.head = taken.head ∙ ap (λ (x : Engine). x.head) is in
    let le : g.level ≡ e.level = taken.level ∙ ap (λ (x : Engine). x.level) is in
    let c = coder_by st.kind f.store g.store f.coder g.coder slot q left in
    let s = same_size st.idr e.store f.store reset in
    let t = store_by st.kind f.store g.store f.coder g.coder slot q left in
    let across = c.across ∙ same.across ∙ h.coder.across in
    let down = c.down ∙ same.down ∙ h.coder.down in
    let width : width_of f.store ≡ rounded e.head.width = s.0 ∙ h.width in
    let height : height_of f.store ≡ rounded e.head.height = s.1 ∙ h.height in
    let units = units_next e f g st m is taken in
    let reference = sizes_by st.kind e.head.width e.head.height f.store g.store f.coder g.coder slot q width height sized (made_reference e f st.idr is h reset same own) left in
    let poc : (lent_reference f.coder).poc ≡ pos st.poc = mine.shown.poc_is ∙ ap (λ (n : ℕ). pos n) (own_counts (settings_in e) (state_in e) st p).0 in
    record {
      range = subst (λ (x : Settings). AreInRange x) (sym se) h.range;
      early = ap (λ (x : Settings). early_of x) se ∙ h.early;
      head = subst (λ (x : FilmHead). AllowedHead x) (sym he) h.head;
      complete = subst (λ (x : Settings). completed x g.head ≡ Ok (settled x g.head g.level)) (sym se)
          (subst (λ (y : FilmHead). completed e.settings y ≡ Ok (settled e.settings y g.level)) (sym he)
          (subst (λ (l : ℕ). completed e.settings e.head ≡ Ok (settled e.settings e.head l)) (sym le) h.complete));
      coder = record {
        across = across ∙ ap (λ (x : FilmHead). in_macroblocks x.width) (sym he);
        down = down ∙ ap (λ (x : FilmHead). in_macroblocks x.height) (sym he);
        slices_are = c.slices ∙ same.slices ∙ h.coder.slices_are ∙ ap (λ (x : Settings). x.slices) (sym se);
        workers_are = c.workers ∙ same.workers ∙ h.coder.workers_are ∙ ap (λ (x : Settings). x.workers) (sym se);
      };
      sizes = subst (λ (a : ℕ). IsReference a (16 * g.coder.down) (lent_reference g.coder)) (width ∙ sixteen (in_macroblocks e.head.width) ∙ sym (ap (λ (n : ℕ). 16 * n) across))
          (subst (λ (b : ℕ). IsReference (width_of f.store) b (lent_reference g.coder)) (height ∙ sixteen (in_macroblocks e.head.height) ∙ sym (ap (λ (n : ℕ). 16 * n) down)) reference);
      coder_room = subst (λ (n : ℕ). n ≤ g.coder.room) (ap (λ (x : Settings). x.cpb) (sym se)) (subst (λ (n : ℕ). e.settings.cpb ≤ n) (sym (c.room ∙ same.room)) h.coder_room);
      width = t.0 ∙ width ∙ ap (λ (x : FilmHead). rounded x.width) (sym he);
      height = t.1 ∙ height ∙ ap (λ (x : FilmHead). rounded x.height) (sym he);
      places = t.2 ∙ s.2 ∙ h.places ∙ ap (λ (x : Settings). x.refs) (sym se);
      rate = taken.rate ∙ ap (λ l. rate_in l) (ledger_of e f is) ∙ h.rate ∙ ap₂ (λ (x : Settings) (y : FilmHead). rate_of (settled x y g.level)) (sym se) (sym he);
      payload = taken.payload ∙ ap (λ (x : Engine). x.payload) is ∙ h.payload;
      unit = ap (λ (b : BitText). b.made) taken.unit ∙ room ∙ ap (λ (x : Settings). unit_room x.cpb) (sym se);
      idrs = subst (λ (n : ℕ). n ≤ units_in g) (sym (taken.idrs ∙ ap (λ (x : Engine). if st.idr then x.idrs + 1 else x.idrs) is)) (subst (λ (n : ℕ). (if st.idr then e.idrs + 1 else e.idrs) ≤ n) (sym units) (idrs_small st.idr e.idrs (units_in e) h.idrs));
      last_idr = subst (λ (n : ℕ). n ≤ units_in g) (sym (taken.last_idr ∙ ap (λ (x : Engine). if st.idr then units_in x else x.last_idr) is)) (subst (λ (n : ℕ). (if st.idr then units_in e else e.last_idr) ≤ n) (sym units) (last_small st.idr e.last_idr (units_in e) h.last_idr));
      compared =
          let was = h.compared in
          let small = mine.small in
          let sum : g.compared ≡ e.compared + m.compared = taken.compared ∙ ap (λ (x : Engine). x.compared + m.compared) is in
          omega (arith, was, small, sum, units);
      origin = origin_by st.kind f.store g.store f.coder g.coder slot q (subst (λ (z : ℤ). pos 0 ≤ℤ z) (sym poc) (omega (arith, ints))) follow.origin left;
    }

-- the slot keeps its sizes
slot_by : (k : SliceKind) (w v : ℕ) (store new : RefStore) (c d : PictureCoder) (slot q : Picture) → width_of store ≡ rounded w → height_of store ≡ rounded v → IsReference (width_of store) (height_of store) (lent_reference c) → HasSizes w v slot → KeptLeft k store new c d slot q → HasSizes w v q
slot_by I w v store new c d slot q ew ev r s left = subst (λ (x : Picture). HasSizes w v x) (sym left.1) s
slot_by P w v store new c d slot q ew ev r s left = subst (λ (x : Picture). HasSizes w v x) (sym left.1) s
slot_by B w v store new c d slot q ew ev r s left =
    subst (λ (x : Picture). HasSizes w v x) (sym left.1)
    (record {
      luma = (r.luma.0 ∙ ew, r.luma.1 ∙ ev, r.luma.2);
      cb = (r.cb.0 ∙ ap (λ (n : ℕ). n / 2) ew, r.cb.1 ∙ ap (λ (n : ℕ). n / 2) ev, r.cb.2);
      cr = (r.cr.0 ∙ ap (λ (n : ℕ). n / 2) ew, r.cr.1 ∙ ap (λ (n : ℕ). n / 2) ev, r.cr.2);
    })

pub slot_next : (e f : Engine) (idr : Bool) (k : SliceKind) (new : RefStore) (d : PictureCoder) (slot q : Picture) → f ≡ made_engine e f → Holds e → IsReset idr e.store f.store → SameCoder e.coder f.coder → HasOwnSizes f.coder → HasSizes e.head.width e.head.height slot → KeptLeft k f.store new f.coder d slot q → HasSizes e.head.width e.head.height q
slot_next e f idr k new d slot q is h reset same own sized left =
    let s = same_size idr e.store f.store reset in
    slot_by k e.head.width e.head.height f.store new f.coder d slot q (s.0 ∙ h.width) (s.1 ∙ h.height) (made_reference e f idr is h reset same own) sized left

-- a B picture leaves the store as it was
reset_none : (b : Bool) (old new : RefStore) → b ≡ false → IsReset b old new → new ≡ old
reset_none false old new e h = h
reset_none true old new e h = absurd cc

kept_same : (k : SliceKind) (store new : RefStore) (c d : PictureCoder) (slot q : Picture) → k ≡ B → KeptLeft k store new c d slot q → new ≡ store
kept_same I store new c d slot q e left = absurd cc
kept_same P store new c d slot q e left = absurd cc
kept_same B store new c d slot q e left = left.0

pub store_next : (st : PlanStep) (old mid new : RefStore) (c d : PictureCoder) (slot q : Picture) → st.kind ≡ B → st.idr ≡ false → IsReset st.idr old mid → KeptLeft st.kind mid new c d slot q → new ≡ old
store_next st old mid new c d slot q kind idr reset left = kept_same st.kind mid new c d slot q kind left ∙ reset_none st.idr old mid idr reset

pub store_reset : (st : PlanStep) (old mid : RefStore) → st.idr ≡ false → IsReset st.idr old mid → mid ≡ old
store_reset st old mid idr reset = reset_none st.idr old mid idr reset

pub size_next : (st : PlanStep) (old mid new : RefStore) (c d : PictureCoder) (slot q : Picture) → IsReset st.idr old mid → KeptLeft st.kind mid new c d slot q → SameStore old new
size_next st old mid new c d slot q reset left =
    let a = same_size st.idr old mid reset in let b = store_by st.kind mid new c d slot q left in (b.0 ∙ a.0, b.1 ∙ a.1, b.2 ∙ a.2)
