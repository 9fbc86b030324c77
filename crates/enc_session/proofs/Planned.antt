-- The steps of a group, by what the session keeps.
use Rattle.std.proofs.Common.{ℕ, zero, suc, ◌+◌, ◌-◌, ◌*◌, ◌/◌, ◌%◌, ◌≡◌, ◌≤◌, ◌<◌, ◌==◌, min, max, Bool, true, false, not, List, [], ◌∷◌, length, map, take, get_or, drop, ◌⊎◌, inl, inr, refl, ap, sym, subst, ◌∙◌, arith, mod-lt, le_refl}
use Rattle.std.specs.Prelude.{if◌then◌else◌}
use Rattle.std.specs.List.{AllByRecursion}
use Rattle.std.proofs.lemmas.Bool.Decides.{nat_tests}
use Rattle.std.proofs.lemmas.Nat.{div-add-mod'}
use Rattle.enc_tables.specs.declared.records.PlanStep.{PlanStep}
use Rattle.enc_tables.specs.declared.records.SliceKind.TheVariants.{P, B}
use Rattle.spec_lists.specs.References.{Reference as Shown}
use Rattle.spec_lists.specs.Heads.{newest_number, is_referred}
use Rattle.spec_decoder.specs.Frames.{frames}
use Rattle.spec_decoder.specs.Macroblocks.{Slice as Read}
use Rattle.spec_plan.specs.Plan.{fixed, group, idr_step, p_step, b_steps}
use Rattle.spec_plan.specs.Marks.{mark, marks_kept, marks_slid, marks_after, KindFits}
use Rattle.spec_plan.proofs.Follow.{in_period, within}
use Rattle.spec_plan.proofs.Held.{marks_go_on, all_marked}
use Rattle.spec_coding.specs.Encoding.{State, Picked, access_of, after}
use Rattle.spec_film_coder.specs.Sound.{StepFits}
use Rattle.spec_session.specs.Settings.{SessionSettings}
use Rattle.spec_session.specs.Encodings.{reorders, sequence_of}
use Rattle.spec_session.specs.Groups.{Place, full_at, place_behind}
use Rattle.spec_session.proofs.Settling.{has_room}
use Rattle.ref_lists.specs.Entries.{next_number}
use Rattle.ref_lists.specs.declared.store.RefStore.{RefStore}
use Rattle.ref_lists.specs.Stored.{held_of}
use Rattle.enc_session.specs.declared.engine.Engine.{Engine}
use Rattle.enc_session.specs.Asking.{MayFollow}
use Rattle.enc_session.specs.Going.{IsBetween, AreLate}
use Rattle.enc_session.specs.Ready.{Holds, Keeps, settings_in, state_in, place_in, units_in}
use Rattle.enc_session.specs.Steps.{choice_in}
use Rattle.enc_session.specs.Grouped.{GoneOn}
use Rattle.enc_session.proofs.Growing.{units_after}
use Rattle.enc_session.proofs.Listed.{counts_low}

-- ---- places in a period

pub mod_plus : (d j idr : ℕ) → d % idr + j < idr → (d + j) % idr ≡ d % idr + j
mod_plus d j idr h =
    let e = div-add-mod' d idr in
    let s : d + j ≡ d / idr * idr + (d % idr + j) = omega (arith, e) in
    ap (λ (n : ℕ). n % idr) s ∙ in_period idr (d / idr) (d % idr + j) h

not_end : (d n idr : ℕ) → 0 < idr → d % idr + n ≤ idr → ((d + n) % idr == 0) ≡ false → d % idr + n < idr
not_end d n idr some h e =
    let k = div-add-mod' d idr in
    let s : d + n ≡ d / idr * idr + (d % idr + n) = omega (arith, k) in
    within idr (d / idr) (d % idr + n) some h (ap (λ (m : ℕ). m % idr == 0) (sym s) ∙ e)

-- how many pictures there are
few_by : (b : Bool) (n wanted idr r : ℕ) → 0 < idr → r < idr → 1 ≤ n → n ≤ (if b then 1 else max 1 (min wanted (min (idr - r) wanted))) → b ≡ false → (r + n ≤ idr) × ((2 ≤ n) → n ≤ wanted)
few_by true n wanted idr r some less one h e = absurd cc
few_by false n wanted idr r some less one h e = (omega (arith, less, one, h), λ two. omega (arith, two, h))

one_by : (b : Bool) (n m : ℕ) → n ≤ (if b then 1 else m) → b ≡ true → n ≤ 1
one_by true n m h e = h
one_by false n m h e = absurd cc

pub few_pictures : (f : SessionSettings) (p : Place) (n : ℕ) → 0 < f.idr → 1 ≤ n → n ≤ full_at f p → (p.display % f.idr == 0) ≡ false → (p.display % f.idr + n ≤ f.idr) × ((2 ≤ n) → n ≤ f.bframes + 1)
few_pictures f p n some one most e = few_by (p.display % f.idr == 0) n (f.bframes + 1) f.idr (p.display % f.idr) some (mod-lt p.display some) one most e

pub one_picture : (f : SessionSettings) (p : Place) (n : ℕ) → n ≤ full_at f p → (p.display % f.idr == 0) ≡ true → n ≤ 1
one_picture f p n most e = one_by (p.display % f.idr == 0) n (max 1 (min (fixed f.bframes p.display) (min (f.idr - p.display % f.idr) (fixed f.bframes p.display)))) most e

-- ---- the steps

pub group_idr : (d n idr number : ℕ) → (d % idr == 0) ≡ true → group d n idr number ≡ idr_step d ∷ []
unfolding group
group_idr d n idr number e = ap (λ (b : Bool). if b then idr_step d ∷ [] else p_step idr (d + (n - 1)) number ∷ b_steps idr d number (n - 1)) e

pub group_p : (d n idr number : ℕ) → (d % idr == 0) ≡ false → group d n idr number ≡ p_step idr (d + (n - 1)) number ∷ b_steps idr d number (n - 1)
unfolding group
group_p d n idr number e = ap (λ (b : Bool). if b then idr_step d ∷ [] else p_step idr (d + (n - 1)) number ∷ b_steps idr d number (n - 1)) e

-- what the first step of a group asks for
pub record FirstFits (e : Engine) (st : PlanStep) : Type 0 where
  pub step : StepFits st.idr st.kind st
  pub follows : st.idr ≡ false → MayFollow e.store st
  pub few : units_in e < 1000000
  pub display : st.display < 1000000
  pub late : units_in e ≤ st.display + (if reorders (settings_in e) then 1 else 0)

p_marks : (held : List Shown) (a poc number : ℕ) → AllByRecursion (λ r. r.poc < a) held → AllByRecursion (λ r. r.frame_num < number) held → a ≤ poc → AllByRecursion (λ (m : ℕ × ℕ). (m.0 < poc) × (m.1 < number)) (map mark held)
p_marks [] a poc number h k le = tt
p_marks (r ∷ rs) a poc number h k le = let x = h.0 in ((omega (arith, x, le), k.0), p_marks rs a poc number h.1 k.1 le)

length-marks : (held : List Shown) → length (map mark held) ≡ length held
length-marks [] = refl
length-marks (r ∷ rs) = ap suc (length-marks rs)

-- a P picture
p_follows : (e : Engine) (n : ℕ) → Keeps e → (e.display % e.settings.idr == 0) ≡ false → 1 ≤ n → e.display % e.settings.idr + n ≤ e.settings.idr → (st : PlanStep) → st ≡ p_step e.settings.idr (e.display + (n - 1)) e.number → StepFits st.idr st.kind st × (st.idr ≡ false → MayFollow e.store st)
p_follows e n k b one room st is =
    let g = k.goes_on b in
    let idr = k.holds.range.idr_most in
    let small = g.small in
    let turn : e.display % e.settings.idr + (n - 1) < e.settings.idr = omega (arith, one, room) in
    let place = mod_plus e.display (n - 1) e.settings.idr turn in
    let poc : 2 * (e.display % e.settings.idr) ≤ 2 * ((e.display + (n - 1)) % e.settings.idr) = omega (arith, place) in
    let fits : StepFits false P (p_step e.settings.idr (e.display + (n - 1)) e.number) = (tt, omega (arith, small, idr, turn), omega (arith, place, idr, turn)) in
    subst (λ (x : PlanStep). StepFits x.idr x.kind x × (x.idr ≡ false → MayFollow e.store x)) (sym is) (
      fits,
      λ u. record {
        step = fits;
        origin = k.holds.origin;
        marks = (
          subst (λ (m : ℕ). 1 ≤ m) (sym (length-marks (held_of e.store))) g.some,
          p_marks (held_of e.store) (2 * (e.display % e.settings.idr)) (2 * ((e.display + (n - 1)) % e.settings.idr)) e.number g.before
              (subst (λ (m : ℕ). AllByRecursion (λ r. r.frame_num < m) (held_of e.store)) g.newest (counts_low (next_number (held_of e.store)) (next_number (held_of e.store)) (held_of e.store) e.store.order.0 (le_refl (next_number (held_of e.store))))) poc,
        );
        none = λ h. absurd (differ h);
        number = λ h. sym g.newest;
      },
    )
  where
    differ : false ≡ true → ⊥
    differ h = absurd cc

get_first : (st d : PlanStep) (sts xs : List PlanStep) → xs ≡ st ∷ sts → get_or xs 0 d ≡ st
get_first st d sts xs e = ap (λ (ys : List PlanStep). get_or ys 0 d) e

first_by : (b : Bool) (e : Engine) (steps : List PlanStep) (d : PlanStep) → Keeps e → 1 ≤ length steps → length steps ≤ full_at (settings_in e) (place_in e) → steps ≡ group e.display (length steps) e.settings.idr e.number → e.display + length steps ≤ 1000000 → (e.display % e.settings.idr == 0) ≡ b → FirstFits e (get_or steps 0 d)
first_by true e steps d k one most is few b =
    let st : get_or steps 0 d ≡ idr_step e.display = get_first (idr_step e.display) d [] steps (is ∙ group_idr e.display (length steps) e.settings.idr e.number b) in
    let units = k.counted in
    subst (λ (x : PlanStep). FirstFits e x) (sym st)
    (record {
      step = (refl, refl, refl);
      follows = λ u. absurd (differ u);
      few = omega (arith, units, few, one);
      display = omega (arith, few, one);
      late = by (reorders (settings_in e)) units;
    })
  where
    differ : true ≡ false → ⊥
    differ h = absurd cc

    by : (r : Bool) → units_in e ≡ e.display → units_in e ≤ e.display + (if r then 1 else 0)
    by true h = omega (arith, h)
    by false h = omega (arith, h)
first_by false e steps d k one most is few b =
    let some = k.holds.range.idr_least in
    let room = few_pictures (settings_in e) (place_in e) (length steps) some one most b in
    let st : get_or steps 0 d ≡ p_step e.settings.idr (e.display + (length steps - 1)) e.number = get_first (p_step e.settings.idr (e.display + (length steps - 1)) e.number) d (b_steps e.settings.idr e.display e.number (length steps - 1)) steps (is ∙ group_p e.display (length steps) e.settings.idr e.number b) in
    let units = k.counted in
    let f = p_follows e (length steps) k b one room.0 (get_or steps 0 d) st in
    let shown : (get_or steps 0 d).display ≡ e.display + (length steps - 1) = ap (λ (x : PlanStep). x.display) st in
    record {
      step = f.0;
      follows = f.1;
      few = omega (arith, units, few, one);
      display = omega (arith, shown, few, one);
      late = by (reorders (settings_in e)) (get_or steps 0 d).display (length steps) shown units;
    }
  where
    by : (r : Bool) (x n : ℕ) → x ≡ e.display + (n - 1) → units_in e ≡ e.display → units_in e ≤ x + (if r then 1 else 0)
    by true x n s h = omega (arith, s, h)
    by false x n s h = omega (arith, s, h)

pub first_fits : (e : Engine) (steps : List PlanStep) (d : PlanStep) → Keeps e → 1 ≤ length steps → length steps ≤ full_at (settings_in e) (place_in e) → steps ≡ group e.display (length steps) e.settings.idr e.number → e.display + length steps ≤ 1000000 → FirstFits e (get_or steps 0 d)
first_fits e steps d k one most is few = first_by (e.display % e.settings.idr == 0) e steps d k one most is few refl

-- ---- what is held behind the first step

marks_behind : (f : SessionSettings) (s : State) (st : PlanStep) (p : Picked Read) (t : State) → t ≡ after frames (sequence_of f) (choice_in f) s st p → map mark t.held ≡ marks_after f.refs st (map mark s.held)
unfolding after
marks_behind f s st p t e = ap (λ (x : State). map mark x.held) e ∙ marks_go_on frames (sequence_of f) s.held (access_of st p)

-- it is the newest, and others follow it
pub record NewestIs (held : List Shown) (m : ℕ × ℕ) (ms : List (ℕ × ℕ)) : Type 0 where
  pub marks : map mark held ≡ m ∷ ms
  pub some : 1 ≤ length held
  pub number : newest_number held ≡ m.1

newest_by : (held : List Shown) (m : ℕ × ℕ) (ms : List (ℕ × ℕ)) → map mark held ≡ m ∷ ms → NewestIs held m ms
newest_by [] m ms e = absurd cc
newest_by (r ∷ rs) m ms e = record { marks = e; some = omega arith; number = ap (λ (xs : List (ℕ × ℕ)). (get_or xs 0 m).1) e }

slid_first : (refs : ℕ) (m : ℕ × ℕ) (ms : List (ℕ × ℕ)) → 1 ≤ refs → marks_slid refs m ms ≡ m ∷ take (refs - 1) ms
unfolding marks_slid
slid_first zero m ms h = absurd (omega (arith, h))
slid_first (suc r) m ms h = let e : suc r - 1 ≡ r = omega arith in ap (λ (k : ℕ). m ∷ take k ms) (sym e)

pub newest_behind : (f : SessionSettings) (s : State) (st : PlanStep) (p : Picked Read) (t : State) → 1 ≤ f.refs → is_referred st.kind ≡ true → t ≡ after frames (sequence_of f) (choice_in f) s st p → NewestIs t.held (st.poc, st.frame_num) (take (f.refs - 1) (marks_kept st.idr (map mark s.held)))
newest_behind f s st p t refs referred e =
    newest_by t.held (st.poc, st.frame_num) (take (f.refs - 1) (marks_kept st.idr (map mark s.held)))
    (marks_behind f s st p t e
    ∙ ap (λ (b : Bool). if b then marks_slid f.refs (st.poc, st.frame_num) (marks_kept st.idr (map mark s.held)) else marks_kept st.idr (map mark s.held)) referred
    ∙ slid_first f.refs (st.poc, st.frame_num) (marks_kept st.idr (map mark s.held)) refs)

-- ---- B pictures

marks_low : (held : List Shown) (a : ℕ) → AllByRecursion (λ r. r.poc < a) held → AllByRecursion (λ (m : ℕ × ℕ). m.0 < a) (map mark held)
marks_low [] a h = tt
marks_low (r ∷ rs) a h = (h.0, marks_low rs a h.1)

marks_lower : (ms : List (ℕ × ℕ)) (a b : ℕ) → a ≤ b → AllByRecursion (λ (m : ℕ × ℕ). m.0 < a) ms → AllByRecursion (λ (m : ℕ × ℕ). m.0 < b) ms
marks_lower [] a b le h = tt
marks_lower (m ∷ ms) a b le h = let x = h.0 in (omega (arith, x, le), marks_lower ms a b le h.1)

marks_taken : (n : ℕ) (ms : List (ℕ × ℕ)) (a : ℕ) → AllByRecursion (λ (m : ℕ × ℕ). m.0 < a) ms → AllByRecursion (λ (m : ℕ × ℕ). m.0 < a) (take n ms)
marks_taken zero ms a h = tt
marks_taken (suc n) [] a h = tt
marks_taken (suc n) (m ∷ ms) a h = (h.0, marks_taken n ms a h.1)

length-taken : (n : ℕ) (ms : List (ℕ × ℕ)) → 1 ≤ n → 1 ≤ length ms → 1 ≤ length (take n ms)
length-taken zero ms a b = absurd (omega (arith, a))
length-taken (suc n) [] a b = b
length-taken (suc n) (m ∷ ms) a b = omega arith

between_from : (idr d number top low : ℕ) (held : List Shown) (ms : List (ℕ × ℕ)) (j k : ℕ) → NewestIs held (top, number) ms → 1 ≤ length ms → AllByRecursion (λ (m : ℕ × ℕ). m.0 < low) ms → low ≤ 2 * (d % idr) → top ≡ 2 * (d % idr + (j + k)) → d % idr + (j + k) < idr → idr ≤ 600 → number + 1 < 65536 → d + (j + k) < 1000000
    → AllByRecursion (IsBetween held) (b_steps idr (d + j) number k)
unfolding b_steps
between_from idr d number top low held ms j zero new some below le e room small num few = tt
between_from idr d number top low held ms j (suc k) new some below le e room small num few =
    let place : (d + j) % idr ≡ d % idr + j = mod_plus d j idr (omega (arith, room)) in
    let poc : 2 * ((d + j) % idr) < top = omega (arith, place, e) in
    let marks : KindFits B (2 * ((d + j) % idr)) (number + 1) ((top, number) ∷ ms) = (some, poc, marks_lower ms low (2 * ((d + j) % idr)) (omega (arith, place, le)) below) in
    let next : d + j + 1 ≡ d + (j + 1) = omega arith in (
      record {
        kind = refl;
        idr = refl;
        step = (tt, num, omega (arith, place, room, small));
        marks = subst (λ (xs : List (ℕ × ℕ)). KindFits B (2 * ((d + j) % idr)) (number + 1) xs) (sym new.marks) marks;
        number = ap (λ (n : ℕ). n + 1) (sym new.number);
        display = omega (arith, few);
      },
      subst (λ (x : ℕ). AllByRecursion (IsBetween held) (b_steps idr x number k)) (sym next)
          (between_from idr d number top low held ms (j + 1) k new some below le (omega (arith, e)) (omega (arith, room)) small num (omega (arith, few))),
    )

late_from : (idr d number u k : ℕ) → u ≤ d + 1 → AreLate true u (b_steps idr d number k)
unfolding b_steps
late_from idr d number u zero h = tt
late_from idr d number u (suc k) h = (h, late_from idr (d + 1) number (u + 1) k (omega (arith, h)))

no_between : (held : List Shown) (xs : List PlanStep) → xs ≡ [] → AllByRecursion (IsBetween held) xs
no_between held xs e = subst (λ (ys : List PlanStep). AllByRecursion (IsBetween held) ys) (sym e) tt

no_late : (r : Bool) (u : ℕ) (xs : List PlanStep) → xs ≡ [] → AreLate r u xs
no_late r u xs e = subst (λ (ys : List PlanStep). AreLate r u ys) (sym e) tt

two_refs : (e : Engine) (n : ℕ) → Holds e → 2 ≤ n → ((2 ≤ n) → n ≤ e.settings.bframes + 1) → 2 ≤ e.settings.refs
two_refs e n h two most = by (has_room e.settings h.range.refs_least h.early)
  where
    by : ((2 ≤ e.settings.refs) ⊎ ((d : ℕ) → fixed e.settings.bframes d ≤ 1)) → 2 ≤ e.settings.refs
    by (inl x) = x
    by (inr f) = let a = f 0 in let b = most two in absurd (omega (arith, a, b, two))

some_between : (f : SessionSettings) (n : ℕ) → 2 ≤ n → n ≤ f.bframes + 1 → reorders f ≡ true
some_between f n two most = is (f.bframes) (omega (arith, two, most))
  where
    is : (b : ℕ) → 1 ≤ b → not (b == 0) ≡ true
    is b h = grind (arith, nat_tests)

rest_of : (st : PlanStep) (sts xs : List PlanStep) → xs ≡ st ∷ sts → drop 1 xs ≡ sts
rest_of st sts xs e = ap (λ (ys : List PlanStep). drop 1 ys) e

no_steps : (idr d number : ℕ) → b_steps idr d number 0 ≡ []
unfolding b_steps
no_steps idr d number = refl

-- the B pictures of a group may follow its first one
p_between : (e g : Engine) (p : Picked Read) (n : ℕ) → Keeps e → (e.display % e.settings.idr == 0) ≡ false → 1 ≤ n → e.display % e.settings.idr + n ≤ e.settings.idr → ((2 ≤ n) → n ≤ e.settings.bframes + 1) → e.display + n ≤ 1000000
    → state_in g ≡ after frames (sequence_of (settings_in e)) (choice_in (settings_in e)) (state_in e) (p_step e.settings.idr (e.display + (n - 1)) e.number) p
    → AllByRecursion (IsBetween (held_of g.store)) (b_steps e.settings.idr e.display e.number (n - 1)) × AreLate (reorders (settings_in e)) (units_in g) (b_steps e.settings.idr e.display e.number (n - 1))
p_between e g p n k b one room most few state = by (n - 1) refl
  where
    by : (m : ℕ) → m ≡ n - 1 → AllByRecursion (IsBetween (held_of g.store)) (b_steps e.settings.idr e.display e.number (n - 1)) × AreLate (reorders (settings_in e)) (units_in g) (b_steps e.settings.idr e.display e.number (n - 1))
    by zero z =
        let none : b_steps e.settings.idr e.display e.number (n - 1) ≡ [] = ap (λ (m : ℕ). b_steps e.settings.idr e.display e.number m) (sym z) ∙ no_steps e.settings.idr e.display e.number in
        (no_between (held_of g.store) (b_steps e.settings.idr e.display e.number (n - 1)) none, no_late (reorders (settings_in e)) (units_in g) (b_steps e.settings.idr e.display e.number (n - 1)) none)
    by (suc m) z =
        let two : 2 ≤ n = omega (arith, z) in
        let refs = two_refs e n k.holds two most in
        let go = k.goes_on b in
        let small = go.small in
        let idr = k.holds.range.idr_most in
        let st : PlanStep = p_step e.settings.idr (e.display + (n - 1)) e.number in
        let new : NewestIs (held_of g.store) (st.poc, e.number) (take (e.settings.refs - 1) (map mark (held_of e.store))) = newest_behind (settings_in e) (state_in e) st p (state_in g) (omega (arith, refs)) refl state in
        let top : st.poc ≡ 2 * (e.display % e.settings.idr + (0 + (n - 1))) = let q = mod_plus e.display (n - 1) e.settings.idr (omega (arith, one, room)) in omega (arith, q) in
        let zero_place : e.display + 0 ≡ e.display = omega arith in
        let units : units_in g ≡ units_in e + 1 = ap (λ (x : State). x.ledger.units) state ∙ units_after (settings_in e) (state_in e) st p in
        let counted = k.counted in (
          subst (λ (x : ℕ). AllByRecursion (IsBetween (held_of g.store)) (b_steps e.settings.idr x e.number (n - 1))) zero_place
              (between_from e.settings.idr e.display e.number st.poc (2 * (e.display % e.settings.idr)) (held_of g.store) (take (e.settings.refs - 1) (map mark (held_of e.store))) 0 (n - 1) new
              (length-taken (e.settings.refs - 1) (map mark (held_of e.store)) (omega (arith, refs)) (subst (λ (x : ℕ). 1 ≤ x) (sym (length-marks (held_of e.store))) go.some))
              (marks_taken (e.settings.refs - 1) (map mark (held_of e.store)) (2 * (e.display % e.settings.idr)) (marks_low (held_of e.store) (2 * (e.display % e.settings.idr)) go.before))
              (le_refl (2 * (e.display % e.settings.idr))) top (omega (arith, one, room)) idr (omega (arith, small, idr, one, room)) (omega (arith, few, one))),
          subst (λ (r : Bool). AreLate r (units_in g) (b_steps e.settings.idr e.display e.number (n - 1))) (sym (some_between (settings_in e) n two (most two))) (late_from e.settings.idr e.display e.number (units_in g) (n - 1) (omega (arith, units, counted))),
        )

between_by : (b : Bool) (e g : Engine) (steps : List PlanStep) (d : PlanStep) (p : Picked Read) → Keeps e → 1 ≤ length steps → length steps ≤ full_at (settings_in e) (place_in e) → steps ≡ group e.display (length steps) e.settings.idr e.number → e.display + length steps ≤ 1000000 → (e.display % e.settings.idr == 0) ≡ b
    → state_in g ≡ after frames (sequence_of (settings_in e)) (choice_in (settings_in e)) (state_in e) (get_or steps 0 d) p → AllByRecursion (IsBetween (held_of g.store)) (drop 1 steps) × AreLate (reorders (settings_in e)) (units_in g) (drop 1 steps)
between_by true e g steps d p k one most is few b state =
    let none : drop 1 steps ≡ [] = rest_of (idr_step e.display) [] steps (is ∙ group_idr e.display (length steps) e.settings.idr e.number b) in
    (no_between (held_of g.store) (drop 1 steps) none, no_late (reorders (settings_in e)) (units_in g) (drop 1 steps) none)
between_by false e g steps d p k one most is few b state =
    let room = few_pictures (settings_in e) (place_in e) (length steps) k.holds.range.idr_least one most b in
    let st : PlanStep = p_step e.settings.idr (e.display + (length steps - 1)) e.number in
    let whole = is ∙ group_p e.display (length steps) e.settings.idr e.number b in
    let rest : drop 1 steps ≡ b_steps e.settings.idr e.display e.number (length steps - 1) = rest_of st (b_steps e.settings.idr e.display e.number (length steps - 1)) steps whole in
    let first : get_or steps 0 d ≡ st = get_first st d (b_steps e.settings.idr e.display e.number (length steps - 1)) steps whole in
    subst (λ (xs : List PlanStep). AllByRecursion (IsBetween (held_of g.store)) xs × AreLate (reorders (settings_in e)) (units_in g) xs) (sym rest)
    (p_between e g p (length steps) k b one room.0 room.1 few (state ∙ ap (λ (x : PlanStep). after frames (sequence_of (settings_in e)) (choice_in (settings_in e)) (state_in e) x p) first))

pub between_fits : (e g : Engine) (steps : List PlanStep) (d : PlanStep) (p : Picked Read) → Keeps e → 1 ≤ length steps → length steps ≤ full_at (settings_in e) (place_in e) → steps ≡ group e.display (length steps) e.settings.idr e.number → e.display + length steps ≤ 1000000
    → state_in g ≡ after frames (sequence_of (settings_in e)) (choice_in (settings_in e)) (state_in e) (get_or steps 0 d) p → AllByRecursion (IsBetween (held_of g.store)) (drop 1 steps) × AreLate (reorders (settings_in e)) (units_in g) (drop 1 steps)
between_fits e g steps d p k one most is few state = between_by (e.display % e.settings.idr == 0) e g steps d p k one most is few refl state

-- ---- behind the group

low_back : (held : List Shown) (a : ℕ) → AllByRecursion (λ (m : ℕ × ℕ). m.0 < a) (map mark held) → AllByRecursion (λ r. r.poc < a) held
low_back held a h = all_marked (λ m. m.0 < a) held h

-- what is held, where it is so
record Left (e : Engine) (held : List Shown) (n : ℕ) : Type 0 where
  pub some : 1 ≤ length held
  pub newest : newest_number held + 1 ≡ (place_behind (settings_in e) (place_in e) n).number
  pub small : ((e.display + n) % e.settings.idr == 0) ≡ false → newest_number held + 1 ≤ (e.display + n) % e.settings.idr
  pub before : ((e.display + n) % e.settings.idr == 0) ≡ false → AllByRecursion (λ r. r.poc < 2 * ((e.display + n) % e.settings.idr)) held

taken_none : (n : ℕ) → take {A = ℕ × ℕ} n [] ≡ []
taken_none zero = refl
taken_none (suc n) = refl

not_zero : (n : ℕ) → (n == 0) ≡ false → 1 ≤ n
not_zero n h = grind (arith, nat_tests)

marks_bound : (held : List Shown) (m : ℕ × ℕ) (ms : List (ℕ × ℕ)) (a : ℕ) → map mark held ≡ m ∷ ms → m.0 < a → AllByRecursion (λ (k : ℕ × ℕ). k.0 < a) ms → AllByRecursion (λ r. r.poc < a) held
marks_bound held m ms a e first rest = low_back held a (subst (λ (xs : List (ℕ × ℕ)). AllByRecursion (λ (k : ℕ × ℕ). k.0 < a) xs) (sym e) (first, rest))

left_idr : (e : Engine) (n : ℕ) (held : List Shown) (ms : List (ℕ × ℕ)) → (e.display % e.settings.idr == 0) ≡ true → NewestIs held (0, 0) ms → ms ≡ [] → Left e held n
left_idr e n held ms b new none = record {
  some = new.some;
  newest = ap (λ (k : ℕ). k + 1) new.number ∙ sym (ap (λ (t : Bool). if t then 1 else e.number + 1) b);
  small = λ z. let a = not_zero ((e.display + n) % e.settings.idr) z in let c = new.number in omega (arith, a, c);
  before = λ z. let a = not_zero ((e.display + n) % e.settings.idr) z in
      marks_bound held (0, 0) ms (2 * ((e.display + n) % e.settings.idr)) new.marks (omega (arith, a)) (subst (λ (xs : List (ℕ × ℕ)). AllByRecursion (λ (k : ℕ × ℕ). k.0 < 2 * ((e.display + n) % e.settings.idr)) xs) (sym none) tt);
}

left_p : (e : Engine) (n : ℕ) (held : List Shown) → Keeps e → (e.display % e.settings.idr == 0) ≡ false → 1 ≤ n → e.display % e.settings.idr + n ≤ e.settings.idr → NewestIs held (2 * ((e.display + (n - 1)) % e.settings.idr), e.number) (take (e.settings.refs - 1) (map mark (held_of e.store))) → Left e held n
left_p e n held k b one room new =
    let go = k.goes_on b in
    let was = go.small in
    let last = mod_plus e.display (n - 1) e.settings.idr (omega (arith, one, room)) in
    let low = marks_taken (e.settings.refs - 1) (map mark (held_of e.store)) (2 * (e.display % e.settings.idr)) (marks_low (held_of e.store) (2 * (e.display % e.settings.idr)) go.before) in
    record {
      some = new.some;
      newest = ap (λ (x : ℕ). x + 1) new.number ∙ sym (ap (λ (t : Bool). if t then 1 else e.number + 1) b);
      small = λ z.
          let next = mod_plus e.display n e.settings.idr (not_end e.display n e.settings.idr (omega (arith, one, room)) room z) in
          let c = new.number in omega (arith, next, c, was, one);
      before = λ z.
          let next = mod_plus e.display n e.settings.idr (not_end e.display n e.settings.idr (omega (arith, one, room)) room z) in
          marks_bound held (2 * ((e.display + (n - 1)) % e.settings.idr), e.number) (take (e.settings.refs - 1) (map mark (held_of e.store))) (2 * ((e.display + n) % e.settings.idr)) new.marks
          (omega (arith, next, last, one)) (marks_lower (take (e.settings.refs - 1) (map mark (held_of e.store))) (2 * (e.display % e.settings.idr)) (2 * ((e.display + n) % e.settings.idr)) (omega (arith, next)) low);
    }

left_by : (b : Bool) (e g : Engine) (steps : List PlanStep) (d : PlanStep) (p : Picked Read) → Keeps e → 1 ≤ length steps → length steps ≤ full_at (settings_in e) (place_in e) → steps ≡ group e.display (length steps) e.settings.idr e.number → (e.display % e.settings.idr == 0) ≡ b
    → state_in g ≡ after frames (sequence_of (settings_in e)) (choice_in (settings_in e)) (state_in e) (get_or steps 0 d) p → Left e (held_of g.store) (length steps)
left_by true e g steps d p k one most is b state =
    let st : get_or steps 0 d ≡ idr_step e.display = get_first (idr_step e.display) d [] steps (is ∙ group_idr e.display (length steps) e.settings.idr e.number b) in
    let new : NewestIs (held_of g.store) (0, 0) (take (e.settings.refs - 1) []) =
    newest_behind (settings_in e) (state_in e) (idr_step e.display) p (state_in g) k.holds.range.refs_least refl (state ∙ ap (λ (x : PlanStep). after frames (sequence_of (settings_in e)) (choice_in (settings_in e)) (state_in e) x p) st) in
    left_idr e (length steps) (held_of g.store) (take (e.settings.refs - 1) []) b new (taken_none (e.settings.refs - 1))
left_by false e g steps d p k one most is b state =
    let room = few_pictures (settings_in e) (place_in e) (length steps) k.holds.range.idr_least one most b in
    let st : PlanStep = p_step e.settings.idr (e.display + (length steps - 1)) e.number in
    let first : get_or steps 0 d ≡ st = get_first st d (b_steps e.settings.idr e.display e.number (length steps - 1)) steps (is ∙ group_p e.display (length steps) e.settings.idr e.number b) in
    left_p e (length steps) (held_of g.store) k b one room.0
    (newest_behind (settings_in e) (state_in e) st p (state_in g) k.holds.range.refs_least refl (state ∙ ap (λ (x : PlanStep). after frames (sequence_of (settings_in e)) (choice_in (settings_in e)) (state_in e) x p) first))

pub gone_on : (e g h : Engine) (steps : List PlanStep) (d : PlanStep) (p : Picked Read) → Keeps e → 1 ≤ length steps → length steps ≤ full_at (settings_in e) (place_in e) → steps ≡ group e.display (length steps) e.settings.idr e.number
    → state_in g ≡ after frames (sequence_of (settings_in e)) (choice_in (settings_in e)) (state_in e) (get_or steps 0 d) p → h.store ≡ g.store → units_in h ≡ units_in e + length steps → GoneOn e h (length steps)
gone_on e g h steps d p k one most is state store units =
    let l : Left e (held_of h.store) (length steps) = subst (λ (s : RefStore). Left e (held_of s) (length steps)) (sym store) (left_by (e.display % e.settings.idr == 0) e g steps d p k one most is refl state) in
    record { units = units; some = l.some; newest = l.newest; small = l.small; before = l.before }

-- the newest one is there
pub some_held : (e g : Engine) (steps : List PlanStep) (d : PlanStep) (p : Picked Read) → Keeps e → 1 ≤ length steps → length steps ≤ full_at (settings_in e) (place_in e) → steps ≡ group e.display (length steps) e.settings.idr e.number
    → state_in g ≡ after frames (sequence_of (settings_in e)) (choice_in (settings_in e)) (state_in e) (get_or steps 0 d) p → 1 ≤ length (held_of g.store)
some_held e g steps d p k one most is state = (left_by (e.display % e.settings.idr == 0) e g steps d p k one most is refl state).some
