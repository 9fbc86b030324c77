-- A group's first picture with the others.
use Rattle.std.proofs.Common.{ℕ, suc, ◌+◌, ◌-◌, ◌%◌, ◌≡◌, ◌≤◌, ◌<◌, ◌==◌, Bool, true, false, List, [], ◌∷◌, length, map, take, drop, get_or, slice_set, Option, Some, None, Result, Ok, Err, refl, ap, sym, subst, ◌∙◌, arith}
use Rattle.std.specs.Prelude.{IfOk, if◌then◌else◌}
use Rattle.std.specs.List.{AllByRecursion}
use Rattle.std.proofs.lemmas.List.{length-set}
use Rattle.enc_edge.specs.Seen.{Seen}
use Rattle.enc_tables.specs.declared.records.PlanStep.{PlanStep}
use Rattle.picture_planes.specs.declared.picture.Picture.{Picture}
use Rattle.picture_planes.specs.Pictures.{planes_of}
use Rattle.spec_film.specs.Films.{Planes}
use Rattle.spec_lists.specs.Heads.{is_referred}
use Rattle.spec_decoder.specs.Frames.{frames}
use Rattle.spec_decoder.specs.Macroblocks.{Slice as Read}
use Rattle.spec_plan.specs.Plan.{group, idr_step, p_step, b_steps}
use Rattle.spec_coding.specs.Encoding.{State, Picked, Chosen, Refusal, Went, Fits, Refused, after}
use Rattle.spec_session.specs.Settings.{SessionSettings}
use Rattle.spec_session.specs.Encodings.{encoding_from, reorders, sequence_of}
use Rattle.spec_session.specs.Groups.{full_at, group_steps}
use Rattle.ref_lists.specs.Stored.{held_of}
use Rattle.ref_lists.specs.declared.store.RefStore.{RefStore}
use Rattle.enc_session.specs.declared.engine.Engine.{Engine}
use Rattle.enc_session.specs.declared.ends.GroupEnd.{GroupEnd}
use Rattle.enc_session.specs.Going.{IsBetween, AreLate, BetweenLeft, EndedBy, paired}
use Rattle.enc_session.specs.Grouped.{GoneOn, StepsLeft}
use Rattle.enc_session.specs.Ready.{Keeps, settings_in, state_in, place_in, units_in}
use Rattle.enc_session.specs.Showing.{newest_planes}
use Rattle.enc_session.specs.Stepping.{SameEngine, StepCoded, StepLeft, picture_in}
use Rattle.enc_session.specs.Steps.{choice_in}
use Rattle.enc_session.proofs.Growing.{from_fits, from_refused, from_none, length-planes, map_at, no_planes, same_settings, units_after}
use Rattle.enc_session.proofs.Ordering.{StepsRise, first_failed, group_is, group_rise, newest_held, others_same, steps_left}
use Rattle.enc_session.proofs.Planned.{between_fits, gone_on, one_picture}

take_all : {X : Type 0} (xs : List X) → take (length xs) xs ≡ xs
take_all [] = refl
take_all (x ∷ xs) = ap (λ ys. x ∷ ys) (take_all xs)

rest_whole : (xs : List PlanStep) → take (length xs - 1) (drop 1 xs) ≡ drop 1 xs
rest_whole [] = refl
rest_whole (x ∷ xs) = let e : suc (length xs) - 1 ≡ length xs = omega arith in ap (λ (n : ℕ). take n xs) e ∙ take_all xs

rest_length : (xs : List PlanStep) → length (drop 1 xs) ≡ length xs - 1
rest_length [] = refl
rest_length (x ∷ xs) = omega arith

same_first : (xs : List PlanStep) (d e : PlanStep) → 1 ≤ length xs → get_or xs 0 d ≡ get_or xs 0 e
same_first [] d e h = absurd (omega (arith, h))
same_first (x ∷ xs) d e h = refl

-- ---- what is asked of the others

pub record OthersFit (g : Engine) (xs : List PlanStep) : Type 0 where
  pub between : AllByRecursion (IsBetween (held_of g.store)) xs
  pub late : AreLate (reorders (settings_in g)) (units_in g) xs
  pub few : units_in g + length xs ≤ 1000000

pub others_fit : (e g : Engine) (steps : List PlanStep) (d : PlanStep) (p : Picked Read) → Keeps e → 1 ≤ length steps → length steps ≤ full_at (settings_in e) (place_in e) → steps ≡ group e.display (length steps) e.settings.idr e.number → e.display + length steps ≤ 1000000 → SameEngine e g
    → state_in g ≡ after frames (sequence_of (settings_in e)) (choice_in (settings_in e)) (state_in e) (get_or steps 0 d) p → OthersFit g (take (length steps - 1) (drop 1 steps))
others_fit e g steps d p k one most is few same state =
    let b = between_fits e g steps d p k one most is few state in
    let units : units_in g ≡ units_in e + 1 = ap (λ (x : State). x.ledger.units) state ∙ units_after (settings_in e) (state_in e) (get_or steps 0 d) p in
    let counted = k.counted in
    let rest = rest_length steps in
    subst (λ (xs : List PlanStep). OthersFit g xs) (sym (rest_whole steps))
    (record {
      between = b.0;
      late = subst (λ (f : SessionSettings). AreLate (reorders f) (units_in g) (drop 1 steps)) (sym (same_settings e g same)) b.1;
      few = omega (arith, units, counted, rest, few, one);
    })

-- ---- the group's steps with their pictures

group_like : (e : Engine) (steps : List PlanStep) (slots : List Picture) (ps : List Planes) (q : Picture) (d : PlanStep) → 1 ≤ length steps → length steps ≤ full_at (settings_in e) (place_in e) → steps ≡ group e.display (length steps) e.settings.idr e.number → length steps ≤ length slots → length steps ≤ length ps
    → ((i : ℕ) → i < length steps - 1 → get_or ps i no_planes ≡ get_or (map planes_of slots) i no_planes)
    → group_steps (settings_in e) (place_in e) (take (length steps) (map planes_of slots)) ≡ (get_or steps 0 d, planes_of (get_or slots (length steps - 1) q)) ∷ paired (drop 1 steps) ps
group_like e steps slots ps q d one most is few room same =
    let long = length-planes slots in
    group_is e.display e.settings.idr e.number steps (map planes_of slots) ps (get_or steps 0 d) (planes_of (get_or slots (length steps - 1) q)) is one
    (λ b. let a = one_picture (settings_in e) (place_in e) (length steps) most b in omega (arith, a, one))
    (omega (arith, few, long)) room same (sym (map_at planes_of slots (length steps - 1) q no_planes (omega (arith, few, one)))) (same_first steps d (get_or steps 0 d) one)

-- the first one wasn't coded
pub steps_failed : (e : Engine) (u : State) (steps : List PlanStep) (slots : List Picture) (slot q : Picture) (d : PlanStep) (now newest : List Planes) (old new : Seen) (end : GroupEnd) → 1 ≤ length steps → length steps ≤ full_at (settings_in e) (place_in e) → steps ≡ group e.display (length steps) e.settings.idr e.number → length steps ≤ length slots
    → StepLeft (settings_in e) (state_in e) (get_or steps 0 d) (planes_of (get_or slots (length steps - 1) q)) slot old new u (Err end) → StepsLeft (settings_in e) (state_in e) (group_steps (settings_in e) (place_in e) (take (length steps) (map planes_of slots))) old new u now newest 0 (Err end)
steps_failed e u steps slots slot q d now newest old new end one most is few left =
    let long = length-planes slots in
    subst (λ (xs : List (PlanStep × Planes)). StepsLeft (settings_in e) (state_in e) xs old new u now newest 0 (Err end))
    (sym (group_like e steps slots (map planes_of slots) q d one most is few (omega (arith, few, long)) (λ i h. refl)))
    (first_failed (settings_in e) (state_in e) u (get_or steps 0 d) (planes_of (get_or slots (length steps - 1) q)) slot (paired (drop 1 steps) (map planes_of slots)) now newest old new end left)

group_referred_by : (b : Bool) (d n idr number : ℕ) (e : PlanStep) → (d % idr == 0) ≡ b → is_referred (get_or (group d n idr number) 0 e).kind ≡ true
unfolding group
group_referred_by true d n idr number e b = subst (λ (xs : List PlanStep). is_referred (get_or xs 0 e).kind ≡ true) (sym (ap (λ (t : Bool). if t then idr_step d ∷ [] else p_step idr (d + (n - 1)) number ∷ b_steps idr d number (n - 1)) b)) refl
group_referred_by false d n idr number e b = subst (λ (xs : List PlanStep). is_referred (get_or xs 0 e).kind ≡ true) (sym (ap (λ (t : Bool). if t then idr_step d ∷ [] else p_step idr (d + (n - 1)) number ∷ b_steps idr d number (n - 1)) b)) refl

pub steps_done : (e g h : Engine) (steps : List PlanStep) (slots : List Picture) (slot q : Picture) (d : PlanStep) (p : Picked Read) (now : List Planes) (old mid new : Seen) (n : ℕ) (r : Result (Unit {0}) GroupEnd) → Keeps e → 1 ≤ length steps → length steps ≤ full_at (settings_in e) (place_in e) → steps ≡ group e.display (length steps) e.settings.idr e.number → length steps ≤ length slots
    → SameEngine e g → StepCoded (settings_in e) (state_in e) (get_or steps 0 d) (planes_of (get_or slots (length steps - 1) q)) slot old mid (state_in g) p → h.store ≡ g.store
    → BetweenLeft (settings_in g) (state_in g) (paired (take (length steps - 1) (drop 1 steps)) (map planes_of (slice_set slots (length steps - 1) slot))) mid new (state_in h) now n r
    → StepsLeft (settings_in e) (state_in e) (group_steps (settings_in e) (place_in e) (take (length steps) (map planes_of slots))) old new (state_in h) now (newest_planes h.store) (n + 1) r
steps_done e g h steps slots slot q d p now old mid new n r k one most is few same c store left =
    let f : SessionSettings = settings_in e in
    let st : PlanStep = get_or steps 0 d in
    let source : Planes = planes_of (get_or slots (length steps - 1) q) in
    let first : List Planes = map planes_of (slice_set slots (length steps - 1) slot) in
    let long : length first ≡ length slots = length-planes (slice_set slots (length steps - 1) slot) ∙ length-set slots (length steps - 1) slot in
    let rest = rest_length steps in
    let between : BetweenLeft f (state_in g) (paired (drop 1 steps) first) mid new (state_in h) now n r =
    subst (λ (xs : List PlanStep). BetweenLeft f (state_in g) (paired xs first) mid new (state_in h) now n r) (rest_whole steps)
    (subst (λ (x : SessionSettings). BetweenLeft x (state_in g) (paired (take (length steps - 1) (drop 1 steps)) first) mid new (state_in h) now n r) (same_settings e g same) left) in
    let referred : is_referred st.kind ≡ true = subst (λ (xs : List PlanStep). is_referred (get_or xs 0 d).kind ≡ true) (sym is) (group_referred_by (e.display % e.settings.idr == 0) e.display (length steps) e.settings.idr e.number d refl) in
    let newest : newest_planes h.store ≡ (picture_in f (state_in e) st p).planes ∷ [] = ap (λ (s : RefStore). newest_planes s) store ∙ newest_held f (state_in e) st p (state_in g) k.holds.range.refs_least referred c.state in
    let rise : StepsRise 0 st.display (take n (drop 1 steps)) = subst (λ (xs : List PlanStep). StepsRise 0 (get_or xs 0 d).display (take n (drop 1 xs))) (sym is) (group_rise e.display (length steps) e.settings.idr e.number n d) in
    subst (λ (xs : List (PlanStep × Planes)). StepsLeft f (state_in e) xs old new (state_in h) now (newest_planes h.store) (n + 1) r)
    (sym (group_like e steps slots first q d one most is few (omega (arith, few, long)) (λ i less. others_same slots (length steps - 1) slot i less)))
    (steps_left f (state_in e) (state_in g) (state_in h) st source (drop 1 steps) first now (newest_planes h.store) p old mid new n r (omega (arith, few, long, rest)) newest rise c.chosen c.state c.seen between)

-- ---- how many units there are behind it

units_all : (f : SessionSettings) (s : State) (xs : List (PlanStep × Planes)) → (encoding_from f s xs).refused ≡ None → (encoding_from f s xs).end.ledger.units ≡ s.ledger.units + length xs
units_all f s [] h = let e : (encoding_from f s []).end.ledger.units ≡ s.ledger.units = ap (λ (w : Went Read). w.end.ledger.units) (from_none f s) in omega (arith, e)
units_all f s ((st, source) ∷ xs) h = by ((choice_in f).chosen s st source) refl (λ t. units_all f t xs)
  where
    by : (v : Chosen Read) → (choice_in f).chosen s st source ≡ v → ((t : State) → (encoding_from f t xs).refused ≡ None → (encoding_from f t xs).end.ledger.units ≡ t.ledger.units + length xs) → (encoding_from f s ((st, source) ∷ xs)).end.ledger.units ≡ s.ledger.units + length ((st, source) ∷ xs)
    by (Refused need have) e go = absurd (no (sym (ap (λ (w : Went Read). w.refused) (from_refused f s st source xs need have e)) ∙ h))
      where
        no : (let r : Option Refusal = Some (record { picture = st.display; need = need; have = have }) in r ≡ None) → ⊥
        no z = absurd cc
    by (Fits p) e go =
        let t : State = after frames (sequence_of f) (choice_in f) s st p in
        let whole = from_fits f s st source xs p e in
        let more = go t (sym (ap (λ (w : Went Read). w.refused) whole) ∙ h) in
        let end : (encoding_from f s ((st, source) ∷ xs)).end.ledger.units ≡ (encoding_from f t xs).end.ledger.units = ap (λ (w : Went Read). w.end.ledger.units) whole in
        let next = units_after f s st p in
        omega (arith, end, more, next)

length-paired : (sts : List PlanStep) (ps : List Planes) → length sts ≤ length ps → length (paired sts ps) ≡ length sts
length-paired [] ps few = refl
length-paired (st ∷ sts) [] few = absurd (omega (arith, few))
length-paired (st ∷ sts) (p ∷ ps) few = ap suc (length-paired sts ps (omega (arith, few)))

pub steps_gone : (e g h : Engine) (steps : List PlanStep) (slots : List Picture) (d : PlanStep) (p : Picked Read) (now : List Planes) (mid new : Seen) (n : ℕ) (r : Result (Unit {0}) GroupEnd) → Keeps e → 1 ≤ length steps → length steps ≤ full_at (settings_in e) (place_in e) → steps ≡ group e.display (length steps) e.settings.idr e.number → length steps ≤ length slots
    → state_in g ≡ after frames (sequence_of (settings_in e)) (choice_in (settings_in e)) (state_in e) (get_or steps 0 d) p → h.store ≡ g.store
    → BetweenLeft (settings_in g) (state_in g) (paired (take (length steps - 1) (drop 1 steps)) (map planes_of slots)) mid new (state_in h) now n r → IfOk r (λ x. GoneOn e h (length steps))
steps_gone e g h steps slots d p now mid new n r k one most is few state store left = by r left.ended
  where
    xs : List PlanStep
    xs = take (length steps - 1) (drop 1 steps)

    long : length xs ≡ length steps - 1
    long = ap (λ (ys : List PlanStep). length ys) (rest_whole steps) ∙ rest_length steps

    by : (r : Result (Unit {0}) GroupEnd) → EndedBy (settings_in g) (state_in g) (paired (take (length steps - 1) (drop 1 steps)) (map planes_of slots)) left.done mid new (state_in h) r → IfOk r (λ x. GoneOn e h (length steps))
    by (Err end) z = tt
    by (Ok done) z =
        let planes = length-planes slots in
        let units : units_in g ≡ units_in e + 1 = ap (λ (x : State). x.ledger.units) state ∙ units_after (settings_in e) (state_in e) (get_or steps 0 d) p in
        let all = units_all (settings_in g) (state_in g) (paired (take (length steps - 1) (drop 1 steps)) (map planes_of slots)) (ap (λ (w : Went Read). w.refused) z.0) in
        let end : (encoding_from (settings_in g) (state_in g) (paired (take (length steps - 1) (drop 1 steps)) (map planes_of slots))).end.ledger.units ≡ units_in h = ap (λ (w : Went Read). w.end.ledger.units) z.0 in
        let pairs = length-paired (take (length steps - 1) (drop 1 steps)) (map planes_of slots) (let l = long in omega (arith, l, few, planes)) in
        let l = long in
        gone_on e g h steps d p k one most is state store (omega (arith, units, all, end, pairs, l, one))
