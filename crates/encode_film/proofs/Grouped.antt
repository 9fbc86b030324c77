-- A group and its steps.
use Rattle.std.proofs.Common.{ℕ, zero, suc, ◌+◌, ◌-◌, ◌%◌, ◌==◌, ◌≡◌, ◌≤◌, List, [], ◌∷◌, length, take, Bool, true, false, cond, min, max, Result, Err, refl, ap, sym, ◌∙◌, subst, arith}
use Rattle.enc_edge.specs.Seen.{Seen}
use Rattle.enc_tables.specs.declared.records.PlanStep.{PlanStep}
use Rattle.spec_film.specs.Films.{Planes}
use Rattle.spec_decoder.specs.Macroblocks.{Slice as Read}
use Rattle.spec_plan.specs.Plan.{group, idr_step, p_step, b_steps}
use Rattle.spec_coding.specs.Encoding.{State, Went}
use Rattle.spec_session.specs.Settings.{SessionSettings}
use Rattle.spec_session.specs.Encodings.{encoding_from}
use Rattle.spec_session.specs.Groups.{Place, full_at, group_steps, place_behind}
use Rattle.enc_session.specs.declared.ends.GroupEnd.{GroupEnd}
use Rattle.enc_session.specs.declared.ends.GroupEnd.TheVariants as groups
use Rattle.enc_session.specs.Left.{GroupLeft}
use Rattle.encode_film.specs.declared.ends.EncodeEnd.{EncodeEnd}
use Rattle.encode_film.specs.Calls.{GroupCoded}
use Rattle.encode_film.specs.Faults.{group_end}

length-b_steps : (idr display number k : ℕ) → length (b_steps idr display number k) ≡ k
unfolding b_steps
length-b_steps idr display number zero = refl
length-b_steps idr display number (suc k) = ap suc (length-b_steps idr (display + 1) number k)

length-group : (f : SessionSettings) (p : Place) (got idr display number : ℕ) → f.idr ≡ idr → p.display ≡ display → 1 ≤ got → got ≤ full_at f p → length (group display got idr number) ≡ got
unfolding group
length-group f p got idr display number period place some most = by (display % idr == 0) refl
  where
    at_idr : Bool → List PlanStep
    at_idr b = cond b (idr_step display ∷ []) (p_step idr (display + (got - 1)) number ∷ b_steps idr display number (got - 1))

    full : Bool → ℕ
    full b = cond b 1 (max 1 (min (f.bframes + 1) (min (f.idr - p.display % f.idr) (f.bframes + 1))))

    same : (display % idr == 0) ≡ (p.display % f.idr == 0)
    same = sym (ap (λ (k : ℕ). p.display % k == 0) period ∙ ap (λ (k : ℕ). k % idr == 0) place)

    one : got ≤ 1 → 1 ≡ got
    one h = omega (arith, h, some)

    rest : suc (got - 1) ≡ got
    rest = omega (arith, some)

    by : (b : Bool) → (display % idr == 0) ≡ b → length (group display got idr number) ≡ got
    by true e = ap (λ (b : Bool). length (at_idr b)) e ∙ one (subst (λ (b : Bool). got ≤ full b) (sym same ∙ e) most)
    by false e = ap (λ (b : Bool). length (at_idr b)) e ∙ ap suc (length-b_steps idr display number (got - 1)) ∙ rest

-- the steps of a group are as many as its pictures
pub group_is : (f : SessionSettings) (p : Place) (steps shown : List PlanStep) (got idr display number : ℕ) → steps ≡ group display got idr number → shown ≡ steps → f.idr ≡ idr → p.display ≡ display → p.number ≡ number
    → 1 ≤ got → got ≤ full_at f p → (length shown ≡ got) × (shown ≡ group p.display (length shown) f.idr p.number)
group_is f p steps shown got idr display number is lent period place numbers some most =
    let long : length shown ≡ got = ap length (lent ∙ is) ∙ length-group f p got idr display number period place some most in
    (long, lent ∙ is ∙ same display p.display got (length shown) idr f.idr number p.number (sym place) (sym long) (sym period) (sym numbers))
  where
    same : (a b c d e g h k : ℕ) → a ≡ b → c ≡ d → e ≡ g → h ≡ k → group a c e h ≡ group b d g k
    same a b c d e g h k e1 e2 e3 e4 = rw (e1, e2, e3, e4) refl

-- ---- what a group leaves

pub ended_so : (f : SessionSettings) (s0 : State) (w : Went Read) (old new : Seen) (s : State) (end : GroupEnd) (e : EncodeEnd) → e ≡ group_end end → GroupLeft f s0 w old new s (Err end) → GroupCoded f s0 w old new s (Err e)
ended_so f s0 w old new s end e is left = subst (λ (x : EncodeEnd). GroupCoded f s0 w old new s (Err x)) (sym is) (by end left)
  where
    by : (x : GroupEnd) → GroupLeft f s0 w old new s (Err x) → GroupCoded f s0 w old new s (Err (group_end x))
    by (groups.Buffer picture need have) l = l
    by (groups.Write out) l = l

went : SessionSettings → State → Place → List Planes → ℕ → Went Read
went f s p pictures n = encoding_from f s (group_steps f p (take n pictures))

pub went_on_so : (f : SessionSettings) (s0 : State) (p : Place) (pictures : List Planes) (n got : ℕ) (old new : Seen) (s : State) (r : Result (Unit {0}) GroupEnd) → n ≡ got
    → GroupLeft f s0 (encoding_from f s0 (group_steps f p (take n pictures))) old new s r → GroupLeft f s0 (encoding_from f s0 (group_steps f p (take got pictures))) old new s r
went_on_so f s0 p pictures n got old new s r e left = subst (λ (k : ℕ). GroupLeft f s0 (encoding_from f s0 (group_steps f p (take k pictures))) old new s r) e left

pub place_so : (f : SessionSettings) (p q : Place) (n got : ℕ) → n ≡ got → q ≡ place_behind f p n → q ≡ place_behind f p got
place_so f p q n got e is = is ∙ ap (λ (k : ℕ). place_behind f p k) e
