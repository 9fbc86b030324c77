-- The place behind a group that was coded.
use Rattle.std.proofs.Common.{ℕ, ◌+◌, ◌*◌, ◌%◌, ◌==◌, ◌≡◌, ◌≤◌, ◌<◌, Bool, true, false, List, length, refl, ap, ap₂, sym, subst, ◌∙◌, arith}
use Rattle.std.specs.Prelude.{if◌then◌else◌, Result, Ok, Err, IfOk}
use Rattle.std.specs.List.{AllByRecursion}
use Rattle.enc_tables.specs.declared.records.PlanStep.{PlanStep}
use Rattle.spec_lists.specs.Heads.{newest_number}
use Rattle.spec_plan.specs.Plan.{group, next_number}
use Rattle.spec_session.specs.Groups.{Place, place_behind}
use Rattle.ref_lists.specs.Stored.{held_of}
use Rattle.enc_session.specs.declared.engine.Engine.{Engine}
use Rattle.enc_session.specs.Grouped.{GoneOn, Passed, first_number}
use Rattle.enc_session.specs.Ready.{Holds, Keeps, settings_in, place_in}
use Rattle.enc_session.specs.Stepping.{SameEngine}
use Rattle.enc_session.proofs.Planned.{group_idr, group_p}

number_by : (b : Bool) (e : Engine) (steps : List PlanStep) → (e.display % e.settings.idr == 0) ≡ b → steps ≡ group e.display (length steps) e.settings.idr e.number → first_number steps + 1 ≡ next_number e.settings.idr e.display e.number
number_by true e steps b is =
    ap (λ (xs : List PlanStep). first_number xs + 1) (is ∙ group_idr e.display (length steps) e.settings.idr e.number b) ∙ sym (ap (λ (t : Bool). if t then 1 else e.number + 1) b)
number_by false e steps b is =
    ap (λ (xs : List PlanStep). first_number xs + 1) (is ∙ group_p e.display (length steps) e.settings.idr e.number b) ∙ sym (ap (λ (t : Bool). if t then 1 else e.number + 1) b)

number_is : (e : Engine) (steps : List PlanStep) → steps ≡ group e.display (length steps) e.settings.idr e.number → first_number steps + 1 ≡ next_number e.settings.idr e.display e.number
number_is e steps is = number_by (e.display % e.settings.idr == 0) e steps refl is

pub place_is : (e g h : Engine) (steps : List PlanStep) → steps ≡ group e.display (length steps) e.settings.idr e.number → SameEngine e g → Passed steps g h → place_in h ≡ place_behind (settings_in e) (place_in e) (length steps)
place_is e g h steps is same passed =
    ap (λ (x : Engine). place_in x) passed
    ∙ ap₂ (λ (d n : ℕ). let p : Place = record { display = d + length steps; number = n } in p) same.display (number_is e steps is)

rest_is : (e g : Engine) (n : ℕ) → SameEngine e g → (g.display + n) % g.settings.idr ≡ (e.display + n) % e.settings.idr
rest_is e g n same = ap (λ (d : ℕ). (d + n) % g.settings.idr) same.display ∙ ap (λ s. (e.display + n) % s.idr) same.settings

passed_holds : (g : Engine) (d n : ℕ) → Holds g → Holds (record g { display = d; number = n })
passed_holds g d n h = record {
  range = h.range;
  early = h.early;
  head = h.head;
  complete = h.complete;
  coder = h.coder;
  sizes = h.sizes;
  coder_room = h.coder_room;
  width = h.width;
  height = h.height;
  places = h.places;
  rate = h.rate;
  payload = h.payload;
  unit = h.unit;
  idrs = h.idrs;
  last_idr = h.last_idr;
  compared = h.compared;
  origin = h.origin;
}

passed_goes_on : (e g : Engine) (steps : List PlanStep) (rest : ℕ) → steps ≡ group e.display (length steps) e.settings.idr e.number → GoneOn e g (length steps) → rest ≡ (e.display + length steps) % e.settings.idr → (rest == 0) ≡ false
    → (newest_number (held_of g.store) + 1 ≡ first_number steps + 1) × (first_number steps + 1 ≤ rest) × AllByRecursion (λ r. r.poc < 2 * rest) (held_of g.store)
passed_goes_on e g steps rest is gone same more =
    let there : ((e.display + length steps) % e.settings.idr == 0) ≡ false = ap (λ (k : ℕ). k == 0) (sym same) ∙ more in
    let number : newest_number (held_of g.store) + 1 ≡ first_number steps + 1 = gone.newest ∙ sym (number_is e steps is) in
    let small = gone.small there in
    (number, omega (arith, number, small, same), subst (λ (k : ℕ). AllByRecursion (λ r. r.poc < 2 * k) (held_of g.store)) (sym same) (gone.before there))

pub keeps_on : (e g h : Engine) (steps : List PlanStep) → Keeps e → steps ≡ group e.display (length steps) e.settings.idr e.number → Holds g → GoneOn e g (length steps) → SameEngine e g → Passed steps g h → Keeps h
keeps_on e g h steps k is holds gone same passed =
    let was = k.counted in
    let units = gone.units in
    let display = same.display in
    subst (λ (x : Engine). Keeps x) (sym passed)
    (record {
      holds = passed_holds g (g.display + length steps) (first_number steps + 1) holds;
      counted = omega (arith, was, units, display);
      goes_on = λ more.
          let on = passed_goes_on e g steps ((g.display + length steps) % g.settings.idr) is gone (rest_is e g (length steps) same) more in
          record { some = gone.some; newest = on.0; small = on.1; before = on.2 };
    })

-- ---- where a result is Ok

pub if_ok : {A E : Type 0} {P : Type 0} (r : Result A E) → P → IfOk r (λ (x : A). P)
if_ok (Ok x) p = p
if_ok (Err e) p = tt

pub if_both : {A E : Type 0} {P Q R : Type 0} (r : Result A E) → IfOk r (λ (x : A). P) → IfOk r (λ (x : A). Q) → (P → Q → R) → IfOk r (λ (x : A). R)
if_both (Ok x) p q both = both p q
if_both (Err e) p q both = tt
