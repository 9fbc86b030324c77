-- How many pictures a group is to have, and where the next one stands.
use Rattle.std.proofs.Common.{ℕ, ◌+◌, ◌≡◌, ◌≤◌, min, List, Result, refl, ap, sym, ◌∙◌, subst, arith}
use Rattle.enc_edge.specs.Seen.{Seen}
use Rattle.spec_film.specs.Films.{Planes}
use Rattle.spec_plan.specs.Plan.{fixed, group_size, next_number}
use Rattle.spec_coding.specs.Encoding.{State}
use Rattle.spec_session.specs.Settings.{SessionSettings}
use Rattle.spec_session.specs.Encodings.{encoding_from}
use Rattle.spec_session.specs.Groups.{Place, full_at, group_steps, place_behind}
use Rattle.spec_session.proofs.Cutting.{wanted_is}
use Rattle.encode_film.specs.declared.ends.EncodeEnd.{EncodeEnd}
use Rattle.encode_film.specs.Calls.{GroupCoded}

pub full_is : (f : SessionSettings) (p : Place) (bframes idr display wanted : ℕ) → f.bframes ≡ bframes → f.idr ≡ idr → p.display ≡ display → 1 ≤ wanted
    → ((left : ℕ) → 1 ≤ left → group_size (fixed bframes) idr display left ≡ min wanted left) → full_at f p ≡ wanted
full_is f p bframes idr display wanted e1 e2 e3 some h = wanted_is f p wanted some (λ left l. same left f.bframes bframes f.idr idr p.display display e1 e2 e3 ∙ h left l)
  where
    same : (left a b c d e g : ℕ) → a ≡ b → c ≡ d → e ≡ g → group_size (fixed a) c e left ≡ group_size (fixed b) d g left
    same left a b c d e g h1 h2 h3 = rw (h1, h2, h3) refl

-- by settings and a state that are the same
pub coded_at : (f g : SessionSettings) (s t after : State) (p : Place) (qs : List Planes) (old new : Seen) (r : Result (Unit {0}) EncodeEnd) → g ≡ f → t ≡ s → GroupCoded g t (encoding_from g t (group_steps g p qs)) old new after r
    → GroupCoded f s (encoding_from f s (group_steps f p qs)) old new after r
coded_at f g s t after p qs old new r same state h =
    subst (λ (x : SessionSettings). GroupCoded x s (encoding_from x s (group_steps x p qs)) old new after r) same (subst (λ (x : State). GroupCoded g x (encoding_from g x (group_steps g p qs)) old new after r) state h)

place_by : ℕ → ℕ → Place
place_by display number = record { display = display; number = number }

pub places_on : (g : SessionSettings) (p n : Place) (place number most got idr result : ℕ) → g.idr ≡ idr → (let q : Place = record { display = place; number = number } in p ≡ q) → got ≡ most → result ≡ next_number idr place number → n ≡ place_behind g p got
    → (let q : Place = record { display = place + most; number = result } in n ≡ q)
unfolding place_by
places_on g p n place number most got idr result period at full next is =
    is ∙ ap (λ (q : Place). place_behind g q got) at ∙ ap (λ (k : ℕ). place_by (place + k) (next_number g.idr place number)) full
    ∙ ap (λ (k : ℕ). place_by (place + most) k) (ap (λ (k : ℕ). next_number k place number) period ∙ sym next)

pub is_full : (got most : ℕ) → got ≤ most → most ≤ got → got ≡ most
is_full got most within all = omega (arith, within, all)
