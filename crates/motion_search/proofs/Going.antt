-- A search that goes on by one place.
use Rattle.std.proofs.Common.{◌≡◌, ℕ, suc, ◌+◌, ◌<◌, ◌≤◌, ap, ◌∙◌, subst, arith, add-one}
use Rattle.std.specs.Prelude.{ℤ}
use Rattle.spec_search.specs.declared.blocks.Spot.{Spot}
use Rattle.spec_search.specs.Scan.{spot_at, dx_of, dy_of, window_size}
use Rattle.spec_search.specs.Least.{Searched}
use Rattle.spec_search.specs.Window.{scanned, IsWindowBest}
use Rattle.spec_search.proofs.Places.{passed_over, compared_kept, compared_moved, started}
use Rattle.spec_search.proofs.Ranks.{within}
use Rattle.spec_search.proofs.WindowLaws.{window_best}
use Rattle.motion_search.specs.declared.candidates.Found.{Found}
use Rattle.motion_search.specs.Planes.{IsNear}
use Rattle.motion_search.specs.Reached.{Reached}

pub standing : (f : ℤ → ℤ → ℕ) (s : Spot) (n : ℕ) → s ≡ spot_at n → f (dx_of s) (dy_of s) ≡ scanned f n
standing f s n e = ap (λ (t : Spot). f (dx_of t) (dy_of t)) e

pub passed : (f g : ℤ → ℤ → ℕ) (n limit : ℕ) (s : Spot) (b : Found) → 0 < n → s ≡ spot_at n → Reached f g n b → limit ≡ g (dx_of s) (dy_of s) → g (dx_of s) (dy_of s) ≤ f (dx_of s) (dy_of s) → b.sad ≤ limit → Reached f g (n + 1) b
passed f g n limit s b later e h le under over =
    let x = standing f s n e in
    let y = standing g s n e in
    record {
      place = h.place;
      stands = h.stands;
      known = rw add-one (passed_over (scanned f) (scanned g) n h.place b.sad b.compared later h.known (omega arith) (omega arith));
    }

pub moved_on : (f g : ℤ → ℤ → ℕ) (n limit : ℕ) (s : Spot) (b c : Found) → 0 < n → s ≡ spot_at n → Reached f g n b → limit ≡ g (dx_of s) (dy_of s) → limit < b.sad → c.sad ≡ f (dx_of s) (dy_of s) → c.sad < b.sad → c.spot ≡ s → c.compared ≡ b.compared + 1
    → Reached f g (n + 1) c
moved_on f g n limit s b c later e h le low fe less ce ke =
    let x = standing f s n e in
    let y = standing g s n e in
    let k = compared_moved (scanned f) (scanned g) n h.place b.sad b.compared later h.known (omega arith) (omega arith) in
    let z : scanned f n ≡ c.sad = omega arith in
    let k2 = subst (λ (m : ℕ). Searched (scanned f) (scanned g) (suc n) n m (b.compared + 1)) z k in
    record { place = n; stands = ce ∙ e; known = rw (add-one, ke) k2 }

pub kept : (f g : ℤ → ℤ → ℕ) (n limit size : ℕ) (s : Spot) (b c : Found) → 0 < n → s ≡ spot_at n → Reached f g n b → limit ≡ g (dx_of s) (dy_of s) → limit < b.sad → size ≡ f (dx_of s) (dy_of s) → b.sad ≤ size → c.spot ≡ b.spot → c.sad ≡ b.sad → c.compared ≡ b.compared + 1
    → Reached f g (n + 1) c
kept f g n limit size s b c later e h le low fe more ce se ke =
    let x = standing f s n e in
    let y = standing g s n e in
    let k = compared_kept (scanned f) (scanned g) n h.place b.sad b.compared later h.known (omega arith) (omega arith) in
    record { place = h.place; stands = ce ∙ h.stands; known = rw (add-one, se, ke) k }

pub begun_at : (f g : ℤ → ℤ → ℕ) (s : Spot) (b : Found) → s ≡ spot_at 0 → b.spot ≡ s → b.sad ≡ f (dx_of s) (dy_of s) → b.compared ≡ 1 → Reached f g 1 b
begun_at f g s b e be fe ke =
    let x = fe ∙ standing f s 0 e in
    record { place = 0; stands = be ∙ e; known = rw (x, ke) (started (scanned f) (scanned g)) }

pub near_of : (n range : ℕ) (s : Spot) → range ≤ 32 → n < window_size range → s ≡ spot_at n → IsNear s
near_of n range s p q e =
    let w = within n range s q e in
    let r = w.ring in
    record { ring = omega arith; column = w.on_ring.across; row = w.on_ring.down }

pub near_found : (f g : ℤ → ℤ → ℕ) (range n : ℕ) (b : Found) → range ≤ 32 → n ≤ window_size range → Reached f g n b → IsNear b.spot
near_found f g range n b p q h = let i = h.known.first_least.inside in near_of h.place range b.spot p (omega arith) h.stands

pub ended : (f g : ℤ → ℤ → ℕ) (range n : ℕ) (b : Found) (dx dy : ℤ) (size : ℕ) → n ≡ window_size range → Reached f g n b → dx ≡ dx_of b.spot → dy ≡ dy_of b.spot → size ≡ b.sad → IsWindowBest f range dx dy size
ended f g range n b dx dy size e h x y z =
    let k = subst (λ (m : ℕ). Searched (scanned f) (scanned g) m h.place b.sad b.compared) e h.known in
    let w = window_best f range h.place size k.first_least (z ∙ k.is_cost) in
    let u = x ∙ ap dx_of h.stands in
    let v = y ∙ ap dy_of h.stands in
    rw (u, v) w

pub some_window : (range : ℕ) → 1 ≤ window_size range
some_window range = omega arith
