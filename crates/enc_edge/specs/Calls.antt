-- What the calls of a studio do to what it shows.
use Rattle.std.specs.Prelude.{ℕ, ◌+◌, ◌-◌, ◌^◌, ◌≤◌, min, ◌≡◌, List, ◌++◌, drop}
use Rattle.std.specs.Option.{option_map}
use Rattle.enc_edge.specs.declared.studio.Place.{Place}
use Rattle.enc_edge.specs.Seen.{Seen, Stand, Unopened, Open, Closed, spot_at, with_spot}

-- a count rose, or stands at its end
abbrev pub Rose : ℕ → ℕ → Type 0
Rose before now = min (before + 1) (2 ^ 64 - 1) ≤ now

-- opening the place failed: its count of opening faults rose, and nothing else changed
pub record OpeningFailed (place : Place) (old new : Seen) : Type 0 where
  pub rose : Rose (spot_at place old).opening (spot_at place new).opening
  pub never_falls : (spot_at place old).opening ≤ (spot_at place new).opening
  pub ends : (spot_at place new).opening ≤ 2 ^ 64 - 1
  pub else_same : new ≡ with_spot place (record (spot_at place old) { opening = (spot_at place new).opening }) old

-- a later call on the place failed: its count of later faults rose, and nothing else changed
pub record LaterFailed (place : Place) (old new : Seen) : Type 0 where
  pub rose : Rose (spot_at place old).later (spot_at place new).later
  pub never_falls : (spot_at place old).later ≤ (spot_at place new).later
  pub ends : (spot_at place new).later ≤ 2 ^ 64 - 1
  pub else_same : new ≡ with_spot place (record (spot_at place old) { later = (spot_at place new).later }) old

-- the place stands open under the name
abbrev pub opened : Place → List ℕ → Seen → Seen
opened place name s = with_spot place (record (spot_at place s) { standing = option_map (λ _. Open name) (spot_at place s).standing }) s

-- a standing after closing: an open place is closed under its name, another stays as it is
abbrev pub shut_standing : Stand → Stand
shut_standing Unopened = Unopened
shut_standing (Open name) = Closed name
shut_standing (Closed name) = Closed name

-- the place was closed
abbrev pub shut : Place → Seen → Seen
shut place s = with_spot place (record (spot_at place s) { standing = option_map shut_standing (spot_at place s).standing }) s

-- the bytes stand at the end of what was written there
abbrev pub wrote : Place → List ℕ → Seen → Seen
wrote place bytes s = with_spot place (record (spot_at place s) { bytes = option_map (λ xs. xs ++ bytes) (spot_at place s).bytes }) s

-- n bytes were taken from the front of those left there
abbrev pub took : Place → ℕ → Seen → Seen
took place n s = with_spot place (record (spot_at place s) { bytes = option_map (drop n) (spot_at place s).bytes }) s
