-- The bits that may be spent on an access unit, the filler behind it, the delays that go with them, and the quantisation parameters that
-- follow what was spent.
use Rattle.std.specs.Prelude.{ℕ, ◌≡◌, ◌+◌, ◌-◌, ◌*◌, ◌/◌, ◌≤◌, ◌==◌, ◌⊎◌, max, min, nat_lt, List, [], ◌∷◌, map, if◌then◌else◌}
use Rattle.enc_tables.specs.declared.records.SliceKind.{SliceKind}
use Rattle.enc_tables.specs.declared.records.SliceKind.TheVariants.{I, P, B}
use Rattle.spec_buffer.specs.Buffer.{Rate, scale, arrived}

-- so far: units, their bits with filler and start codes, and the base of the quantisation parameters
pub record Ledger : Type 0 where
  pub units : ℕ
  pub bits : ℕ
  pub qp : ℕ

abbrev pub fresh : ℕ → Ledger
fresh qp = record { units = 0; bits = 0; qp = qp }

-- Between two units: no more bits were spent than have come, and what has come and wasn't spent fits into the buffer.
pub record Keeps (t : Rate) (l : Ledger) : Type 0 where
  pub low : scale t * l.bits ≤ arrived t l.units
  pub high : arrived t l.units ≤ scale t * (t.cpb + l.bits)

-- the bits that are there for the next unit, rounded down
unfoldable pub available : Rate → Ledger → ℕ
available t l = (arrived t l.units - scale t * l.bits) / scale t

-- How far the buffer would be over its size when the unit behind this one is removed, where this one has so many bits: counted scale-fold.
abbrev pub excess : Rate → Ledger → ℕ → ℕ
excess t l bits = arrived t (l.units + 1) - scale t * (t.cpb + l.bits + bits)

-- the bytes of the filler unit that ends it: as few as do, but at least 5, which is the shortest one (clauses 7.3.2.7 and B.1)
unfoldable pub filler_bytes : Rate → Ledger → ℕ → ℕ
filler_bytes t l bits =
    if nat_lt 0 (excess t l bits) then max 5 ((excess t l bits + (8 * scale t - 1)) / (8 * scale t)) else 0

-- Whether, behind a unit of so many bits and so many bytes of filler, the buffer isn't over its size when the next unit is removed.
abbrev pub EndsExcess : Rate → Ledger → ℕ → ℕ → Type 0
EndsExcess t l bits filler = arrived t (l.units + 1) ≤ scale t * (t.cpb + l.bits + (bits + 8 * filler))

-- the lengths that filler can have: none at all, or a whole unit's
abbrev pub CanBeFiller : ℕ → Type 0
CanBeFiller filler = (filler ≡ 0) ⊎ (5 ≤ filler)

-- the least of them that does
pub record IsLeastFiller (t : Rate) (l : Ledger) (bits filler : ℕ) : Type 0 where
  pub form : CanBeFiller filler
  pub ends : EndsExcess t l bits filler
  pub least : (other : ℕ) → CanBeFiller other → EndsExcess t l bits other → filler ≤ other

-- The base rises by 1 behind a unit that without filler has more than 5/4 of a picture's share, and falls by 1 below 3/4, from 0 to 51.
unfoldable pub base_after : Rate → ℕ → ℕ → ℕ
base_after t qp bits =
    if nat_lt (5 * (t.rate * t.den)) (4 * (bits * t.num)) then min 51 (qp + 1)
    else if nat_lt (4 * (bits * t.num)) (3 * (t.rate * t.den)) then qp - 1
    else qp

-- behind a unit of so many bits and so many bytes of filler
unfoldable pub spent : Rate → Ledger → ℕ → ℕ → Ledger
spent t l bits filler = record { units = l.units + 1; bits = l.bits + (bits + 8 * filler); qp = base_after t l.qp bits }

-- units with their bits and bytes of filler, each within what is there, with the filler that is asked for
abbrev pub Spends : Rate → Ledger → List (ℕ × ℕ) → Type 0
Spends t l [] = Unit {0}
Spends t l (u ∷ us) = (u.0 ≤ available t l) × (u.1 ≡ filler_bytes t l u.0) × Spends t (spent t l u.0 u.1) us

-- how many bits each has with its filler
abbrev pub sizes_of : List (ℕ × ℕ) → List ℕ
sizes_of units = map (λ u. u.0 + 8 * u.1) units

-- the quantisation parameter that is tried first, by the kind of a picture: 2 below the base, the base, or 2 above, from 0 to 51
abbrev pub start_qp : SliceKind → ℕ → ℕ
start_qp I base = min 51 (base - 2)
start_qp P base = min 51 base
start_qp B base = min 51 (base + 2)

-- initial_cpb_removal_delay (clause D.2.2): how long the bits that are there take to come, in 90000ths of a second, rounded down; from 1 to
-- 2 ^ 32 - 1. At the first unit it is the one that is set.
unfoldable pub initial_delay : Rate → Ledger → ℕ
initial_delay t l =
    if l.units == 0 then t.delay else max 1 (min 4294967295 ((arrived t l.units - scale t * l.bits) / (t.num * t.rate)))

-- the delay that is set where none is asked for: half of the buffer fills in it
abbrev pub half_full : ℕ → ℕ → ℕ
half_full rate cpb = min 4294967295 (90000 * cpb / (2 * rate))
