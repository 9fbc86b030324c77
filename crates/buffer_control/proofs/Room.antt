-- The numbers of a ledger fit their types.
use Rattle.std.proofs.Common.{ℕ, ◌≡◌, ◌+◌, ◌-◌, ◌*◌, ◌/◌, ◌≤◌, sym, subst, arith}
use Rattle.spec_buffer.specs.Buffer.{Rate, scale, arrived, IsRate}
use Rattle.spec_buffer.specs.Ledger.{Ledger, Keeps, available, filler_bytes, base_after, spent}
use Rattle.spec_buffer.proofs.Holds.{step}
use Rattle.spec_buffer.proofs.Least.{available_fits, filler_fits, base_fits}

-- what is there, as it is worked out
pub available_small : (t : Rate) (l : Ledger) → IsRate t → Keeps t l → (arrived t l.units - scale t * l.bits) / scale t ≤ t.cpb
unfolding available
available_small t l is k = available_fits t l is.some k

-- a unit with its filler
pub unit_fits : (t : Rate) (l : Ledger) (bits filler : ℕ) → IsRate t → Keeps t l → bits ≤ available t l → filler ≡ filler_bytes t l bits → bits + 8 * filler ≤ available t l
unit_fits t l bits filler is k small e = subst (λ f. bits + 8 * f ≤ available t l) (sym e) (filler_fits t l bits is k small)

pub unit_small : (t : Rate) (l : Ledger) (bits filler : ℕ) → IsRate t → Keeps t l → bits ≤ available t l → filler ≡ filler_bytes t l bits → bits + 8 * filler ≤ t.cpb
unit_small t l bits filler is k small e = let a = unit_fits t l bits filler is k small e in let b = available_fits t l is.some k in omega (arith, a, b)

-- behind a unit
pub goes_on : (t : Rate) (l : Ledger) (bits filler qp : ℕ) → IsRate t → Keeps t l → bits ≤ available t l → filler ≡ filler_bytes t l bits → qp ≡ base_after t l.qp bits
    → Keeps t (record { units = l.units + 1; bits = l.bits + (bits + 8 * filler); qp = qp })
unfolding spent
goes_on t l bits filler qp is k small e f =
    subst (λ (n : ℕ). Keeps t (record { units = l.units + 1; bits = l.bits + (bits + 8 * filler); qp = n })) (sym f) (step t l bits filler is k small e).1

pub small_base : (t : Rate) (base bits qp : ℕ) → qp ≡ base_after t base bits → base ≤ 51 → qp ≤ 51
small_base t base bits qp e h = subst (λ n. n ≤ 51) (sym e) (base_fits t base bits h)
