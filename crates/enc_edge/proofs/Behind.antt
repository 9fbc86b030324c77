-- A studio behind another one.
use Rattle.std.proofs.Common.{ℕ, List, [], ◌∷◌, ◌≡◌, ap}
use Rattle.std.specs.Borrow.{GName}
use Rattle.enc_edge.specs.Seen.{Seen, Behind}
use Rattle.enc_edge.specs.Filmed.{filmed, behind}

-- where the film's studio shows this, the studio behind it shows what is behind it
pub shows_behind : (left : List ℕ) (lender : GName) (s t : Seen) → filmed left lender s ≡ t → s ≡ behind t
shows_behind left lender s t e = ap behind e

-- the reference of the nearest studio behind
abbrev lender_in : GName → List Behind → GName
lender_in else_this [] = else_this
lender_in else_this (b ∷ more) = b.lender

-- a call that leaves what is aside as it was leaves the studio behind
pub lender_kept : (left film : List ℕ) (now then : GName) (s t : Seen) → (filmed left now s).aside ≡ (filmed film then t).aside → now ≡ then
lender_kept left film now then s t e = ap (lender_in now) e
