-- The arithmetic decoder (ITU-T H.264, clause 9.3.3.2). It gives nothing where the bits run out, and nothing after the end.
use Rattle.std.specs.Prelude.{ℕ, zero, suc, ◌+◌, ◌-◌, ◌*◌, Bool, true, false, not, cond, nat_lt, option_map, option_and_then, List, [], ◌∷◌, Option, Some, None}
use Rattle.enc_tables.specs.Arithmetic.{lps_range}
use Rattle.spec_bits.specs.Bits.{digit}
use Rattle.spec_cabac.specs.Bins.{Request}
use Rattle.spec_cabac.specs.Bins.Request.{Context, Bypass, Terminate}

-- the offset, the range, how many bits were taken, those that are left, and whether the code has ended
pub record Reader : Type 0 where
  pub offset : ℕ
  pub range : ℕ
  pub read : ℕ
  pub left : List Bool
  pub ended : Bool

abbrev pub reader : ℕ → ℕ → ℕ → List Bool → Reader
reader offset range read left = record { offset = offset; range = range; read = read; left = left; ended = false }

-- the offset takes a bit
abbrev pub next_of : ℕ → ℕ → ℕ → List Bool → Option Reader
next_of offset range read [] = None
next_of offset range read (b ∷ bs) = Some (reader (2 * offset + digit b) range (suc read) bs)

-- while the range is below 256 it doubles and the offset takes a bit, at most as often as the number (clause 9.3.3.2.2)
unfoldable pub refill : ℕ → Reader → Option Reader
refill zero r = Some r
refill (suc n) r = cond (nat_lt r.range 256) (option_and_then (refill n) (next_of r.offset (2 * r.range) r.read r.left)) (Some r)

pub record Answer : Type 0 where
  pub bit : Bool
  pub after : Reader

abbrev pub answered : Bool → Option Reader → Option Answer
answered b = option_map (λ r. record { bit = b; after = r })

abbrev pub lower : ℕ → Reader → Reader
lower cut r = reader r.offset cut r.read r.left

abbrev pub upper : ℕ → ℕ → Reader → Reader
upper cut size r = reader (r.offset - cut) size r.read r.left

abbrev pub at_end : ℕ → Reader → Reader
at_end cut r = record { offset = r.offset - cut; range = 2; read = r.read; left = r.left; ended = true }

abbrev pub bypassed : Reader → Option Answer
bypassed r = cond (nat_lt r.offset r.range) (answered false (Some r)) (answered true (Some (upper r.range r.range r)))

-- clauses 9.3.3.2.1 (a context), 9.3.3.2.3 (bypass) and 9.3.3.2.4 (before termination)
unfoldable pub decide : Request → Reader → Option Answer
decide (Context c) r =
    let size = lps_range c.state r.range in
    let cut = r.range - size in
    cond (nat_lt r.offset cut) (answered c.mps (refill 7 (lower cut r))) (answered (not c.mps) (refill 7 (upper cut size r)))
decide Bypass r = option_and_then bypassed (next_of r.offset r.range r.read r.left)
decide Terminate r =
    let cut = r.range - 2 in
    cond (nat_lt r.offset cut) (answered false (refill 7 (lower cut r))) (answered true (Some (at_end cut r)))

abbrev pub answer : Request → Reader → Option Answer
answer q r = cond r.ended None (decide q r)

-- the offset takes that many bits
unfoldable pub take_bits : ℕ → Reader → Option Reader
take_bits zero r = Some r
take_bits (suc n) r = option_and_then (take_bits n) (next_of r.offset r.range r.read r.left)

-- at the start the offset is the first 9 bits (clause 9.3.1.2)
abbrev pub started : List Bool → Option Reader
started bits = take_bits 9 (reader 0 510 0 bits)

-- the answers to requests, one after another, and how many bits were taken
pub record Decoded : Type 0 where
  pub answers : List Bool
  pub read : ℕ

abbrev pub answers_from : List Request → Reader → Option Decoded
answers_from [] r = Some (record { answers = []; read = r.read })
answers_from (q ∷ qs) r =
    option_and_then (λ a. option_map (λ d. record { answers = a.bit ∷ d.answers; read = d.read }) (answers_from qs a.after)) (answer q r)

abbrev pub arith_decode : List Bool → List Request → Option Decoded
arith_decode bits qs = option_and_then (answers_from qs) (started bits)
