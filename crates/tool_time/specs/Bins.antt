-- How recorded bins are written, one a line.
use Rattle.std.specs.Prelude.{ℕ, ◌≡◌, ◌+◌, ◌/◌, ◌%◌, ◌≤◌, Bool, cond, List, [], ◌∷◌}
use Rattle.tool_time.specs.declared.bins.Line.{Line}
use Rattle.tool_time.specs.declared.bins.Line.TheVariants.{Context, Bypass, GoesOn}

-- a bit's digit
abbrev pub flag : Bool → ℕ
flag bit = cond bit 49 48

-- a line's bytes: `c`, the context's number in three digits and the bit; `b` and the bit; `t 0`
abbrev pub written : Line → List ℕ
written (Context index bit) = 99 ∷ 32 ∷ (48 + index / 100) ∷ (48 + index / 10 % 10) ∷ (48 + index % 10) ∷ 32 ∷ flag bit ∷ []
written (Bypass bit) = 98 ∷ 32 ∷ flag bit ∷ []
written GoesOn = 116 ∷ 32 ∷ 48 ∷ []

-- frames use the contexts below 436
abbrev pub IsKnown : Line → Type 0
IsKnown (Context index bit) = index ≤ 435
IsKnown (Bypass bit) = Unit
IsKnown GoesOn = Unit

-- no bin is written so
abbrev pub WritesNone : List ℕ → Type 0
WritesNone text = (line : Line) → IsKnown line → text ≡ written line → ⊥
