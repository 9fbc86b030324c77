-- How bins are written, one a line, and what each means to the arithmetic code.
use Rattle.std.specs.Prelude.{ℕ, ◌≡◌, ◌+◌, ◌/◌, ◌%◌, ◌≤◌, Bool, cond, List, [], ◌∷◌}
use Rattle.spec_cabac.specs.Bins.{Bin}
use Rattle.spec_cabac.specs.Bins.Bin.{Answered}
use Rattle.spec_cabac.specs.Bins.Request.{Context as ByContext, Bypass as ByHalves, Terminate as WhetherEnds}
use Rattle.tool_compare.specs.declared.bins.Line.{Line}
use Rattle.tool_compare.specs.declared.bins.Line.TheVariants.{Context, Bypass, Terminate}

-- a bit's digit
abbrev pub flag : Bool → ℕ
flag bit = cond bit 49 48

-- a line's bytes: `c`, the state in two digits, the more probable value and the bit; `b` and the bit; `t` and the bit
abbrev pub written : Line → List ℕ
written (Context ctx bit) = 99 ∷ 32 ∷ (48 + ctx.state / 10) ∷ (48 + ctx.state % 10) ∷ 32 ∷ flag ctx.mps ∷ 32 ∷ flag bit ∷ []
written (Bypass bit) = 98 ∷ 32 ∷ flag bit ∷ []
written (Terminate bit) = 116 ∷ 32 ∷ flag bit ∷ []

-- a context has one of 64 states
abbrev pub IsKnown : Line → Type 0
IsKnown (Context ctx bit) = ctx.state ≤ 63
IsKnown (Bypass bit) = Unit
IsKnown (Terminate bit) = Unit

abbrev pub bin_of : Line → Bin
bin_of (Context ctx bit) = Answered (ByContext ctx) bit
bin_of (Bypass bit) = Answered ByHalves bit
bin_of (Terminate bit) = Answered WhetherEnds bit

-- no bin is written so
abbrev pub WritesNone : List ℕ → Type 0
WritesNone text = (line : Line) → IsKnown line → text ≡ written line → ⊥
