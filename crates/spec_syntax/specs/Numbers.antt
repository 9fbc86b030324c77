-- Binarisations of numbers (ITU-T H.264, clause 9.3.2).
use Rattle.std.specs.Prelude.{ℕ, zero, suc, ◌+◌, ◌-◌, ◌^◌, ◌/◌, ◌%◌, ◌==◌, Bool, true, false, List, [], ◌∷◌, nat_lt}
use Rattle.spec_syntax.specs.declared.Bin.{Bin}
use Rattle.spec_syntax.specs.Syntax.{Syntax, done, nothing, ◌>>=◌, bin, at}

-- ---- as bits

-- unary: as many ones, closed by a zero (clause 9.3.2.1)
abbrev pub unary : ℕ → List Bool
unary zero = false ∷ []
unary (suc v) = true ∷ unary v

-- truncated unary: the zero is left out at the greatest value (clause 9.3.2.2)
abbrev pub truncated : ℕ → ℕ → List Bool
truncated zero v = []
truncated (suc n) zero = false ∷ []
truncated (suc n) (suc v) = true ∷ truncated n v

-- of a fixed length, the low bit first (clause 9.3.2.4)
abbrev pub low_first : ℕ → ℕ → List Bool
low_first zero v = []
low_first (suc n) v = (v % 2 == 1) ∷ low_first n (v / 2)

-- bits as they are written in a table: so many decimal digits, each 0 or 1, as text 3 011 for 011
abbrev pub text : ℕ → ℕ → List Bool
text zero v = []
text (suc n) v = (v / 10 ^ n % 10 == 1) ∷ text n v

-- ---- as bins, with their readers

-- truncated unary, each bin of one context
unfoldable pub ones : ℕ → ℕ → Syntax ℕ
ones c zero = done 0
ones c (suc n) = do
  b ← bin c
  elim b [ false ↦ done 0 | true ↦ ones c n >>= λ k. done (suc k) ]

unfoldable pub ones_string : ℕ → ℕ → ℕ → List Bin
ones_string c zero v = []
ones_string c (suc n) zero = at c false ∷ []
ones_string c (suc n) (suc v) = at c true ∷ ones_string c n v

-- so many bits by bypass, the high one first
unfoldable pub number : ℕ → Syntax ℕ
number zero = done 0
number (suc n) = do
  b ← bin 1000
  v ← number n
  done (elim b [ true ↦ 2 ^ n + v | false ↦ v ])

unfoldable pub number_string : ℕ → ℕ → List Bin
number_string zero v = []
number_string (suc n) v = elim (nat_lt v (2 ^ n)) [ true ↦ at 1000 false ∷ number_string n v | false ↦ at 1000 true ∷ number_string n (v - 2 ^ n) ]

-- Exp-Golomb of order k by bypass, with fewer than n ones (the suffix of clause 9.3.2.3)
unfoldable pub golomb : ℕ → ℕ → Syntax ℕ
golomb zero k = nothing
golomb (suc n) k = do
  b ← bin 1000
  elim b [ false ↦ number k | true ↦ golomb n (suc k) >>= λ v. done (2 ^ k + v) ]

unfoldable pub golomb_string : ℕ → ℕ → ℕ → List Bin
golomb_string zero k v = []
golomb_string (suc n) k v = elim (nat_lt v (2 ^ k)) [ true ↦ at 1000 false ∷ number_string k v | false ↦ at 1000 true ∷ golomb_string n (suc k) (v - 2 ^ k) ]

-- truncated unary, the context of each bin by its number
unfoldable pub prefix : (ℕ → ℕ) → ℕ → ℕ → Syntax ℕ
prefix ctx i zero = done 0
prefix ctx i (suc n) = do
  b ← bin (ctx i)
  elim b [ false ↦ done 0 | true ↦ prefix ctx (suc i) n >>= λ k. done (suc k) ]

unfoldable pub prefix_string : (ℕ → ℕ) → ℕ → ℕ → ℕ → List Bin
prefix_string ctx i zero v = []
prefix_string ctx i (suc n) zero = at (ctx i) false ∷ []
prefix_string ctx i (suc n) (suc v) = at (ctx i) true ∷ prefix_string ctx (suc i) n v
