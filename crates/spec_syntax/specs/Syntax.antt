-- Readers of bins: a reader asks for one bin after another, and each answer says how it goes on (ITU-T H.264, clause 9.3).
use Rattle.std.specs.Prelude.{◌≡◌, ℕ, Bool, List, [], ◌∷◌, ◌++◌, Option, Some, None, option_map}
use Rattle.spec_syntax.specs.declared.Bin.{Bin}

-- the value is known; there is none; a bin of this context is asked for, by the numbers of `Bin`: 276 before termination, 1000 by bypass;
-- the samples of an I_PCM macroblock are
pub data Syntax (A : Type 0) : Type 0 where
  done : A → Syntax A
  nothing : Syntax A
  ask : ℕ → (Bool → Syntax A) → Syntax A
  take : (List ℕ → Syntax A) → Syntax A

-- one after another: the second is chosen by what the first has read
infixl 10 ◌>>=◌
abbrev pub ◌>>=◌ : {A B : Type 0} → Syntax A → (A → Syntax B) → Syntax B
(done a) >>= f = f a
nothing >>= f = nothing
(ask c next) >>= f = ask c (λ b. next b >>= f)
(take next) >>= f = take (λ xs. next xs >>= f)

-- the next bin
abbrev pub bin : ℕ → Syntax Bool
bin c = ask c (λ b. done b)

abbrev pub at : ℕ → Bool → Bin
at c b = record { ctx = c; bit = b }

-- an element of one bin
unfoldable pub flag : ℕ → Syntax Bool
flag c = bin c

unfoldable pub flag_string : ℕ → Bool → List Bin
flag_string c b = at c b ∷ []

-- bins, asked for in turn by their contexts and answered by their values, lead to the value, and none is left
abbrev pub Walks : {A : Type 0} → Syntax A → List Bin → A → Type 0
Walks (done a) [] v = a ≡ v
Walks (done a) (b ∷ bins) v = ⊥
Walks nothing bins v = ⊥
Walks (take next) bins v = ⊥
Walks (ask c next) [] v = ⊥
Walks (ask c next) (b ∷ bins) v = (b.ctx ≡ c) × Walks (next b.bit) bins v

pub record Reads {A : Type 0} (s : Syntax A) (bins : List Bin) (v : A) : Type 0 where
  pub walk : Walks s bins v

-- ---- reading from the values of bins, of which more may follow

-- the value, the contexts that were asked for, and the values that are left
pub record Reading (A : Type 0) : Type 0 where
  pub value : A
  pub asked : List ℕ
  pub left : List Bool

abbrev pub after_asking : {A : Type 0} → ℕ → Reading A → Reading A
after_asking c r = record { value = r.value; asked = c ∷ r.asked; left = r.left }

abbrev pub reading : {A : Type 0} → Syntax A → List Bool → Option (Reading A)
reading (done a) bits = Some (record { value = a; asked = []; left = bits })
reading nothing bits = None
reading (take next) bits = None
reading (ask c next) [] = None
reading (ask c next) (b ∷ bits) = option_map (after_asking c) (reading (next b) bits)

abbrev pub contexts : List Bin → List ℕ
contexts [] = []
contexts (b ∷ bins) = b.ctx ∷ contexts bins

abbrev pub bits : List Bin → List Bool
bits [] = []
bits (b ∷ bins) = b.bit ∷ bits bins

-- whatever follows the bins, the reader asks for exactly their contexts, gives the value, and leaves the rest
abbrev pub ReadsAhead : {A : Type 0} → Syntax A → List Bin → A → Type 0
ReadsAhead s bins v = (rest : List Bool) → reading s (bits bins ++ rest) ≡ Some (record { value = v; asked = contexts bins; left = rest })

-- no string that is read begins another one that the same reader reads
abbrev pub StandsAlone : {A : Type 0} → Syntax A → Type 0
StandsAlone {A} s = (xs ys : List Bin) (a b : A) → Reads s xs a → Reads s (xs ++ ys) b → ys ≡ []
