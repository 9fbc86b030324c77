-- Items one after another, and parts that may be absent.
use Rattle.std.specs.Prelude.{ℕ, zero, suc, Bool, true, false, List, [], ◌∷◌, ◌++◌}
use Rattle.spec_syntax.specs.declared.Bin.{Bin}
use Rattle.spec_syntax.specs.Syntax.{Syntax, done, ◌>>=◌, Reads}

-- so many items, each read with those before it in view
unfoldable pub sequence : {A : Type 0} → (List A → Syntax A) → ℕ → List A → Syntax (List A)
sequence item zero before = done before
sequence item (suc n) before = item before >>= λ a. sequence item n (before ++ a ∷ [])

unfoldable pub sequence_string : {A : Type 0} → (List A → A → List Bin) → List A → List A → List Bin
sequence_string string before [] = []
sequence_string string before (a ∷ rest) = string before a ++ sequence_string string (before ++ a ∷ []) rest

abbrev pub ReadsEach : {A : Type 0} → (List A → Syntax A) → (List A → A → List Bin) → List A → List A → Type 0
ReadsEach item string before [] = Unit {0}
ReadsEach item string before (a ∷ rest) = Reads (item before) (string before a) a × ReadsEach item string (before ++ a ∷ []) rest

-- the part is read where it is present, and else it is what stands for it
abbrev pub where_present : {A : Type 0} → Bool → A → Syntax A → Syntax A
where_present true absent s = s
where_present false absent s = done absent

abbrev pub string_where : Bool → List Bin → List Bin
string_where true bins = bins
string_where false bins = []
