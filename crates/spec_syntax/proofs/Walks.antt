use Rattle.std.proofs.Common.{◌≡◌, ℕ, Bool, List, [], ◌∷◌, ◌++◌, Some, refl, sym, ap, subst, ◌∙◌}
use Rattle.std.proofs.lemmas.List.{append-nil}
use Rattle.spec_syntax.specs.declared.Bin.{Bin}
use Rattle.spec_syntax.specs.Syntax.{Syntax, done, nothing, ask, take, ◌>>=◌, flag, flag_string, Walks, Reads, reading, contexts, bits, ReadsAhead, StandsAlone}

pub walks_then : {A B : Type 0} (s : Syntax A) (f : A → Syntax B) (xs ys : List Bin) (a : A) (b : B) → Walks s xs a → Walks (f a) ys b → Walks (s >>= f) (xs ++ ys) b
walks_then (done a') f [] ys a b h k = subst (λ (x : _). Walks (f x) ys b) (sym h) k
walks_then (done a') f (x ∷ xs) ys a b h k = absurd h
walks_then nothing f xs ys a b h k = absurd h
walks_then (take next) f xs ys a b h k = absurd h
walks_then (ask c next) f [] ys a b h k = absurd h
walks_then (ask c next) f (x ∷ xs) ys a b h k = (h.0, walks_then (next x.bit) f xs ys a b h.1 k)

-- the second reader asks for nothing
pub walks_last : {A B : Type 0} (s : Syntax A) (f : A → Syntax B) (xs : List Bin) (a : A) (b : B) → Walks s xs a → Walks (f a) [] b → Walks (s >>= f) xs b
walks_last s f xs a b h k = subst (λ (ys : List Bin). Walks (s >>= f) ys b) (append-nil xs) (walks_then s f xs [] a b h k)

-- one reader after another reads one string after another
pub reads_then : {A B : Type 0} {s : Syntax A} (f : A → Syntax B) {xs ys : List Bin} {a : A} {b : B} → Reads s xs a → Reads (f a) ys b → Reads (s >>= f) (xs ++ ys) b
reads_then {s = s} f {xs} {ys} {a} {b} h k = record { walk = walks_then s f xs ys a b h.walk k.walk }

-- what is read goes through a function
pub walks_map : {A B : Type 0} (s : Syntax A) (g : A → B) (xs : List Bin) (a : A) → Walks s xs a → Walks (s >>= λ x. done (g x)) xs (g a)
walks_map (done a') g [] a h = ap g h
walks_map (done a') g (x ∷ xs) a h = absurd h
walks_map nothing g xs a h = absurd h
walks_map (take next) g xs a h = absurd h
walks_map (ask c next) g [] a h = absurd h
walks_map (ask c next) g (x ∷ xs) a h = (h.0, walks_map (next x.bit) g xs a h.1)

pub walks_map_to : {A B : Type 0} (s : Syntax A) (g : A → B) (xs : List Bin) (a : A) (b : B) → Walks s xs a → g a ≡ b → Walks (s >>= λ x. done (g x)) xs b
walks_map_to s g xs a b h e = subst (λ (y : _). Walks (s >>= λ x. done (g x)) xs y) e (walks_map s g xs a h)

pub reads_flag : (c : ℕ) (b : Bool) → Reads (flag c) (flag_string c b) b
unfolding flag flag_string
reads_flag c b = record { walk = (refl, refl) }

pub reads_done : {A : Type 0} (v : A) → Reads (done v) [] v
reads_done v = record { walk = refl }

-- a string has at most one value
pub walks_one : {A : Type 0} (s : Syntax A) (xs : List Bin) (a b : A) → Walks s xs a → Walks s xs b → a ≡ b
walks_one (done c) [] a b h k = sym h ∙ k
walks_one (done c) (x ∷ xs) a b h k = absurd h
walks_one nothing xs a b h k = absurd h
walks_one (take next) xs a b h k = absurd h
walks_one (ask c next) [] a b h k = absurd h
walks_one (ask c next) (x ∷ xs) a b h k = walks_one (next x.bit) xs a b h.1 k.1

pub reads_one : {A : Type 0} (s : Syntax A) (xs : List Bin) (a b : A) → Reads s xs a → Reads s xs b → a ≡ b
reads_one s xs a b h k = walks_one s xs a b h.walk k.walk

-- no string that is read begins another one that the same reader reads
pub walks_prefix : {A : Type 0} (s : Syntax A) (xs ys : List Bin) (a b : A) → Walks s xs a → Walks s (xs ++ ys) b → ys ≡ []
walks_prefix (done c) [] [] a b h k = refl
walks_prefix (done c) [] (y ∷ ys) a b h k = absurd k
walks_prefix (done c) (x ∷ xs) ys a b h k = absurd h
walks_prefix nothing xs ys a b h k = absurd h
walks_prefix (take next) xs ys a b h k = absurd h
walks_prefix (ask c next) [] ys a b h k = absurd h
walks_prefix (ask c next) (x ∷ xs) ys a b h k = walks_prefix (next x.bit) xs ys a b h.1 k.1

pub stands_alone : {A : Type 0} (s : Syntax A) → StandsAlone s
stands_alone s = λ xs ys a b h k. walks_prefix s xs ys a b h.walk k.walk

-- whatever follows, the reader takes these bins and leaves the rest
pub walks_ahead : {A : Type 0} (s : Syntax A) (xs : List Bin) (a : A) → Walks s xs a → (rest : List Bool) → reading s (bits xs ++ rest) ≡ Some (record { value = a; asked = contexts xs; left = rest })
walks_ahead (done c) [] a h = λ rest. rw h refl
walks_ahead (done c) (x ∷ xs) a h = absurd h
walks_ahead nothing xs a h = absurd h
walks_ahead (take next) xs a h = absurd h
walks_ahead (ask c next) [] a h = absurd h
walks_ahead (ask c next) (x ∷ xs) a h = λ rest. rw (walks_ahead (next x.bit) xs a h.1 rest, ← h.0) refl

pub reads_ahead : {A : Type 0} (s : Syntax A) (xs : List Bin) (a : A) → Reads s xs a → ReadsAhead s xs a
reads_ahead s xs a h = walks_ahead s xs a h.walk
