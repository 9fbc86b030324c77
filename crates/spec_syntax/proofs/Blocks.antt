use Rattle.std.proofs.Common.{◌≡◌, ℕ, zero, suc, ◌<◌, Bool, true, false, List, [], ◌∷◌, ◌++◌, refl, sym, ap, subst, ◌∙◌, arith, length, replicate, map}
use Rattle.std.specs.Prelude.{ℤ, pos, negsuc}
use Rattle.std.specs.List.{AllByRecursion}
use Rattle.std.proofs.lemmas.List.{length-map, append-nil}
use Rattle.std.proofs.Common.{append_assoc}
use Rattle.spec_syntax.specs.declared.Bin.{Bin}
use Rattle.spec_syntax.specs.Syntax.{Syntax, done, ◌>>=◌, bin, at, Walks, Reads}
use Rattle.spec_syntax.specs.Levels.{significant_at, last_at, coded_at, first_at, others_at, minus1, minus1_string}
use Rattle.spec_syntax.specs.Blocks.{significance, significance_string, none, nonzero, levels, level_string, levels_string, block, block_string, some_levels, some_levels_string, signed, IsLevel, above_one, equal_one}
use Rattle.spec_syntax.specs.Sequences.{sequence, sequence_string, ReadsEach, where_present, string_where}
use Rattle.spec_syntax.proofs.Walks.{walks_then, walks_map, reads_then, reads_done}
use Rattle.spec_syntax.proofs.Levels.{walks_minus1}

none_all : (fs : List Bool) (n : ℕ) → length fs ≡ n → none fs ≡ true → replicate n false ≡ fs
unfolding none
none_all [] zero l h = refl
none_all [] (suc n) l h = absurd cc
none_all (f ∷ fs) zero l h = absurd cc
none_all (true ∷ fs) (suc n) l h = absurd cc
none_all (false ∷ fs) (suc n) l h = ap (λ (xs : List Bool). false ∷ xs) (none_all fs n (cc) h)

pub walks_significance : (c i n : ℕ) (fs : List Bool) → length fs ≡ suc n → none fs ≡ false → Walks (significance c i n) (significance_string c i n fs) fs
unfolding significance significance_string none
walks_significance c i zero [] l h = absurd cc
walks_significance c i zero (false ∷ []) l h = absurd cc
walks_significance c i zero (true ∷ []) l h = refl
walks_significance c i zero (f ∷ g ∷ fs) l h = absurd cc
walks_significance c i (suc n) [] l h = absurd cc
walks_significance c i (suc n) (false ∷ fs) l h = (refl, walks_map (significance c (suc i) n) (λ rest. false ∷ rest) (significance_string c (suc i) n fs) fs (walks_significance c (suc i) n fs (cc) h))
walks_significance c i (suc n) (true ∷ fs) l h = go (none fs) refl (λ k. walks_significance c (suc i) n fs (cc) k)
  where
    go : (b : Bool) → none fs ≡ b → (none fs ≡ false → Walks (significance c (suc i) n) (significance_string c (suc i) n fs) fs)
        → Walks (significance c i (suc n)) (at (significant_at c i) true ∷ at (last_at c i) b ∷ elim b [ true ↦ [] | false ↦ significance_string c (suc i) n fs ]) (true ∷ fs)
    go true e ih = (refl, (refl, ap (λ (xs : List Bool). true ∷ xs) (none_all fs (suc n) (cc) e)))
    go false e ih = (refl, (refl, walks_map (significance c (suc i) n) (λ rest. true ∷ rest) (significance_string c (suc i) n fs) fs (ih e)))

-- a level that isn't 0, after its size
walks_signed : (c : ℕ) (higher : List ℤ) (s : Bool) (m : ℕ) → m < 8191
    → Walks (minus1 (first_at c (above_one higher) (equal_one higher)) (others_at c (above_one higher)) >>= λ m. bin 1000 >>= λ sign. done (signed sign m ∷ higher))
    (minus1_string (first_at c (above_one higher) (equal_one higher)) (others_at c (above_one higher)) m ++ at 1000 s ∷ []) (signed s m ∷ higher)
walks_signed c higher s m h =
    let first = first_at c (above_one higher) (equal_one higher) in
    let others = others_at c (above_one higher) in
    walks_then (minus1 first others) (λ m. bin 1000 >>= λ sign. done (signed sign m ∷ higher)) (minus1_string first others m) (at 1000 s ∷ []) m (signed s m ∷ higher) (walks_minus1 first others m h) (refl, refl)

walks_nonzero : (c : ℕ) (ls : List ℤ) (s : Bool) (m : ℕ) → m < 8191 → Walks (levels c (map nonzero ls)) (levels_string c ls) ls
    → Walks (levels c (map nonzero ls) >>= λ higher. minus1 (first_at c (above_one higher) (equal_one higher)) (others_at c (above_one higher)) >>= λ m. bin 1000 >>= λ sign. done (signed sign m ∷ higher))
    (levels_string c ls ++ (minus1_string (first_at c (above_one ls) (equal_one ls)) (others_at c (above_one ls)) m ++ at 1000 s ∷ [])) (signed s m ∷ ls)
walks_nonzero c ls s m h k =
    walks_then (levels c (map nonzero ls)) (λ higher. minus1 (first_at c (above_one higher) (equal_one higher)) (others_at c (above_one higher)) >>= λ m. bin 1000 >>= λ sign. done (signed sign m ∷ higher))
    (levels_string c ls) (minus1_string (first_at c (above_one ls) (equal_one ls)) (others_at c (above_one ls)) m ++ at 1000 s ∷ []) ls (signed s m ∷ ls) k (walks_signed c ls s m h)

pub walks_levels : (c : ℕ) (ls : List ℤ) → AllByRecursion IsLevel ls → Walks (levels c (map nonzero ls)) (levels_string c ls) ls
unfolding levels levels_string level_string
walks_levels c [] h = refl
walks_levels c (pos zero ∷ ls) h = walks_then (levels c (map nonzero ls)) (λ higher. done (pos 0 ∷ higher)) (levels_string c ls) [] ls (pos 0 ∷ ls) (walks_levels c ls h.1) refl
walks_levels c (pos (suc m) ∷ ls) h = walks_nonzero c ls false m (omega (arith, h.0)) (walks_levels c ls h.1)
walks_levels c (negsuc m ∷ ls) h = walks_nonzero c ls true m (omega (arith, h.0)) (walks_levels c ls h.1)

none_zeros : (ls : List ℤ) (n : ℕ) → length ls ≡ n → none (map nonzero ls) ≡ true → replicate n (pos 0) ≡ ls
unfolding none
none_zeros [] zero l h = refl
none_zeros [] (suc n) l h = absurd cc
none_zeros (f ∷ fs) zero l h = absurd cc
none_zeros (pos zero ∷ ls) (suc n) l h = ap (λ (xs : List ℤ). pos 0 ∷ xs) (none_zeros ls n (cc) h)
none_zeros (pos (suc m) ∷ ls) (suc n) l h = absurd cc
none_zeros (negsuc m ∷ ls) (suc n) l h = absurd cc

-- a block's levels are read back from its string
pub walks_block : (c inc n : ℕ) (ls : List ℤ) → length ls ≡ suc n → AllByRecursion IsLevel ls → Walks (block c inc n) (block_string c inc n ls) ls
unfolding block block_string
walks_block c inc n ls l h = go (none (map nonzero ls)) refl
  where
    go : (b : Bool) → none (map nonzero ls) ≡ b → Walks (block c inc n) (elim b [
      | true ↦ at (coded_at c inc) false ∷ []
      | false ↦ at (coded_at c inc) true ∷ (significance_string c 0 n (map nonzero ls) ++ levels_string c ls)
    ]) ls
    go true e = (refl, none_zeros ls (suc n) l e)
    go false e = (
      refl,
      walks_then (significance c 0 n) (λ flags. levels c flags) (significance_string c 0 n (map nonzero ls)) (levels_string c ls) (map nonzero ls) ls
          (walks_significance c 0 n (map nonzero ls) (length-map ls nonzero ∙ l) e) (walks_levels c ls h),
    )

pub reads_block_of : (c inc n : ℕ) (ls : List ℤ) → length ls ≡ suc n → AllByRecursion IsLevel ls → Reads (block c inc n) (block_string c inc n ls) ls
reads_block_of c inc n ls l h = record { walk = walks_block c inc n ls l h }

walks_some : (c n : ℕ) (ls : List ℤ) → length ls ≡ suc n → none (map nonzero ls) ≡ false → AllByRecursion IsLevel ls → Walks (some_levels c n) (some_levels_string c n ls) ls
unfolding some_levels some_levels_string
walks_some c n ls l e h = walks_then (significance c 0 n) (λ flags. levels c flags) (significance_string c 0 n (map nonzero ls)) (levels_string c ls) (map nonzero ls) ls
    (walks_significance c 0 n (map nonzero ls) (length-map ls nonzero ∙ l) e) (walks_levels c ls h)

pub reads_some : (c n : ℕ) (ls : List ℤ) → length ls ≡ suc n → none (map nonzero ls) ≡ false → AllByRecursion IsLevel ls → Reads (some_levels c n) (some_levels_string c n ls) ls
reads_some c n ls l e h = record { walk = walks_some c n ls l e h }

-- ---- sequences, and parts that may be absent

pub reads_to : {A : Type 0} (s : Syntax A) (xs : List Bin) (a b : A) → Reads s xs a → a ≡ b → Reads s xs b
reads_to s xs a b h e = subst (λ (x : _). Reads s xs x) e h

pub reads_sequence : {A : Type 0} (item : List A → Syntax A) (string : List A → A → List Bin) (n : ℕ) (before rest : List A) → length rest ≡ n
    → ReadsEach item string before rest → Reads (sequence item n before) (sequence_string string before rest) (before ++ rest)
unfolding sequence sequence_string
reads_sequence item string zero before [] l h = reads_to (done before) [] before (before ++ []) (reads_done before) (sym (append-nil before))
reads_sequence item string zero before (a ∷ rest) l h = absurd cc
reads_sequence item string (suc n) before [] l h = absurd cc
reads_sequence item string (suc n) before (a ∷ rest) l h =
    let tail = reads_sequence item string n (before ++ a ∷ []) rest (cc) h.1 in
    reads_then (λ a. sequence item n (before ++ a ∷ [])) h.0 (rw append_assoc at tail)

pub reads_where : {A : Type 0} (b : Bool) (absent : A) (s : Syntax A) (xs : List Bin) (a : A) → (b ≡ true → Reads s xs a) → (b ≡ false → absent ≡ a) → Reads (where_present b absent s) (string_where b xs) a
reads_where true absent s xs a h k = h refl
reads_where false absent s xs a h k = reads_to (done absent) [] absent a (reads_done absent) (k refl)
