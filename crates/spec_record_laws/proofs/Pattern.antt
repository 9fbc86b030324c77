-- The patterns that say where levels are.
use Rattle.std.proofs.Common.{◌≡◌, ◌≤◌, ◌<◌, ◌+◌, ◌*◌, ◌/◌, ◌%◌, ◌⊎◌, ℕ, zero, suc, ℤ, pos, negsuc, Bool, true, false, cond, List, [], ◌∷◌, length, slice_range, refl, sym, ap, ◌∙◌, arith, inl, inr, lit≤}
use Rattle.std.specs.Prelude.{◌==◌}
use Rattle.std.proofs.lemmas.Bool.{cases_lt}
use Rattle.std.proofs.lemmas.List.{get_or_past}
use Rattle.spec_contexts.specs.Increments.{bit_of, some_level}
use Rattle.spec_reconstruction.specs.Records.{bit_if}
use Rattle.spec_macroblock.specs.Records.{level_at}
use Rattle.spec_macroblock.proofs.Slices.{slice_at}

-- the four bits of a pattern
abbrev of_bits : Bool → Bool → Bool → Bool → ℕ
of_bits a b c d = bit_if a 1 + bit_if b 2 + bit_if c 4 + bit_if d 8

bits : (a b c d : Bool) → (bit_of (of_bits a b c d) 0 ≡ a) × (bit_of (of_bits a b c d) 1 ≡ b) × (bit_of (of_bits a b c d) 2 ≡ c) × (bit_of (of_bits a b c d) 3 ≡ d)
bits false false false false = (refl, refl, refl, refl)
bits false false false true = (refl, refl, refl, refl)
bits false false true false = (refl, refl, refl, refl)
bits false false true true = (refl, refl, refl, refl)
bits false true false false = (refl, refl, refl, refl)
bits false true false true = (refl, refl, refl, refl)
bits false true true false = (refl, refl, refl, refl)
bits false true true true = (refl, refl, refl, refl)
bits true false false false = (refl, refl, refl, refl)
bits true false false true = (refl, refl, refl, refl)
bits true false true false = (refl, refl, refl, refl)
bits true false true true = (refl, refl, refl, refl)
bits true true false false = (refl, refl, refl, refl)
bits true true false true = (refl, refl, refl, refl)
bits true true true false = (refl, refl, refl, refl)
bits true true true true = (refl, refl, refl, refl)

pub bits_small : (a b c d : Bool) → of_bits a b c d ≤ 15
bits_small a b c d = let e = small a 1 in let f = small b 2 in let g = small c 4 in let h = small d 8 in omega arith
  where
    small : (b : Bool) (n : ℕ) → bit_if b n ≤ n
    small true n = omega arith
    small false n = omega arith

-- whether 8x8 block k has a level
abbrev pub some_in : List ℤ → ℕ → Bool
some_in levels k = some_level (slice_range levels (64 * k) (64 * k + 64))

abbrev pub pattern_by : List ℤ → ℕ
pattern_by levels = of_bits (some_in levels 0) (some_in levels 1) (some_in levels 2) (some_in levels 3)

pub pattern_bit : (levels : List ℤ) (k : ℕ) → k < 4 → bit_of (pattern_by levels) k ≡ some_in levels k
pattern_bit levels zero h = (bits (some_in levels 0) (some_in levels 1) (some_in levels 2) (some_in levels 3)).0
pattern_bit levels (suc zero) h = (bits (some_in levels 0) (some_in levels 1) (some_in levels 2) (some_in levels 3)).1
pattern_bit levels (suc (suc zero)) h = (bits (some_in levels 0) (some_in levels 1) (some_in levels 2) (some_in levels 3)).2
pattern_bit levels (suc (suc (suc zero))) h = (bits (some_in levels 0) (some_in levels 1) (some_in levels 2) (some_in levels 3)).3
pattern_bit levels (suc (suc (suc (suc k)))) h = absurd (omega arith)

-- where no level isn't 0
pub none_at : (ls : List ℤ) → some_level ls ≡ false → (i : ℕ) → level_at ls i ≡ pos 0
none_at [] h i = refl
none_at (pos zero ∷ ls) h zero = refl
none_at (pos zero ∷ ls) h (suc i) = none_at ls h i
none_at (pos (suc m) ∷ ls) h i = absurd (cc)
none_at (negsuc m ∷ ls) h i = absurd (cc)

pub blank_by_pattern : (levels : List ℤ) → length levels ≡ 256 → (i : ℕ) → bit_of (pattern_by levels) (i / 64) ≡ false → level_at levels i ≡ pos 0
blank_by_pattern levels long i off = by (cases_lt i 256)
  where
    by : (i < 256) ⊎ (256 ≤ i) → level_at levels i ≡ pos 0
    by (inr g) = get_or_past levels i (pos 0) (omega arith)
    by (inl l) =
        let inside : i / 64 < 4 = omega arith in
        let none : some_in levels (i / 64) ≡ false = sym (pattern_bit levels (i / 64) inside) ∙ off in
        let whole : 64 * (i / 64) + i % 64 ≡ i = omega arith in
        ap (λ (j : ℕ). level_at levels j) (sym whole)
        ∙ sym (slice_at levels (64 * (i / 64)) (64 * (i / 64) + 64) 64 (i % 64) (pos 0) refl (omega arith))
        ∙ none_at (slice_range levels (64 * (i / 64)) (64 * (i / 64) + 64)) none (i % 64)

pub some_by_pattern : (levels : List ℤ) (k : ℕ) → k < 4 → bit_of (pattern_by levels) k ≡ true → some_in levels k ≡ true
some_by_pattern levels k h on = sym (pattern_bit levels k h) ∙ on

-- ---- Intra 16x16

pub whole_pattern : (b : Bool) → let p : ℕ = cond b 15 0 in p ≡ cond (p == 0) 0 15
whole_pattern true = refl
whole_pattern false = refl

pub whole_small : (b : Bool) → cond b 15 0 ≤ 15
whole_small true = lit≤ tt
whole_small false = lit≤ tt

all_bits : (k : ℕ) → bit_of 15 k ≡ false → 4 ≤ k
all_bits zero h = absurd (cc)
all_bits (suc zero) h = absurd (cc)
all_bits (suc (suc zero)) h = absurd (cc)
all_bits (suc (suc (suc zero))) h = absurd (cc)
all_bits (suc (suc (suc (suc k)))) h = omega arith

pub whole_blank : (levels : List ℤ) (b : Bool) → some_level levels ≡ b → length levels ≡ 256 → (i : ℕ) → bit_of (cond b 15 0) (i / 64) ≡ false → level_at levels i ≡ pos 0
whole_blank levels true e long i off = let g : 4 ≤ i / 64 = all_bits (i / 64) off in get_or_past levels i (pos 0) (omega arith)
whole_blank levels false e long i off = none_at levels e i

-- ---- chroma

pub chroma_small : (a b : Bool) → cond a 2 (cond b 1 0) ≤ 2
chroma_small true b = lit≤ tt
chroma_small false true = lit≤ tt
chroma_small false false = lit≤ tt

pub dc_blank : (a b : Bool) (dc : List ℤ) → some_level dc ≡ b → (cond a 2 (cond b 1 0) == 0) ≡ true → (i : ℕ) → level_at dc i ≡ pos 0
dc_blank true b dc e h i = absurd (cc)
dc_blank false true dc e h i = absurd (cc)
dc_blank false false dc e h i = none_at dc e i

pub ac_blank : (a b : Bool) (ac : List ℤ) → some_level ac ≡ a → (cond a 2 (cond b 1 0) == 2) ≡ false → (i : ℕ) → level_at ac i ≡ pos 0
ac_blank true b ac e h i = absurd (cc)
ac_blank false b ac e h i = none_at ac e i
