-- The bins of a macroblock's elements can be coded: none ends the code, and each context has a state.
use Rattle.std.proofs.Common.{◌≡◌, ℕ, ◌+◌, ◌<◌, ◌≤◌, Bool, true, false, List, [], ◌∷◌, refl, arith, inr, ◌++◌}
use Rattle.std.specs.Prelude.{ℤ}
use Rattle.std.specs.List.{AllByRecursion}
use Rattle.std.proofs.lemmas.Bool.Decides.{nat_tests}
use Rattle.enc_tables.specs.declared.records.MbRecord.{MbRecord}
use Rattle.spec_syntax.specs.Syntax.{at}
use Rattle.spec_syntax.specs.Elements.{IntraType, type_at, type_bits, intra_type_string, mode_rem_string, chroma_mode_at, chroma_mode_string, luma_pattern_string, inc_of, chroma_pattern_at, chroma_pattern_string, delta_at, mapped, qp_delta_string, string}
use Rattle.spec_syntax.specs.Numbers.{low_first, truncated, unary}
use Rattle.spec_syntax.specs.Inter.{suffix_at, PType, p_at, p_bits, p_type_string, BType, b_at, b_bits, b_type_string, type_string}
use Rattle.spec_slice_data.specs.Decoding.{is_terminate}
use Rattle.spec_slice_data.specs.Coding.{GoesOn}
use Rattle.spec_partitions.specs.Near.{Near}
use Rattle.spec_macroblock.specs.Records.{IsRecord}
use Rattle.spec_macroblock.specs.Strings.{inc_type}
use Rattle.spec_macroblock.proofs.GoesOn.{type_inc, goes_type}
use Rattle.spec_partitions.proofs.InterGoesOn.{type_b_inc}
use Rattle.enc_tables.specs.declared.records.SliceKind.{SliceKind}
use Rattle.bin_writer.specs.Coding.{IsCodable}

not_terminate : (c : ℕ) → c < 276 → is_terminate c ≡ false
not_terminate c h = grind (arith, nat_tests)

pub low : (c : ℕ) (b : Bool) → c < 276 → IsCodable (at c b)
low c b h = let e : is_terminate c ≡ false = not_terminate c h in inr (omega arith, rw e refl)

no_end : IsCodable (at 276 false)
no_end = inr (omega arith, refl)

-- bins of contexts below 276
pub low_string : (ctx : List Bool → ℕ) → ((before : List Bool) → ctx before < 276) → (before bits : List Bool) → AllByRecursion IsCodable (string ctx before bits)
low_string ctx h before [] = tt
low_string ctx h before (b ∷ bits) = (low (ctx before) b (h before), low_string ctx h (before ++ b ∷ []) bits)

pub chroma_mode_codable : (inc mode : ℕ) → inc ≤ 2 → AllByRecursion IsCodable (chroma_mode_string inc mode)
unfolding chroma_mode_string
chroma_mode_codable inc mode h = low_string (chroma_mode_at inc) below [] (truncated 3 mode)
  where
    below : (before : List Bool) → chroma_mode_at inc before < 276
    below [] = omega arith
    below (b ∷ before) = omega arith

pub mode_rem_codable : (rem : ℕ) → AllByRecursion IsCodable (mode_rem_string rem)
unfolding mode_rem_string
mode_rem_codable rem = low_string (λ before. 69) (λ before. omega arith) [] (low_first 3 rem)

four_below : (a b c d : ℕ) → a ≤ 3 → b ≤ 3 → c ≤ 3 → d ≤ 3 → (before : List Bool) → 73 + inc_of (a ∷ b ∷ c ∷ d ∷ []) before < 276
four_below a b c d p q r s [] = omega arith
four_below a b c d p q r s (x ∷ []) = omega arith
four_below a b c d p q r s (x ∷ y ∷ []) = omega arith
four_below a b c d p q r s (x ∷ y ∷ z ∷ []) = omega arith
four_below a b c d p q r s (x ∷ y ∷ z ∷ t ∷ before) = omega arith

pub luma_pattern_codable : (a b c d pattern : ℕ) → a ≤ 3 → b ≤ 3 → c ≤ 3 → d ≤ 3 → AllByRecursion IsCodable (luma_pattern_string (inc_of (a ∷ b ∷ c ∷ d ∷ [])) pattern)
unfolding luma_pattern_string
luma_pattern_codable a b c d pattern p q r s = low_string (λ before. 73 + inc_of (a ∷ b ∷ c ∷ d ∷ []) before) (four_below a b c d p q r s) [] (low_first 4 pattern)

pub chroma_pattern_codable : (first second pattern : ℕ) → first ≤ 3 → second ≤ 3 → AllByRecursion IsCodable (chroma_pattern_string first second pattern)
unfolding chroma_pattern_string
chroma_pattern_codable first second pattern h k = low_string (chroma_pattern_at first second) below [] (truncated 2 pattern)
  where
    below : (before : List Bool) → chroma_pattern_at first second before < 276
    below [] = omega arith
    below (b ∷ before) = omega arith

pub delta_codable : (inc : ℕ) (delta : ℤ) → inc ≤ 1 → AllByRecursion IsCodable (qp_delta_string inc delta)
unfolding qp_delta_string
delta_codable inc delta h = low_string (delta_at inc) below [] (unary (mapped delta))
  where
    below : (before : List Bool) → delta_at inc before < 276
    below [] = omega arith
    below (b ∷ []) = omega arith
    below (b ∷ c ∷ before) = omega arith

-- ---- mb_type

-- bins whose contexts have a state, and of which none ends the code
codable_string : (ctx : List Bool → ℕ) → ((before : List Bool) → ctx before < 436) → (before bits : List Bool) → GoesOn (string ctx before bits) → AllByRecursion IsCodable (string ctx before bits)
unfolding GoesOn
codable_string ctx h before [] g = tt
codable_string ctx h before (b ∷ bits) g = (inr (h before, g.0), codable_string ctx h (before ++ b ∷ []) bits g.1)

i_below : (inc : ℕ) → inc ≤ 2 → (xs : List Bool) → type_at inc xs < 436
i_below inc h [] = omega arith
i_below inc h (a ∷ []) = omega arith
i_below inc h (a ∷ b ∷ []) = omega arith
i_below inc h (a ∷ b ∷ c ∷ []) = omega arith
i_below inc h (a ∷ b ∷ c ∷ true ∷ []) = omega arith
i_below inc h (a ∷ b ∷ c ∷ false ∷ []) = omega arith
i_below inc h (a ∷ b ∷ c ∷ true ∷ d ∷ []) = omega arith
i_below inc h (a ∷ b ∷ c ∷ true ∷ d ∷ e ∷ xs) = omega arith
i_below inc h (a ∷ b ∷ c ∷ false ∷ d ∷ xs) = omega arith

suffix_below : (from : ℕ) → from ≤ 32 → (xs : List Bool) → suffix_at from xs < 436
suffix_below from h [] = omega arith
suffix_below from h (a ∷ []) = omega arith
suffix_below from h (a ∷ b ∷ []) = omega arith
suffix_below from h (a ∷ b ∷ c ∷ []) = omega arith
suffix_below from h (a ∷ b ∷ c ∷ true ∷ []) = omega arith
suffix_below from h (a ∷ b ∷ c ∷ false ∷ []) = omega arith
suffix_below from h (a ∷ b ∷ c ∷ true ∷ d ∷ xs) = omega arith
suffix_below from h (a ∷ b ∷ c ∷ false ∷ d ∷ xs) = omega arith

p_below : (xs : List Bool) → p_at xs < 436
p_below [] = omega arith
p_below (true ∷ xs) = suffix_below 17 (omega arith) xs
p_below (false ∷ []) = omega arith
p_below (false ∷ false ∷ xs) = omega arith
p_below (false ∷ true ∷ xs) = omega arith

b_below : (inc : ℕ) → inc ≤ 2 → (xs : List Bool) → b_at inc xs < 436
b_below inc h [] = omega arith
b_below inc h (a ∷ []) = omega arith
b_below inc h (a ∷ true ∷ []) = omega arith
b_below inc h (a ∷ false ∷ []) = omega arith
b_below inc h (true ∷ true ∷ true ∷ true ∷ false ∷ true ∷ xs) = suffix_below 32 (omega arith) xs
b_below inc h (a ∷ b ∷ c ∷ xs) = omega arith

i_codable : (inc : ℕ) (t : IntraType) → inc ≤ 2 → GoesOn (intra_type_string inc t) → AllByRecursion IsCodable (intra_type_string inc t)
unfolding intra_type_string
i_codable inc t h g = codable_string (type_at inc) (i_below inc h) [] (type_bits t) g

p_codable : (t : PType) → GoesOn (p_type_string t) → AllByRecursion IsCodable (p_type_string t)
unfolding p_type_string
p_codable t g = codable_string p_at p_below [] (p_bits t) g

b_codable : (inc : ℕ) (t : BType) → inc ≤ 2 → GoesOn (b_type_string inc t) → AllByRecursion IsCodable (b_type_string inc t)
unfolding b_type_string
b_codable inc t h g = codable_string (b_at inc) (b_below inc h) [] (b_bits t) g

pub type_codable : (near : Near) (mb : MbRecord) → IsRecord near mb → AllByRecursion IsCodable (type_string near.kind (inc_type near.kind near) mb)
type_codable near mb h = go near.kind (goes_type near mb near.kind refl h)
  where
    go : (s : SliceKind) → GoesOn (type_string s (inc_type s near) mb) → AllByRecursion IsCodable (type_string s (inc_type s near) mb)
    go SliceKind.I g = i_codable _ _ (type_inc near.left near.above) g
    go SliceKind.P g = p_codable _ g
    go SliceKind.B g = b_codable _ _ (type_b_inc near.left near.above) g
