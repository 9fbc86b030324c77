-- The levels of an inter macroblock fit, and so does its transform flag.
use Rattle.std.proofs.Common.{◌≡◌, ◌+◌, ◌/◌, ◌%◌, ◌&&◌, ℕ, zero, suc, ℤ, pos, negsuc, Bool, true, false, cond, not, List, [], ◌∷◌, length, refl, ap, ap₂, ◌∙◌}
use Rattle.std.specs.Prelude.{◌==◌, nat_le}
use Rattle.std.proofs.lemmas.Bool.{eqb-true}
use Rattle.std.proofs.lemmas.Nat.{pow_pos}
use Rattle.std.proofs.lemmas.List.{length-append}
use Rattle.std.proofs.Math.Nat.{div-eq_of_lt}
use Rattle.spec_residual.specs.declared.BlockKind.TheVariants.{Luma4}
use Rattle.spec_residual.specs.Blocks.{nonzero_levels}
use Rattle.spec_contexts.specs.Increments.{bit_of}
use Rattle.spec_film.specs.Films.{Planes}
use Rattle.spec_macroblock.specs.Records.{level_at}
use Rattle.spec_reconstruction.specs.declared.Site.{Site}
use Rattle.spec_reconstruction.specs.Residuals.{luma_levels4, luma_levels8, spectrum8}
use Rattle.spec_reconstruction.specs.Records.{luma_pattern}
use Rattle.spec_record_laws.specs.Coded.{AreBytes, PlanesFit}
use Rattle.spec_record_laws.proofs.Sums.{AreSmall}
use Rattle.spec_record_laws.proofs.Built.{rows_bytes}
use Rattle.spec_record_laws.proofs.Levels.{listed_small, forward8_small, chroma_dc_small, levels4_small, levels8_small, chroma_levels_small, length-levels4, length-levels8, length-chroma_dc, are_levels, append_small, drop_small, joined_small, length-joined}
use Rattle.spec_record_laws.proofs.Chosen.{differences_small, spectrum4_small, spectrum_chroma_small, spectrum_chroma_first, chroma_without_dc_small, length-ac_block}
use Rattle.spec_record_laws.proofs.Pattern.{blank_by_pattern}
use Rattle.spec_inter_records.proofs.Made.{LevelsFit, FlagFits, whole_luma, whole_flag, whole_dc, whole_ac}
use Rattle.spec_coded.specs.Levels.{whole_levels4, whole_levels8, takes_8x8}
use Rattle.spec_reconstruction.specs.Chroma.{chroma_dc_levels, chroma_ac_levels}

-- ---- luma

small4 : (wide : ℕ) (site : Site) (source prediction : List ℕ) → AreBytes source → AreBytes prediction → AreSmall 8191 (whole_levels4 wide site source prediction)
unfolding whole_levels4 luma_levels4
small4 wide site source prediction g h = joined_small 8191 _ 16 (λ b. levels4_small _ Luma4 site.qp _ (spectrum4_small _ _ (rows_bytes wide _ _ 4 source 4 g) (rows_bytes 16 _ _ 4 prediction 4 h)))

small8 : (wide : ℕ) (site : Site) (source prediction : List ℕ) → AreBytes source → AreBytes prediction → AreSmall 8191 (whole_levels8 wide site source prediction)
unfolding whole_levels8 luma_levels8 spectrum8
small8 wide site source prediction g h = joined_small 8191 _ 4 (λ k. levels8_small _ site.qp _ (forward8_small _ (differences_small 64 _ _ (rows_bytes wide _ _ 8 source 8 g) (rows_bytes 16 _ _ 8 prediction 8 h))))

long4 : (wide : ℕ) (site : Site) (source prediction : List ℕ) → length (whole_levels4 wide site source prediction) ≡ 256
unfolding whole_levels4 luma_levels4
long4 wide site source prediction = length-joined _ 16 16 (λ b. length-levels4 _ Luma4 site.qp _)

long8 : (wide : ℕ) (site : Site) (source prediction : List ℕ) → length (whole_levels8 wide site source prediction) ≡ 256
unfolding whole_levels8 luma_levels8
long8 wide site source prediction = length-joined _ 64 4 (λ k. length-levels8 _ site.qp _)

-- ---- chroma

small_dc : (wide : ℕ) (site : Site) (source prediction : List ℕ) → AreBytes source → AreBytes prediction → AreSmall 8191 (chroma_dc_levels false wide site source prediction)
unfolding chroma_dc_levels
small_dc wide site source prediction g h = chroma_levels_small _ _ _ (chroma_dc_small _ (listed_small 4 4080 _ (λ b. spectrum_chroma_first wide site source prediction b g h)))

small_ac : (wide : ℕ) (site : Site) (source prediction : List ℕ) → AreBytes source → AreBytes prediction → AreSmall 8191 (chroma_ac_levels false wide site source prediction)
unfolding chroma_ac_levels
small_ac wide site source prediction g h = joined_small 8191 _ 4 (λ b. drop_small 8191 1 _ (chroma_without_dc_small _ _ _ (spectrum_chroma_small wide site source prediction b g h)))

long_dc : (wide : ℕ) (site : Site) (source prediction : List ℕ) → length (chroma_dc_levels false wide site source prediction) ≡ 4
unfolding chroma_dc_levels
long_dc wide site source prediction = length-chroma_dc _ _ _

long_ac : (wide : ℕ) (site : Site) (source prediction : List ℕ) → length (chroma_ac_levels false wide site source prediction) ≡ 60
unfolding chroma_ac_levels
long_ac wide site source prediction = length-joined _ 15 4 (λ b. length-ac_block _ _ _)

-- ---- together

either_small : (b : Bool) (xs ys : List ℤ) → AreSmall 8191 xs → AreSmall 8191 ys → AreSmall 8191 (cond b xs ys)
either_small true xs ys h g = h
either_small false xs ys h g = g

either_long : (b : Bool) (xs ys : List ℤ) → length xs ≡ 256 → length ys ≡ 256 → length (cond b xs ys) ≡ 256
either_long true xs ys h g = h
either_long false xs ys h g = g

pub whole_fits : (wide : ℕ) (site : Site) (t8x8 : Bool) (source prediction : Planes) → PlanesFit source → PlanesFit prediction
    → LevelsFit (whole_luma wide site t8x8 source.luma prediction.luma) (whole_dc wide site source prediction) (whole_ac wide site source prediction)
whole_fits wide site t8x8 source prediction g h = record {
  luma_length = either_long (takes_8x8 t8x8 _ _) _ _ (long8 wide site source.luma prediction.luma) (long4 wide site source.luma prediction.luma);
  luma_levels = are_levels _ (either_small (takes_8x8 t8x8 _ _) _ _ (small8 wide site source.luma prediction.luma g.luma h.luma) (small4 wide site source.luma prediction.luma g.luma h.luma));
  dc_length = length-append _ _ ∙ ap₂ (λ (a b : ℕ). a + b) (long_dc (wide / 2) site source.cb prediction.cb) (long_dc (wide / 2) site source.cr prediction.cr);
  dc_levels = are_levels _ (append_small 8191 _ _ (small_dc (wide / 2) site source.cb prediction.cb g.cb h.cb) (small_dc (wide / 2) site source.cr prediction.cr g.cr h.cr));
  ac_length = length-append _ _ ∙ ap₂ (λ (a b : ℕ). a + b) (long_ac (wide / 2) site source.cb prediction.cb) (long_ac (wide / 2) site source.cr prediction.cr);
  ac_levels = are_levels _ (append_small 8191 _ _ (small_ac (wide / 2) site source.cb prediction.cb g.cb h.cb) (small_ac (wide / 2) site source.cr prediction.cr g.cr h.cr));
}

-- ---- where some level isn't 0 there is a bit in the pattern

no_bit : (k : ℕ) → bit_of 0 k ≡ false
no_bit k = ap (λ (n : ℕ). n % 2 == 1) (div-eq_of_lt (pow_pos k))

none_counted : (ls : List ℤ) → ((i : ℕ) → level_at ls i ≡ pos 0) → nonzero_levels ls ≡ 0
unfolding nonzero_levels
none_counted [] h = refl
none_counted (pos zero ∷ ls) h = none_counted ls (λ i. h (suc i))
none_counted (pos (suc n) ∷ ls) h = let e : pos (suc n) ≡ pos 0 = h zero in absurd cc
none_counted (negsuc n ∷ ls) h = let e : negsuc n ≡ pos 0 = h zero in absurd cc

none_by_pattern : (ls : List ℤ) → length ls ≡ 256 → luma_pattern ls ≡ 0 → nonzero_levels ls ≡ 0
unfolding luma_pattern
none_by_pattern ls long e = none_counted ls (λ i. blank_by_pattern ls long i (ap (λ (n : ℕ). bit_of n (i / 64)) e ∙ no_bit (i / 64)))

pub some_by_count : (ls : List ℤ) → length ls ≡ 256 → not (nonzero_levels ls == 0) ≡ true → not (luma_pattern ls == 0) ≡ true
some_by_count ls long h = go (luma_pattern ls == 0) refl
  where
    go : (b : Bool) → (luma_pattern ls == 0) ≡ b → not b ≡ true
    go false e = refl
    go true e = let none : nonzero_levels ls ≡ 0 = none_by_pattern ls long (eqb-true (luma_pattern ls) 0 e) in
        let no : not (nonzero_levels ls == 0) ≡ false = ap (λ (n : ℕ). not (n == 0)) none in absurd cc

-- the rule of the flag, over any levels
rule : (t8x8 fewer : Bool) (levels4 levels8 : List ℤ) → length levels8 ≡ 256 → FlagFits t8x8 (t8x8 && fewer && not (nonzero_levels levels8 == 0)) (cond (t8x8 && fewer) levels8 levels4)
rule false fewer levels4 levels8 long = record { allowed = λ e. absurd cc; some = λ e. absurd cc }
rule true false levels4 levels8 long = record { allowed = λ e. absurd cc; some = λ e. absurd cc }
rule true true levels4 levels8 long = record { allowed = λ e. refl; some = λ e. some_by_count levels8 long e }

pub whole_flag_fits : (wide : ℕ) (site : Site) (t8x8 : Bool) (source prediction : List ℕ) → FlagFits t8x8 (whole_flag wide site t8x8 source prediction) (whole_luma wide site t8x8 source prediction)
whole_flag_fits wide site t8x8 source prediction =
    rule t8x8 (nat_le (nonzero_levels (whole_levels8 wide site source prediction)) (nonzero_levels (whole_levels4 wide site source prediction))) _ _ (long8 wide site source prediction)
