-- The levels of inter macroblocks.
use Rattle.std.proofs.Common.{◌≡◌, ◌<◌, ◌≤◌, ◌+◌, ◌*◌, ◌/◌, ◌++◌, ℕ, zero, suc, ℤ, pos, negsuc, Bool, true, false, not, ◌&&◌, ◌==◌, nat_eq, cond, if◌then◌else◌, List, [], ◌∷◌, length, get_or, take, drop, refl, sym, ap, ap₂, subst, ◌∙◌, arith}
use Rattle.std.specs.List.{count_by}
use Rattle.std.proofs.lemmas.Grind.{common_steps}
use Rattle.std.proofs.lemmas.Bool.{eqb-true}
use Rattle.enc_tables.specs.declared.records.MbRecord.{MbRecord}
use Rattle.enc_tables.specs.declared.transform.TheConstants.{ZIGZAG4}
use Rattle.spec_basics.specs.Bounds.{Within}
use Rattle.spec_film.specs.Films.{Planes}
use Rattle.spec_residual.specs.Blocks.{is_nonzero, item, nonzero_levels}
use Rattle.spec_residual.specs.Levels.{IsMade}
use Rattle.spec_residual.specs.declared.BlockKind.TheVariants.{Luma4, Chroma4, ChromaDc}
use Rattle.spec_reconstruction.specs.declared.Site.{Site}
use Rattle.spec_reconstruction.specs.Chroma.{chroma_dc_levels, chroma_ac_levels}
use Rattle.spec_reconstruction.specs.InOrder.{levels_of_block}
use Rattle.spec_reconstruction.specs.Records.{luma_pattern, chroma_pattern}
use Rattle.spec_coded.specs.Levels.{whole_levels4, whole_levels8, takes_8x8, with_levels, levelled}
use Rattle.residual_coder.specs.Made.{IsQuantised, IsQuantised8, ChromaQuantised}
use Rattle.residual_coder.proofs.NoLevels.{zeros_quantised}
use Rattle.inter_coder.specs.Made.{LumaCoded}

pub count_more : (xs : List ℤ) (i c o : ℕ) → i < length xs → c ≡ count_by is_nonzero (take i xs) → o ≡ cond (is_nonzero (get_or xs i (pos 0))) 1 0 → c + o ≡ count_by is_nonzero (take (i + 1) xs)
count_more xs i c o inside counted one = grind (arith, common_steps)

pub all_counted : (xs : List ℤ) (n c i : ℕ) → length xs ≡ n → n ≤ i → c ≡ count_by is_nonzero (take i xs) → c ≡ nonzero_levels xs
unfolding nonzero_levels
all_counted xs n c i long whole counted = grind (arith, common_steps)

pub one_small : (t : Bool) (o : ℕ) → o ≡ cond t 1 0 → o ≤ 1
one_small true o h = omega arith
one_small false o h = omega arith

-- ---- no level is left

some_counted : (x : ℤ) (xs : List ℤ) → is_nonzero x ≡ true → 0 < count_by is_nonzero (x ∷ xs)
some_counted x xs e = grind (arith, common_steps)

none_left : (xs : List ℤ) → count_by is_nonzero xs ≡ 0 → (k : ℕ) → item xs k ≡ pos 0
none_left [] e k = refl
none_left (pos zero ∷ xs) e zero = refl
none_left (pos zero ∷ xs) e (suc k) = none_left xs e k
none_left (pos (suc n) ∷ xs) e k = let some = some_counted (pos (suc n)) xs refl in absurd (omega (arith, e, some))
none_left (negsuc n ∷ xs) e k = let some = some_counted (negsuc n) xs refl in absurd (omega (arith, e, some))

no_levels : (levels : List ℤ) → nonzero_levels levels ≡ 0 → (k : ℕ) → item levels k ≡ pos 0
unfolding nonzero_levels
no_levels levels e = none_left levels e

pub luma_coded : (qp n : ℕ) (levels : List ℤ) → n ≡ nonzero_levels levels → ((k : ℕ) → k < 4 → IsQuantised8 qp (levels_of_block 64 k levels)) → LumaCoded qp (not (nat_eq n 0)) levels
luma_coded qp n levels e made = go (nat_eq n 0) refl
  where
    go : (b : Bool) → nat_eq n 0 ≡ b → LumaCoded qp (not b) levels
    go true h = zeros_quantised qp levels (no_levels levels (sym e ∙ eqb-true n 0 h))
    go false h = made

-- ---- the record

-- both components, one behind the other
front_half : (xs ys : List ℤ) (n : ℕ) → length xs ≡ n → take n (xs ++ ys) ≡ xs
front_half xs ys n e = grind (arith, common_steps)

back_half : (xs ys : List ℤ) (n : ℕ) → length xs ≡ n → drop n (xs ++ ys) ≡ ys
back_half xs ys n e = grind (arith, common_steps)

pub first_quantised : (qp : ℕ) (dc ac d e a b : List ℤ) → dc ≡ d ++ e → ac ≡ a ++ b → length d ≡ 4 → length a ≡ 60 → ChromaQuantised qp d a → ChromaQuantised qp (take 4 dc) (take 60 ac)
first_quantised qp dc ac d e a b f g long_d long_a q =
    let x : d ≡ take 4 dc = sym (ap (λ (l : List ℤ). take 4 l) f ∙ front_half d e 4 long_d) in
    let y : a ≡ take 60 ac = sym (ap (λ (l : List ℤ). take 60 l) g ∙ front_half a b 60 long_a) in
    subst (λ (l : List ℤ). ChromaQuantised qp l (take 60 ac)) x (subst (λ (l : List ℤ). ChromaQuantised qp d l) y q)

pub second_quantised : (qp : ℕ) (dc ac d e a b : List ℤ) → dc ≡ d ++ e → ac ≡ a ++ b → length d ≡ 4 → length a ≡ 60 → ChromaQuantised qp e b → ChromaQuantised qp (drop 4 dc) (drop 60 ac)
second_quantised qp dc ac d e a b f g long_d long_a q =
    let x : e ≡ drop 4 dc = sym (ap (λ (l : List ℤ). drop 4 l) f ∙ back_half d e 4 long_d) in
    let y : b ≡ drop 60 ac = sym (ap (λ (l : List ℤ). drop 60 l) g ∙ back_half a b 60 long_a) in
    subst (λ (l : List ℤ). ChromaQuantised qp l (drop 60 ac)) x (subst (λ (l : List ℤ). ChromaQuantised qp e l) y q)

pub two_dc : (site : Site) (w v w2 : ℕ) (s p s2 p2 : List ℕ) (all d e : List ℤ) → v + v ≡ w → w2 + w2 ≡ w → all ≡ d ++ e → d ≡ chroma_dc_levels false v site s p → e ≡ chroma_dc_levels false w2 site s2 p2
    → all ≡ chroma_dc_levels false (w / 2) site s p ++ chroma_dc_levels false (w / 2) site s2 p2
two_dc site w v w2 s p s2 p2 all d e h k is f g =
    let x : v ≡ w / 2 = omega (arith, h) in
    let y : w2 ≡ w / 2 = omega (arith, k) in
    is ∙ ap₂ (λ (a b : List ℤ). a ++ b) (f ∙ ap (λ (n : ℕ). chroma_dc_levels false n site s p) x) (g ∙ ap (λ (n : ℕ). chroma_dc_levels false n site s2 p2) y)

pub two_ac : (site : Site) (w v w2 : ℕ) (s p s2 p2 : List ℕ) (all d e : List ℤ) → v + v ≡ w → w2 + w2 ≡ w → all ≡ d ++ e → d ≡ chroma_ac_levels false v site s p → e ≡ chroma_ac_levels false w2 site s2 p2
    → all ≡ chroma_ac_levels false (w / 2) site s p ++ chroma_ac_levels false (w / 2) site s2 p2
two_ac site w v w2 s p s2 p2 all d e h k is f g =
    let x : v ≡ w / 2 = omega (arith, h) in
    let y : w2 ≡ w / 2 = omega (arith, k) in
    is ∙ ap₂ (λ (a b : List ℤ). a ++ b) (f ∙ ap (λ (n : ℕ). chroma_ac_levels false n site s p) x) (g ∙ ap (λ (n : ℕ). chroma_ac_levels false n site s2 p2) y)

module _ (wide : ℕ) (site : Site) (t8x8 : Bool) (source prediction : Planes) (mb : MbRecord) where
  pub levelled_is : (t : Bool) (luma dc ac : List ℤ) (pattern both : ℕ)
      → t ≡ (takes_8x8 t8x8 (whole_levels4 wide site source.luma prediction.luma) (whole_levels8 wide site source.luma prediction.luma) && not (nonzero_levels (whole_levels8 wide site source.luma prediction.luma) == 0))
      → luma ≡ (if takes_8x8 t8x8 (whole_levels4 wide site source.luma prediction.luma) (whole_levels8 wide site source.luma prediction.luma) then whole_levels8 wide site source.luma prediction.luma else whole_levels4 wide site source.luma prediction.luma)
      → dc ≡ chroma_dc_levels false (wide / 2) site source.cb prediction.cb ++ chroma_dc_levels false (wide / 2) site source.cr prediction.cr
      → ac ≡ chroma_ac_levels false (wide / 2) site source.cb prediction.cb ++ chroma_ac_levels false (wide / 2) site source.cr prediction.cr
      → pattern ≡ luma_pattern luma → both ≡ chroma_pattern dc ac
      → (let r : MbRecord = record mb { transform8 = t; luma_cbp = pattern; chroma_cbp = both; luma = luma; chroma_dc = dc; chroma_ac = ac } in r) ≡ levelled wide site t8x8 source prediction mb
  unfolding levelled with_levels
  levelled_is t luma dc ac pattern both is_t is_luma is_dc is_ac is_pattern is_both =
      ap₂ (λ (p q : ℕ). let r : MbRecord = record mb { transform8 = t; luma_cbp = p; chroma_cbp = q; luma = luma; chroma_dc = dc; chroma_ac = ac } in r) is_pattern is_both
      ∙ ap₂ (λ (d a : List ℤ). with_levels t luma d a mb) is_dc is_ac
      ∙ ap₂ (λ (u : Bool) (l : List ℤ). with_levels u l (chroma_dc_levels false (wide / 2) site source.cb prediction.cb ++ chroma_dc_levels false (wide / 2) site source.cr prediction.cr) (chroma_ac_levels false (wide / 2) site source.cb prediction.cb ++ chroma_ac_levels false (wide / 2) site source.cr prediction.cr) mb) is_t is_luma
