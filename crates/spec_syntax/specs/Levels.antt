-- The elements of residual blocks (ITU-T H.264, clauses 9.3.2.3, 9.3.3.1.1.9 and 9.3.3.1.3). The category of a block (ctxBlockCat, table
-- 9-42) is 0 for Intra 16x16 DC, 1 for its AC, 2 for luma 4x4, 3 for chroma DC, 4 for chroma AC, 5 for luma 8x8. A context is ctxIdxOffset
-- (table 9-34) and what the category adds, ctxBlockCatOffset (table 9-40), and ctxIdxInc.
use Rattle.std.specs.Prelude.{ℕ, zero, suc, ◌+◌, ◌-◌, ◌==◌, true, false, cond, List, [], ◌∷◌, ◌++◌, get_or, min, nat_lt}
use Rattle.spec_syntax.specs.declared.Bin.{Bin}
use Rattle.enc_tables.specs.declared.significance.TheConstants.{SIGNIFICANT8, LAST8}
use Rattle.spec_syntax.specs.Syntax.{Syntax, done, nothing, ◌>>=◌, bin, at}
use Rattle.spec_syntax.specs.Numbers.{ones, ones_string, golomb, golomb_string}

-- coded_block_flag, which 8x8 blocks have not: ctxIdxOffset 85, and its row of table 9-40
unfoldable pub coded_at : ℕ → ℕ → ℕ
coded_at category inc = 85 + get_or (0 ∷ 4 ∷ 8 ∷ 12 ∷ 16 ∷ []) category 0 + inc

-- the row of table 9-40 for significant_coeff_flag and last_significant_coeff_flag, and the place that counts: levelListIdx, of chroma DC
-- at most 2 (clause 9.3.3.1.3)
abbrev pub flags_from : ℕ → ℕ
flags_from category = get_or (0 ∷ 15 ∷ 29 ∷ 44 ∷ 47 ∷ []) category 0

abbrev pub place_in : ℕ → ℕ → ℕ
place_in category place = cond (category == 3) (min place 2) place

-- significant_coeff_flag and last_significant_coeff_flag at a place before the last one: ctxIdxOffset 105 and 166, of 8x8 blocks 402 and
-- 417 with ctxIdxInc of table 9-43
unfoldable pub significant_at : ℕ → ℕ → ℕ
significant_at category place = cond (category == 5) (402 + get_or SIGNIFICANT8 place 0) (105 + flags_from category + place_in category place)

unfoldable pub last_at : ℕ → ℕ → ℕ
last_at category place = cond (category == 5) (417 + get_or LAST8 place 0) (166 + flags_from category + place_in category place)

-- coeff_abs_level_minus1, after g levels above 1 and e levels equal to 1 in size: the first bin, and the others (clause 9.3.3.1.3);
-- ctxIdxOffset 227 and its row of table 9-40, of 8x8 blocks 426
abbrev pub levels_from : ℕ → ℕ
levels_from category = cond (category == 5) 426 (227 + get_or (0 ∷ 10 ∷ 20 ∷ 30 ∷ 39 ∷ []) category 0)

unfoldable pub first_at : ℕ → ℕ → ℕ → ℕ
first_at category g e = levels_from category + cond (g == 0) (min 4 (1 + e)) 0

unfoldable pub others_at : ℕ → ℕ → ℕ
others_at category g = levels_from category + 5 + min g (cond (category == 3) 3 4)

-- A prefix of at most 14 ones, and what is above 14 by Exp-Golomb of order 0. It is at most 8190, since a level is at most 8191 in
-- size: a greater one is nothing.
unfoldable pub minus1 : ℕ → ℕ → Syntax ℕ
minus1 first others = do
  b ← bin first
  elim b [
    | false ↦ done 0
    | true ↦ do
      k ← ones others 13
      (cond (k == 13) (golomb 13 0 >>= λ v. cond (nat_lt v 8177) (done (14 + v)) nothing) (done (suc k)))
  ]

unfoldable pub minus1_string : ℕ → ℕ → ℕ → List Bin
minus1_string first others zero = at first false ∷ []
minus1_string first others (suc m) = at first true ∷ (ones_string others 13 m ++ cond (nat_lt m 13) [] (golomb_string 13 0 (m - 13)))

-- the sign of a level, 1 for negative, by bypass
abbrev pub sign_at : ℕ
sign_at = 1000
