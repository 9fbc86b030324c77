-- No bin of a macroblock that isn't I_PCM ends the arithmetic code: one bin is coded before termination, that of mb_type, and it is 0.
use Rattle.std.proofs.Common.{◌≡◌, ℕ, zero, suc, ◌+◌, ◌-◌, ◌^◌, ◌<◌, ◌≤◌, Bool, true, false, cond, ◌&&◌, List, [], ◌∷◌, ◌++◌, refl, ap, ◌∙◌, arith, get_or, map}
use Rattle.std.specs.Prelude.{◌==◌, nat_lt, min, ℤ, pos, negsuc}
use Rattle.std.proofs.lemmas.Bool.Decides.{nat_tests}
use Rattle.spec_syntax.specs.declared.Bin.{Bin}
use Rattle.enc_tables.specs.declared.significance.TheConstants.{SIGNIFICANT8, LAST8}
use Rattle.spec_syntax.specs.Syntax.{at, flag_string}
use Rattle.spec_syntax.specs.Sequences.{string_where}
use Rattle.spec_syntax.specs.Elements.{string}
use Rattle.spec_syntax.specs.Numbers.{ones_string, number_string, golomb_string}
use Rattle.spec_syntax.specs.Levels.{coded_at, flags_from, place_in, significant_at, last_at, levels_from, first_at, others_at, minus1_string}
use Rattle.spec_syntax.specs.Blocks.{none, nonzero, above_one, equal_one, significance_string, level_string, levels_string, block_string, some_levels_string}
use Rattle.spec_slice_data.specs.Decoding.{is_terminate}
use Rattle.spec_slice_data.specs.Coding.{GoesOn}
use Rattle.spec_slice_data.proofs.Decoded.{goes_on_append}
use Rattle.spec_partitions.specs.Parts.{parts_string}

-- a context that isn't that of termination
abbrev pub Plain : ℕ → Type 0
Plain c = is_terminate c ≡ false

pub plain_below : (c : ℕ) → c < 276 → Plain c
plain_below c h = grind (arith, nat_tests)

pub plain_above : (c : ℕ) → 276 < c → Plain c
plain_above c h = grind (arith, nat_tests)

pub over : GoesOn []
unfolding GoesOn
over = tt

pub one_more : (c : ℕ) (b : Bool) (bins : List Bin) → Plain c → GoesOn bins → GoesOn (at c b ∷ bins)
unfolding GoesOn
one_more c b bins h k = (ap (λ t. t && b) h, k)

pub one_bin : (c : ℕ) (b : Bool) → Plain c → GoesOn (at c b ∷ [])
one_bin c b h = one_more c b [] h over

pub goes_flag : (c : ℕ) (b : Bool) → Plain c → GoesOn (flag_string c b)
unfolding flag_string
goes_flag c b h = one_bin c b h

pub goes_string : (ctx : List Bool → ℕ) (before bits : List Bool) → ((xs : List Bool) → Plain (ctx xs)) → GoesOn (string ctx before bits)
goes_string ctx before [] h = over
goes_string ctx before (b ∷ bits) h = one_more (ctx before) b (string ctx (before ++ b ∷ []) bits) (h before) (goes_string ctx (before ++ b ∷ []) bits h)

pub goes_where : (b : Bool) (bins : List Bin) → GoesOn bins → GoesOn (string_where b bins)
goes_where true bins h = h
goes_where false bins h = over

pub goes_parts : (string : ℕ → List Bin) (n : ℕ) → ((k : ℕ) → k < n → GoesOn (string k)) → GoesOn (parts_string string n)
unfolding parts_string
goes_parts string zero h = over
goes_parts string (suc n) h = goes_on_append (parts_string string n) (string n) (goes_parts string n (λ k lt. h k (omega arith))) (h n (omega arith))

-- ---- levels

goes_ones : (c n v : ℕ) → Plain c → GoesOn (ones_string c n v)
unfolding ones_string
goes_ones c zero v h = over
goes_ones c (suc n) zero h = one_bin c false h
goes_ones c (suc n) (suc v) h = one_more c true (ones_string c n v) h (goes_ones c n v h)

goes_number : (n v : ℕ) → GoesOn (number_string n v)
unfolding number_string
goes_number zero v = over
goes_number (suc n) v = go (nat_lt v (2 ^ n)) (λ w. goes_number n w)
  where
    go : (b : Bool) → ((w : ℕ) → GoesOn (number_string n w)) → GoesOn (elim b [ true ↦ at 1000 false ∷ number_string n v | false ↦ at 1000 true ∷ number_string n (v - 2 ^ n) ])
    go true ih = one_more 1000 false (number_string n v) refl (ih v)
    go false ih = one_more 1000 true (number_string n (v - 2 ^ n)) refl (ih (v - 2 ^ n))

pub goes_golomb : (n k v : ℕ) → GoesOn (golomb_string n k v)
unfolding golomb_string
goes_golomb zero k v = over
goes_golomb (suc n) k v = go (nat_lt v (2 ^ k)) (λ w. goes_golomb n (suc k) w)
  where
    go : (b : Bool) → ((w : ℕ) → GoesOn (golomb_string n (suc k) w)) → GoesOn (elim b [ true ↦ at 1000 false ∷ number_string k v | false ↦ at 1000 true ∷ golomb_string n (suc k) (v - 2 ^ k) ])
    go true ih = one_more 1000 false (number_string k v) refl (goes_number k v)
    go false ih = one_more 1000 true (golomb_string n (suc k) (v - 2 ^ k)) refl (ih (v - 2 ^ k))

goes_cond : (b : Bool) (bins : List Bin) → GoesOn bins → GoesOn (cond b [] bins)
goes_cond true bins h = over
goes_cond false bins h = h

goes_minus1 : (first others m : ℕ) → Plain first → Plain others → GoesOn (minus1_string first others m)
unfolding minus1_string
goes_minus1 first others zero h k = one_bin first false h
goes_minus1 first others (suc m) h k =
    one_more first true (ones_string others 13 m ++ cond (nat_lt m 13) [] (golomb_string 13 0 (m - 13))) h
    (goes_on_append (ones_string others 13 m) (cond (nat_lt m 13) [] (golomb_string 13 0 (m - 13))) (goes_ones others 13 m k) (goes_cond (nat_lt m 13) (golomb_string 13 0 (m - 13)) (goes_golomb 13 0 (m - 13))))

-- the tables of categories
five : (a b c d e most : ℕ) → a ≤ most → b ≤ most → c ≤ most → d ≤ most → e ≤ most → (n : ℕ) → get_or (a ∷ b ∷ c ∷ d ∷ e ∷ []) n 0 ≤ most
five a b c d e most ha hb hc hd he zero = ha
five a b c d e most ha hb hc hd he (suc zero) = hb
five a b c d e most ha hb hc hd he (suc (suc zero)) = hc
five a b c d e most ha hb hc hd he (suc (suc (suc zero))) = hd
five a b c d e most ha hb hc hd he (suc (suc (suc (suc zero)))) = he
five a b c d e most ha hb hc hd he (suc (suc (suc (suc (suc n))))) = omega arith

flags_small : (c : ℕ) → flags_from c ≤ 47
flags_small c = five 0 15 29 44 47 47 (omega arith) (omega arith) (omega arith) (omega arith) (omega arith) c

place_small : (c place : ℕ) → place_in c place ≤ place
place_small c place = go (c == 3)
  where
    go : (b : Bool) → cond b (min place 2) place ≤ place
    go true = omega arith
    go false = omega arith

flag_plain : (c place from table : ℕ) → from ≤ 166 → place ≤ 62 → 276 < table → Plain (cond (c == 5) table (from + flags_from c + place_in c place))
flag_plain c place from table h k m = go (c == 5)
  where
    few : from + flags_from c + place_in c place < 276
    few = omega (arith, flags_small c, place_small c place)

    go : (b : Bool) → Plain (cond b table (from + flags_from c + place_in c place))
    go true = plain_above table m
    go false = plain_below (from + flags_from c + place_in c place) few

significant_plain : (c place : ℕ) → place ≤ 62 → Plain (significant_at c place)
unfolding significant_at
significant_plain c place h = flag_plain c place 105 (402 + get_or SIGNIFICANT8 place 0) (omega arith) h (omega arith)

last_plain : (c place : ℕ) → place ≤ 62 → Plain (last_at c place)
unfolding last_at
last_plain c place h = flag_plain c place 166 (417 + get_or LAST8 place 0) (omega arith) h (omega arith)

level_plain : (c more : ℕ) → more ≤ 9 → Plain (levels_from c + more)
level_plain c more h = go (c == 5)
  where
    table : ℕ
    table = get_or (0 ∷ 10 ∷ 20 ∷ 30 ∷ 39 ∷ []) c 0

    few : table ≤ 39
    few = five 0 10 20 30 39 39 (omega arith) (omega arith) (omega arith) (omega arith) (omega arith) c

    go : (b : Bool) → Plain (cond b 426 (227 + table) + more)
    go true = plain_above (426 + more) (omega arith)
    go false = plain_below (227 + table + more) (omega (arith, few))

first_plain : (c g e : ℕ) → Plain (first_at c g e)
unfolding first_at
first_plain c g e = level_plain c (cond (g == 0) (min 4 (1 + e)) 0) (go (g == 0))
  where
    go : (b : Bool) → cond b (min 4 (1 + e)) 0 ≤ 9
    go true = omega arith
    go false = omega arith

others_plain : (c g : ℕ) → Plain (others_at c g)
unfolding others_at
others_plain c g =
    let few = go (c == 3) in
    let sum : levels_from c + 5 + min g (cond (c == 3) 3 4) ≡ levels_from c + (5 + min g (cond (c == 3) 3 4)) = omega arith in
    ap (λ n. is_terminate n) sum ∙ level_plain c (5 + min g (cond (c == 3) 3 4)) few
  where
    go : (b : Bool) → 5 + min g (cond b 3 4) ≤ 9
    go true = omega arith
    go false = omega arith

goes_significance : (c i n : ℕ) (fs : List Bool) → i + n ≤ 63 → GoesOn (significance_string c i n fs)
unfolding significance_string
goes_significance c i zero fs h = over
goes_significance c i (suc n) [] h = over
goes_significance c i (suc n) (false ∷ fs) h = one_more (significant_at c i) false (significance_string c (suc i) n fs) (significant_plain c i (omega arith)) (goes_significance c (suc i) n fs (omega arith))
goes_significance c i (suc n) (true ∷ fs) h = one_more (significant_at c i) true _ (significant_plain c i (omega arith)) (one_more (last_at c i) (none fs) _ (last_plain c i (omega arith)) (go (none fs) (goes_significance c (suc i) n fs (omega arith))))
  where
    go : (b : Bool) → GoesOn (significance_string c (suc i) n fs) → GoesOn (elim b [ true ↦ [] | false ↦ significance_string c (suc i) n fs ])
    go true k = over
    go false k = k

goes_level : (c : ℕ) (higher : List ℤ) (l : ℤ) → GoesOn (level_string c higher l)
unfolding level_string
goes_level c higher (pos zero) = over
goes_level c higher (pos (suc m)) =
    goes_on_append (minus1_string (first_at c (above_one higher) (equal_one higher)) (others_at c (above_one higher)) m) (at 1000 false ∷ [])
    (goes_minus1 (first_at c (above_one higher) (equal_one higher)) (others_at c (above_one higher)) m (first_plain c (above_one higher) (equal_one higher)) (others_plain c (above_one higher))) (one_bin 1000 false refl)
goes_level c higher (negsuc m) =
    goes_on_append (minus1_string (first_at c (above_one higher) (equal_one higher)) (others_at c (above_one higher)) m) (at 1000 true ∷ [])
    (goes_minus1 (first_at c (above_one higher) (equal_one higher)) (others_at c (above_one higher)) m (first_plain c (above_one higher) (equal_one higher)) (others_plain c (above_one higher))) (one_bin 1000 true refl)

goes_levels : (c : ℕ) (ls : List ℤ) → GoesOn (levels_string c ls)
unfolding levels_string
goes_levels c [] = over
goes_levels c (l ∷ ls) = goes_on_append (levels_string c ls) (level_string c ls l) (goes_levels c ls) (goes_level c ls l)

-- a block that is known to have a level
pub goes_some : (c n : ℕ) (ls : List ℤ) → n ≤ 63 → GoesOn (some_levels_string c n ls)
unfolding some_levels_string
goes_some c n ls h = goes_on_append (significance_string c 0 n (map nonzero ls)) (levels_string c ls) (goes_significance c 0 n (map nonzero ls) (omega arith)) (goes_levels c ls)

coded_plain : (c inc : ℕ) → inc ≤ 3 → Plain (coded_at c inc)
unfolding coded_at
coded_plain c inc h = plain_below _ (omega (arith, five 0 4 8 12 16 16 (omega arith) (omega arith) (omega arith) (omega arith) (omega arith) c))

pub goes_block : (c inc n : ℕ) (ls : List ℤ) → inc ≤ 3 → n ≤ 63 → GoesOn (block_string c inc n ls)
unfolding block_string
goes_block c inc n ls h k = go (none (map nonzero ls))
  where
    go : (b : Bool) → GoesOn (elim b [
      | true ↦ at (coded_at c inc) false ∷ []
      | false ↦ at (coded_at c inc) true ∷ (significance_string c 0 n (map nonzero ls) ++ levels_string c ls)
    ])
    go true = one_bin (coded_at c inc) false (coded_plain c inc h)
    go false = one_more (coded_at c inc) true (significance_string c 0 n (map nonzero ls) ++ levels_string c ls) (coded_plain c inc h)
        (goes_on_append (significance_string c 0 n (map nonzero ls)) (levels_string c ls) (goes_significance c 0 n (map nonzero ls) (omega arith)) (goes_levels c ls))
