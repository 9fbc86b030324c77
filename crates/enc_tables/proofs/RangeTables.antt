-- What each entry of the arithmetic coder's tables is, computed once.
use Rattle.std.proofs.Common.{◌≡◌, ℕ, zero, suc, ◌+◌, ◌*◌, ◌/◌, ◌%◌, ◌<◌, ◌≤◌, Bool, true, false, cond, nat_lt, List, [], ◌∷◌, length, get_or, arith, refl, ap, ◌∙◌}
use Rattle.std.proofs.lemmas.Bool.{and_parts}
use Rattle.std.proofs.lemmas.Bool.Decides.{nat_tests}
use Rattle.std.specs.List.{list_all}
use Rattle.enc_tables.specs.Arithmetic.{lps_range, after_lps}
use Rattle.enc_tables.specs.declared.arithmetic.TheConstants.{RANGE_LPS, NEXT_LPS}

any_default : (xs : List ℕ) (i d e : ℕ) → i < length xs → get_or xs i d ≡ get_or xs i e
any_default [] i d e h = absurd (omega arith)
any_default (x ∷ xs) zero d e h = refl
any_default (x ∷ xs) (suc i) d e h = any_default xs i d e (omega arith)

all_at : (p : ℕ → Bool) (xs : List ℕ) (i d : ℕ) → list_all p xs ≡ true → p d ≡ true → p (get_or xs i d) ≡ true
all_at p [] i d h hd = hd
all_at p (x ∷ xs) zero d h hd = (and_parts (p x) (list_all p xs) h).0
all_at p (x ∷ xs) (suc i) d h hd = all_at p xs i d (and_parts (p x) (list_all p xs) h).1 hd

-- ---- the ranges: each is at least 2 and at most 240

abbrev size_fits : ℕ → Bool
size_fits x = cond (nat_lt x 2) false (nat_lt x 241)

sizes_fit : list_all size_fits RANGE_LPS ≡ true
sizes_fit = refl

pub record Fits (n : ℕ) : Type 0 where
  pub least : 2 ≤ n
  pub most : n ≤ 240

fits_of : (n : ℕ) → size_fits n ≡ true → Fits n
fits_of n h = grind (arith, nat_tests)

pub lps_range_fits : (s r : ℕ) → Fits (lps_range s r)
unfolding lps_range
lps_range_fits s r = fits_of (get_or RANGE_LPS (4 * s + r / 64 % 4) 2) (all_at size_fits RANGE_LPS (4 * s + r / 64 % 4) 2 sizes_fit refl)

ranges-length : length RANGE_LPS ≡ 256
ranges-length = refl

pub looked_up : (s r : ℕ) → s < 64 → get_or RANGE_LPS (s * 4 + r / 64 % 4) 0 ≡ lps_range s r
unfolding lps_range
looked_up s r h =
    any_default RANGE_LPS (s * 4 + r / 64 % 4) 0 2 (let b : s * 4 + r / 64 % 4 < 256 = omega arith in b)
    ∙ ap (λ i. get_or RANGE_LPS i 2) (let e : s * 4 + r / 64 % 4 ≡ 4 * s + r / 64 % 4 = omega arith in e)

-- ---- the states

abbrev state_fits : ℕ → Bool
state_fits x = nat_lt x 64

states_fit : list_all state_fits NEXT_LPS ≡ true
states_fit = refl

below_of : (n : ℕ) → state_fits n ≡ true → n ≤ 63
below_of n h = grind (arith, nat_tests)

pub after_lps_fits : (s : ℕ) → after_lps s ≤ 63
unfolding after_lps
after_lps_fits s = below_of (get_or NEXT_LPS s 0) (all_at state_fits NEXT_LPS s 0 states_fit refl)

pub after_lps-is : (s : ℕ) → get_or NEXT_LPS s 0 ≡ after_lps s
unfolding after_lps
after_lps-is s = refl
