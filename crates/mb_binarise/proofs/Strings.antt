use Rattle.std.proofs.Common.{◌≡◌, ℕ, zero, suc, ◌+◌, ◌-◌, ◌/◌, ◌%◌, ◌^◌, ◌<◌, ◌≤◌, Bool, true, false, List, [], ◌∷◌, ◌++◌, refl, sym, ap, ◌∙◌, arith, append_assoc}
use Rattle.std.specs.Prelude.{nat_lt, ◌==◌, ℤ}
use Rattle.spec_syntax.specs.Inter.{ref_index_string, PType, p_type_string, p_at, BType, b_type_string, b_at, suffix_at, suffix_string}
use Rattle.spec_syntax.specs.Elements.{IntraType, type_bits, Whole, intra_type_string, chroma_mode_string, chroma_pattern_string, mapped, qp_delta_string, delta_at, string}
use Rattle.spec_syntax.specs.Numbers.{unary}
use Rattle.std.proofs.lemmas.Bool.Decides.{nat_tests}
use Rattle.std.proofs.lemmas.List.{append-nil}
use Rattle.std.proofs.lemmas.Bool.{cases_lt}
use Rattle.std.proofs.Common.{inl, inr}
use Rattle.std.proofs.Math.Nat.{pow-suc}
use Rattle.spec_syntax.specs.declared.Bin.{Bin}
use Rattle.spec_syntax.specs.Syntax.{at}
use Rattle.spec_syntax.specs.Numbers.{ones_string, number_string, golomb_string, prefix_string}
use Rattle.spec_syntax.specs.Levels.{minus1_string}

pub ones_more : (c n v k : ℕ) → k < n → k < v → ones_string c (n - k) (v - k) ≡ at c true ∷ ones_string c (n - (k + 1)) (v - (k + 1))
unfolding ones_string
ones_more c n v k h j = let e : n - k ≡ suc (n - (k + 1)) = omega arith in let f : v - k ≡ suc (v - (k + 1)) = omega arith in rw (e, f) refl

pub ones_close : (c n v k : ℕ) → k < n → v ≤ k → ones_string c (n - k) (v - k) ≡ at c false ∷ []
unfolding ones_string
ones_close c n v k h j = let e : n - k ≡ suc (n - (k + 1)) = omega arith in let f : v - k ≡ 0 = omega arith in rw (e, f) refl

pub ones_end : (c n v k : ℕ) → n ≤ k → ones_string c (n - k) (v - k) ≡ []
unfolding ones_string
ones_end c n v k h = let e : n - k ≡ 0 = omega arith in rw e refl

pub number_low : (n v : ℕ) → v < 2 ^ n → number_string (suc n) v ≡ at 1000 false ∷ number_string n v
unfolding number_string
number_low n v h = let e : nat_lt v (2 ^ n) ≡ true = grind (arith, nat_tests) in rw (e, number_string) refl

pub number_high : (n v : ℕ) → 2 ^ n ≤ v → number_string (suc n) v ≡ at 1000 true ∷ number_string n (v - 2 ^ n)
unfolding number_string
number_high n v h = let e : nat_lt v (2 ^ n) ≡ false = grind (arith, nat_tests) in rw (e, number_string) refl

pub number_end : (v : ℕ) → number_string 0 v ≡ []
unfolding number_string
number_end v = refl

-- one more item at the end of what is written, and less to write
pub step : {A : Type 0} (all now : List A) (x : A) (rest more : List A) → now ++ rest ≡ all → rest ≡ x ∷ more → (now ++ x ∷ []) ++ more ≡ all
step all now x rest more h e = append_assoc now (x ∷ []) more ∙ ap (λ (ys : List _). now ++ ys) (sym e) ∙ h

pub golomb_high : (n k v : ℕ) → 2 ^ k ≤ v → golomb_string (suc n) k v ≡ at 1000 true ∷ golomb_string n (suc k) (v - 2 ^ k)
unfolding golomb_string
golomb_high n k v h = let e : nat_lt v (2 ^ k) ≡ false = grind (arith, nat_tests) in rw (e, golomb_string) refl

pub golomb_low : (n k v : ℕ) → v < 2 ^ k → golomb_string (suc n) k v ≡ at 1000 false ∷ number_string k v
unfolding golomb_string
golomb_low n k v h = let e : nat_lt v (2 ^ k) ≡ true = grind (arith, nat_tests) in rw (e, golomb_string) refl

-- where another one can still follow
pub not_last : (n k rest : ℕ) → k < n → 2 ^ k ≤ rest → rest + 2 ^ k < 2 ^ n → k + 1 < n
not_last n k rest h a b = elim (cases_lt (k + 1) n) [
  | inl lt ↦ lt
  | inr le ↦ let e : n ≡ suc k = omega arith in let d = rw e at b in absurd (omega (arith, a, d, pow-suc 2 k))
]

pub order_start : (k n : ℕ) → k + n - k ≡ n
order_start k n = omega arith

pub order_below : (k n v : ℕ) → v + 2 ^ k < 2 ^ (k + n) → k < k + n
order_below k zero v h = let e : k + 0 ≡ k = omega arith in let g = rw e at h in absurd (omega (arith, g))
order_below k (suc n) v h = omega arith

pub golomb_more : (n k v : ℕ) → k < n → 2 ^ k ≤ v → golomb_string (n - k) k v ≡ at 1000 true ∷ golomb_string (n - (k + 1)) (k + 1) (v - 2 ^ k)
golomb_more n k v h a = let e : n - k ≡ suc (n - suc k) = omega arith in let o : k + 1 ≡ suc k = omega arith in rw (e, o) (golomb_high (n - suc k) k v a)

pub golomb_close : (n k v : ℕ) → k < n → v < 2 ^ k → golomb_string (n - k) k v ≡ at 1000 false ∷ number_string k v
golomb_close n k v h a = let e : n - k ≡ suc (n - suc k) = omega arith in rw e (golomb_low (n - suc k) k v a)

pub doubled : (k : ℕ) → 2 ^ (k + 1) ≡ 2 ^ k + 2 ^ k
doubled k = let o : k + 1 ≡ suc k = omega arith in rw o (omega (arith, pow-suc 2 k))

pub minus1_zero : (f o : ℕ) → minus1_string f o 0 ≡ at f false ∷ []
unfolding minus1_string
minus1_zero f o = refl

pub minus1_small : (f o m : ℕ) → 0 < m → m ≤ 13 → minus1_string f o m ≡ at f true ∷ ones_string o 13 (m - 1)
unfolding minus1_string
minus1_small f o zero h k = absurd (omega arith)
minus1_small f o (suc m) h k = let e : nat_lt m 13 ≡ true = grind (arith, nat_tests) in let d : suc m - 1 ≡ m = omega arith in rw (e, append-nil, d) refl

pub minus1_large : (f o m : ℕ) → 13 < m → minus1_string f o m ≡ at f true ∷ (ones_string o 13 (m - 1) ++ golomb_string 13 0 (m - 14))
unfolding minus1_string
minus1_large f o zero k = absurd (omega arith)
minus1_large f o (suc m) k = let e : nat_lt m 13 ≡ false = grind (arith, nat_tests) in let d : suc m - 1 ≡ m = omega arith in let g : suc m - 14 ≡ m - 13 = omega arith in rw (e, d, g) refl

-- ---- strings of elements, by the tests that their writers make

pub whole_without : (inc mode chroma : ℕ) (ac : Bool) → chroma ≡ 0 →
    intra_type_string inc (Whole mode chroma ac) ≡ at (3 + inc) true ∷ at 276 false ∷ at 6 ac ∷ at 7 false ∷ at 9 (mode / 2 == 1) ∷ at 10 (mode % 2 == 1) ∷ []
unfolding intra_type_string
whole_without inc mode zero ac h = refl
whole_without inc mode (suc c) ac h = absurd (omega (arith, h))

pub whole_with : (inc mode chroma : ℕ) (ac : Bool) → 0 < chroma → chroma < 3 →
    intra_type_string inc (Whole mode chroma ac) ≡ at (3 + inc) true ∷ at 276 false ∷ at 6 ac ∷ at 7 true ∷ at 8 (chroma == 2) ∷ at 9 (mode / 2 == 1) ∷ at 10 (mode % 2 == 1) ∷ []
unfolding intra_type_string
whole_with inc mode zero ac h k = absurd (omega (arith, h))
whole_with inc mode (suc zero) ac h k = refl
whole_with inc mode (suc (suc zero)) ac h k = refl
whole_with inc mode (suc (suc (suc c))) ac h k = absurd (omega (arith, k))

pub chroma_mode_zero : (inc mode : ℕ) → mode ≤ 0 → chroma_mode_string inc mode ≡ at (64 + inc) (nat_lt 0 mode) ∷ []
unfolding chroma_mode_string
chroma_mode_zero inc zero h = refl
chroma_mode_zero inc (suc m) h = absurd (omega (arith, h))

pub chroma_mode_more : (inc mode : ℕ) → 0 < mode → mode ≤ 3 → chroma_mode_string inc mode ≡ at (64 + inc) (nat_lt 0 mode) ∷ ones_string 67 2 (mode - 1)
unfolding chroma_mode_string ones_string
chroma_mode_more inc zero h k = absurd (omega (arith, h))
chroma_mode_more inc (suc zero) h k = refl
chroma_mode_more inc (suc (suc zero)) h k = refl
chroma_mode_more inc (suc (suc (suc zero))) h k = refl
chroma_mode_more inc (suc (suc (suc (suc m)))) h k = absurd (omega (arith, k))

pub chroma_pattern_zero : (first second n : ℕ) → n ≤ 0 → chroma_pattern_string first second n ≡ at (77 + first) (nat_lt 0 n) ∷ []
unfolding chroma_pattern_string
chroma_pattern_zero first second zero h = refl
chroma_pattern_zero first second (suc m) h = absurd (omega (arith, h))

pub chroma_pattern_more : (first second n : ℕ) → 0 < n → n ≤ 2 → chroma_pattern_string first second n ≡ at (77 + first) (nat_lt 0 n) ∷ at (81 + second) (nat_lt 1 n) ∷ []
unfolding chroma_pattern_string
chroma_pattern_more first second zero h k = absurd (omega (arith, h))
chroma_pattern_more first second (suc zero) h k = refl
chroma_pattern_more first second (suc (suc zero)) h k = refl
chroma_pattern_more first second (suc (suc (suc n))) h k = absurd (omega (arith, k))

delta_bits : (inc n : ℕ) → n ≤ 6 → string (delta_at inc) [] (unary (suc (suc n))) ≡ at (60 + inc) true ∷ at 62 true ∷ ones_string 63 8 n
unfolding ones_string
delta_bits inc zero h = refl
delta_bits inc (suc zero) h = refl
delta_bits inc (suc (suc zero)) h = refl
delta_bits inc (suc (suc (suc zero))) h = refl
delta_bits inc (suc (suc (suc (suc zero)))) h = refl
delta_bits inc (suc (suc (suc (suc (suc zero))))) h = refl
delta_bits inc (suc (suc (suc (suc (suc (suc zero)))))) h = refl
delta_bits inc (suc (suc (suc (suc (suc (suc (suc n))))))) h = absurd (omega (arith, h))

pub delta_zero : (inc n : ℕ) (d : ℤ) → n ≡ mapped d → n ≡ 0 → qp_delta_string inc d ≡ at (60 + inc) false ∷ []
unfolding qp_delta_string
delta_zero inc n d e h = rw (sym e ∙ h) refl

pub delta_one : (inc n : ℕ) (d : ℤ) → n ≡ mapped d → 0 < n → n ≤ 1 → qp_delta_string inc d ≡ at (60 + inc) true ∷ at 62 (nat_lt 1 n) ∷ []
unfolding qp_delta_string
delta_one inc n d e h k = let o : n ≡ 1 = omega (arith, h, k) in rw (sym e, o) refl

pub delta_more : (inc n : ℕ) (d : ℤ) → n ≡ mapped d → 1 < n → n ≤ 8 → qp_delta_string inc d ≡ at (60 + inc) true ∷ at 62 (nat_lt 1 n) ∷ ones_string 63 8 (n - 2)
unfolding qp_delta_string
delta_more inc n d e h k =
    let s : mapped d ≡ suc (suc (n - 2)) = omega (arith, e, h) in
    let t : nat_lt 1 n ≡ true = grind (arith, nat_tests) in
    rw (s, t) (delta_bits inc (n - 2) (omega (arith, k)))

pub ref_zero : (inc n : ℕ) → n ≡ 0 → ref_index_string inc n ≡ at (54 + inc) false ∷ []
unfolding ref_index_string
ref_zero inc n h = rw h refl

pub ref_one : (inc n : ℕ) → 0 < n → n ≤ 1 → ref_index_string inc n ≡ at (54 + inc) true ∷ at 58 (nat_lt 1 n) ∷ []
unfolding ref_index_string
ref_one inc n h k = let o : n ≡ 1 = omega (arith, h, k) in rw o refl

pub ref_more : (inc n : ℕ) → 1 < n → n ≤ 3 → ref_index_string inc n ≡ at (54 + inc) true ∷ at 58 (nat_lt 1 n) ∷ ones_string 59 3 (n - 2)
unfolding ref_index_string ones_string
ref_more inc zero h k = absurd (omega (arith, h))
ref_more inc (suc zero) h k = absurd (omega (arith, h))
ref_more inc (suc (suc zero)) h k = refl
ref_more inc (suc (suc (suc zero))) h k = refl
ref_more inc (suc (suc (suc (suc n)))) h k = absurd (omega (arith, k))

pub prefix_more : (ctx : ℕ → ℕ) (n v k : ℕ) → k < n → k < v → prefix_string ctx k (n - k) (v - k) ≡ at (ctx k) true ∷ prefix_string ctx (k + 1) (n - (k + 1)) (v - (k + 1))
unfolding prefix_string
prefix_more ctx n v k h j = let e : n - k ≡ suc (n - (k + 1)) = omega arith in let f : v - k ≡ suc (v - (k + 1)) = omega arith in let o : k + 1 ≡ suc k = omega arith in rw (e, f, o) refl

pub prefix_close : (ctx : ℕ → ℕ) (n v k : ℕ) → k < n → v ≤ k → prefix_string ctx k (n - k) (v - k) ≡ at (ctx k) false ∷ []
unfolding prefix_string
prefix_close ctx n v k h j = let e : n - k ≡ suc (n - (k + 1)) = omega arith in let f : v - k ≡ 0 = omega arith in rw (e, f) refl

pub prefix_end : (ctx : ℕ → ℕ) (n v k : ℕ) → n ≤ k → prefix_string ctx k (n - k) (v - k) ≡ []
unfolding prefix_string
prefix_end ctx n v k h = let e : n - k ≡ 0 = omega arith in rw e refl

pub append_two : (xs : List Bin) (a b : Bin) → (xs ++ a ∷ []) ++ b ∷ [] ≡ xs ++ a ∷ b ∷ []
append_two xs a b = append_assoc xs (a ∷ []) (b ∷ [])

suffix_bits : (from mode chroma : ℕ) (ac : Bool) → chroma < 3 →
    suffix_string from (Whole mode chroma ac) ≡ at from true ∷ at 276 false ∷ at (from + 1) ac ∷ (ones_string (from + 2) 2 chroma ++ at (from + 3) (mode / 2 == 1) ∷ at (from + 3) (mode % 2 == 1) ∷ [])
unfolding suffix_string ones_string
suffix_bits from mode zero ac h = refl
suffix_bits from mode (suc zero) ac h = refl
suffix_bits from mode (suc (suc zero)) ac h = refl
suffix_bits from mode (suc (suc (suc c))) ac h = absurd (omega (arith, h))

-- what is appended one after another
pub suffix_whole : (xs : List Bin) (from mode chroma : ℕ) (ac : Bool) → chroma < 3 →
    (((((xs ++ at from true ∷ []) ++ at 276 false ∷ []) ++ at (from + 1) ac ∷ []) ++ ones_string (from + 2) 2 chroma) ++ at (from + 3) (mode / 2 == 1) ∷ []) ++ at (from + 3) (mode % 2 == 1) ∷ []
    ≡ xs ++ suffix_string from (Whole mode chroma ac)
suffix_whole xs from mode chroma ac h = rw (suffix_bits from mode chroma ac h, append_assoc, append_assoc, append_assoc, append_assoc, append_assoc) refl

behind_p : (before bits : List Bool) → string p_at (true ∷ before) bits ≡ string (suffix_at 17) before bits
behind_p before [] = refl
behind_p before (b ∷ bits) = ap (λ (ys : List Bin). at (suffix_at 17 before) b ∷ ys) (behind_p (before ++ b ∷ []) bits)

pub p_intra : (t : IntraType) → p_type_string (PType.Intra t) ≡ at 14 true ∷ suffix_string 17 t
unfolding p_type_string suffix_string
p_intra t = ap (λ (ys : List Bin). at 14 true ∷ ys) (behind_p [] (type_bits t))

behind_b : (inc : ℕ) (before bits : List Bool) → string (b_at inc) (true ∷ true ∷ true ∷ true ∷ false ∷ true ∷ before) bits ≡ string (suffix_at 32) before bits
behind_b inc before [] = refl
behind_b inc before (b ∷ bits) = ap (λ (ys : List Bin). at (suffix_at 32 before) b ∷ ys) (behind_b inc (before ++ b ∷ []) bits)

pub b_intra : (inc : ℕ) (t : IntraType) → b_type_string inc (BType.Intra t) ≡ at (27 + inc) true ∷ at 30 true ∷ at 31 true ∷ at 32 true ∷ at 32 false ∷ at 32 true ∷ suffix_string 32 t
unfolding b_type_string suffix_string
b_intra inc t = ap (λ (ys : List Bin). at (27 + inc) true ∷ at 30 true ∷ at 31 true ∷ at 32 true ∷ at 32 false ∷ at 32 true ∷ ys) (behind_b inc [] (type_bits t))
