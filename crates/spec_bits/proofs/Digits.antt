-- Laws of digits, and of bytes as bits.
use Rattle.std.proofs.Common.{ℕ, zero, suc, ◌≡◌, ◌+◌, ◌*◌, ◌^◌, ◌/◌, ◌%◌, ◌<◌, ◌==◌, Bool, true, false, List, [], ◌∷◌, ◌++◌, length, take, refl, sym, ap, ap₂, ◌∙◌, arith, pow-suc, pow_pos, length-append, append-nil, mod-eq_of_lt}
use Rattle.std.specs.List.{All}
use Rattle.std.proofs.lemmas.Nat.{shr_high, shr_split, shr_below, mod_below, shr-shr, mod-pow-add}
use Rattle.std.proofs.lemmas.Bool.Decides.{nat_tests}
use Rattle.std.proofs.lemmas.List.Elements.{All-nil, All-cons, All-head, All-tail}
use Rattle.std.proofs.lemmas.List.Concat.{flat_map-append}
use Rattle.spec_bits.specs.Bits.{value, digit, digits, bits_of_bytes, bytes_of_bits, IsByte}

pub length-digits : (n v : ℕ) → length (digits n v) ≡ n
unfolding digits
length-digits zero v = refl
length-digits (suc n) v = ap suc (length-digits n v)

digit-parity : (m : ℕ) → digit ((m % 2) == 1) ≡ m % 2
digit-parity m = grind (arith, nat_tests)

one-add : (n : ℕ) → 1 + n ≡ suc n
one-add n = omega arith

mod-suc_pow : (v n : ℕ) → v % 2 ^ suc n ≡ v / 2 ^ n % 2 * 2 ^ n + v % 2 ^ n
mod-suc_pow v n = ap (λ k. v % 2 ^ k) (sym (one-add n)) ∙ mod-pow-add v 1 n

-- the digits of a number write its low part
pub value-digits : (n v x : ℕ) → value x (digits n v) ≡ x * 2 ^ n + v % 2 ^ n
unfolding digits
value-digits zero v x = omega arith
value-digits (suc n) v x =
    value-digits n v (2 * x + digit ((v / 2 ^ n % 2) == 1))
    ∙ rw (digit-parity (v / 2 ^ n), mod-suc_pow v n, pow-suc 2 n) (omega arith)

pub value-append : (xs ys : List Bool) (x : ℕ) → value x (xs ++ ys) ≡ value (value x xs) ys
value-append [] ys x = refl
value-append (b ∷ xs) ys x = value-append xs ys (2 * x + digit b)

pub value-shift : (ws : List Bool) (x : ℕ) → value x ws ≡ x * 2 ^ length ws + value 0 ws
value-shift [] x = omega arith
value-shift (b ∷ ws) x =
    value-shift ws (2 * x + digit b) ∙ rw (value-shift ws (2 * 0 + digit b), pow-suc 2 (length ws)) (omega arith)

pub value-below : (ws : List Bool) → value 0 ws < 2 ^ length ws
value-below [] = omega arith
value-below (true ∷ ws) = rw (value-shift ws 1, pow-suc 2 (length ws)) (omega (arith, value-below ws))
value-below (false ∷ ws) = rw (pow-suc 2 (length ws)) (omega (arith, value-below ws))

digit-odd : (b : Bool) (x : ℕ) → (((2 * x + digit b) % 2) == 1) ≡ b
digit-odd true x = let e : (2 * x + 1) % 2 ≡ 1 = omega arith in rw e
digit-odd false x = let e : (2 * x + 0) % 2 ≡ 0 = omega arith in rw e

pub digits-value : (ws : List Bool) (x : ℕ) → digits (length ws) (value x ws) ≡ ws
unfolding digits
digits-value [] x = refl
digits-value (b ∷ ws) x =
    let v : value (2 * x + digit b) ws / 2 ^ length ws ≡ 2 * x + digit b =
    ap (λ n. n / 2 ^ length ws) (value-shift ws (2 * x + digit b)) ∙ shr_high (2 * x + digit b) (length ws) (value 0 ws) (value-below ws) in
    ap₂ (λ h t. h ∷ t) (ap (λ n. (n % 2) == 1) v ∙ digit-odd b x) (digits-value ws (2 * x + digit b))

pub digits-append : (n m a b : ℕ) → a < 2 ^ n → b < 2 ^ m → digits (n + m) (a * 2 ^ m + b) ≡ digits n a ++ digits m b
digits-append n m a b h k =
    let w : List Bool = digits n a ++ digits m b in
    let l : length w ≡ n + m = length-append (digits n a) (digits m b) ∙ ap₂ (λ x y. x + y) (length-digits n a) (length-digits m b) in
    let u : value 0 (digits n a) ≡ a = value-digits n a 0 ∙ omega (arith, mod-eq_of_lt h) in
    let v : value 0 w ≡ a * 2 ^ m + b =
    value-append (digits n a) (digits m b) 0 ∙ ap (λ x. value x (digits m b)) u ∙ value-digits m b a ∙ ap (λ x. a * 2 ^ m + x) (mod-eq_of_lt k) in
    ap₂ (λ x y. digits x y) (sym l) (sym v) ∙ digits-value w 0

-- the high digits, and the m low ones
pub digits-split : (n m v : ℕ) → v < 2 ^ (n + m) → digits (n + m) v ≡ digits n (v / 2 ^ m) ++ digits m (v % 2 ^ m)
digits-split n m v h =
    ap (λ w. digits (n + m) w) (sym (shr_split v m))
    ∙ digits-append n m (v / 2 ^ m) (v % 2 ^ m) (shr_below v n m h) (mod_below v (2 ^ m) (pow_pos m))

pub take-digits : (k m v : ℕ) → take k (digits (k + m) v) ≡ digits k (v / 2 ^ m)
unfolding digits
take-digits zero m v = refl
take-digits (suc k) m v =
    let e : suc k + m ≡ suc (k + m) = omega arith in
    let f : k + m ≡ m + k = omega arith in
    let h : v / 2 ^ (k + m) ≡ v / 2 ^ m / 2 ^ k = ap (λ n. v / 2 ^ n) f ∙ sym (shr-shr v m k) in
    ap (λ n. take (suc k) (digits n v)) e ∙ ap₂ (λ x t. ((x % 2) == 1) ∷ t) h (take-digits k m v)

-- ---- bytes

pub bits_of_bytes-append : (xs ys : List ℕ) → bits_of_bytes (xs ++ ys) ≡ bits_of_bytes xs ++ bits_of_bytes ys
unfolding bits_of_bytes
bits_of_bytes-append xs ys = flat_map-append (digits 8) xs ys

pub bits_of_bytes-none : bits_of_bytes [] ≡ []
unfolding bits_of_bytes
bits_of_bytes-none = refl

pub bits_of_bytes-cons : (x : ℕ) (xs : List ℕ) → bits_of_bytes (x ∷ xs) ≡ digits 8 x ++ bits_of_bytes xs
unfolding bits_of_bytes
bits_of_bytes-cons x xs = refl

pub bits_of_bytes-one : (x : ℕ) → bits_of_bytes (x ∷ []) ≡ digits 8 x
bits_of_bytes-one x = bits_of_bytes-cons x [] ∙ ap (λ t. digits 8 x ++ t) bits_of_bytes-none ∙ append-nil (digits 8 x)

pub bits_of_bytes-push : (xs : List ℕ) (x : ℕ) → bits_of_bytes (xs ++ x ∷ []) ≡ bits_of_bytes xs ++ digits 8 x
bits_of_bytes-push xs x = bits_of_bytes-append xs (x ∷ []) ∙ ap (λ t. bits_of_bytes xs ++ t) (bits_of_bytes-one x)

pub length-bits_of_bytes : (xs : List ℕ) → length (bits_of_bytes xs) ≡ 8 * length xs
unfolding bits_of_bytes
length-bits_of_bytes [] = refl
length-bits_of_bytes (x ∷ xs) = length-append (digits 8 x) (bits_of_bytes xs) ∙ omega (arith, length-digits 8 x, length-bits_of_bytes xs)

-- whole bytes in front, and bits behind them
pub bytes_of_bits-behind : (xs : List ℕ) (rest : List Bool) → All IsByte xs → bytes_of_bits (bits_of_bytes xs ++ rest) ≡ xs ++ bytes_of_bits rest
unfolding bits_of_bytes bytes_of_bits digits
bytes_of_bits-behind [] rest h = refl
bytes_of_bits-behind (x ∷ xs) rest h =
    let v : value 0 (digits 8 x) ≡ x = value-digits 8 x 0 ∙ (let s : x < 256 = All-head IsByte x xs h in omega (arith, mod-eq_of_lt s)) in
    ap₂ (λ b bs. b ∷ bs) v (bytes_of_bits-behind xs rest (All-tail IsByte x xs h))

pub bytes_of_bits-bits_of_bytes : (xs : List ℕ) → All IsByte xs → bytes_of_bits (bits_of_bytes xs) ≡ xs
unfolding bytes_of_bits
bytes_of_bits-bits_of_bytes xs h =
    ap bytes_of_bits (sym (append-nil (bits_of_bytes xs))) ∙ bytes_of_bits-behind xs [] h ∙ append-nil xs

pub bits_of_bytes-bytes_of_bits : (bits : List Bool) → length bits % 8 ≡ 0 → bits_of_bytes (bytes_of_bits bits) ≡ bits
unfolding bytes_of_bits bits_of_bytes
bits_of_bytes-bytes_of_bits [] h = refl
bits_of_bytes-bytes_of_bits (a ∷ []) h = absurd (omega arith)
bits_of_bytes-bytes_of_bits (a ∷ b ∷ []) h = absurd (omega arith)
bits_of_bytes-bytes_of_bits (a ∷ b ∷ c ∷ []) h = absurd (omega arith)
bits_of_bytes-bytes_of_bits (a ∷ b ∷ c ∷ d ∷ []) h = absurd (omega arith)
bits_of_bytes-bytes_of_bits (a ∷ b ∷ c ∷ d ∷ e ∷ []) h = absurd (omega arith)
bits_of_bytes-bytes_of_bits (a ∷ b ∷ c ∷ d ∷ e ∷ f ∷ []) h = absurd (omega arith)
bits_of_bytes-bytes_of_bits (a ∷ b ∷ c ∷ d ∷ e ∷ f ∷ g ∷ []) h = absurd (omega arith)
bits_of_bytes-bytes_of_bits (a ∷ b ∷ c ∷ d ∷ e ∷ f ∷ g ∷ k ∷ rest) h =
    let less : length rest % 8 ≡ 0 = omega arith in
    ap₂ (λ x y. x ++ y) (digits-value (a ∷ b ∷ c ∷ d ∷ e ∷ f ∷ g ∷ k ∷ []) 0) (bits_of_bytes-bytes_of_bits rest less)

pub bytes_of_bits-are_bytes : (bits : List Bool) → All IsByte (bytes_of_bits bits)
unfolding bytes_of_bits
bytes_of_bits-are_bytes [] = All-nil IsByte
bytes_of_bits-are_bytes (a ∷ []) = All-nil IsByte
bytes_of_bits-are_bytes (a ∷ b ∷ []) = All-nil IsByte
bytes_of_bits-are_bytes (a ∷ b ∷ c ∷ []) = All-nil IsByte
bytes_of_bits-are_bytes (a ∷ b ∷ c ∷ d ∷ []) = All-nil IsByte
bytes_of_bits-are_bytes (a ∷ b ∷ c ∷ d ∷ e ∷ []) = All-nil IsByte
bytes_of_bits-are_bytes (a ∷ b ∷ c ∷ d ∷ e ∷ f ∷ []) = All-nil IsByte
bytes_of_bits-are_bytes (a ∷ b ∷ c ∷ d ∷ e ∷ f ∷ g ∷ []) = All-nil IsByte
bytes_of_bits-are_bytes (a ∷ b ∷ c ∷ d ∷ e ∷ f ∷ g ∷ k ∷ rest) = All-cons IsByte _ _ (value-below (a ∷ b ∷ c ∷ d ∷ e ∷ f ∷ g ∷ k ∷ [])) (bytes_of_bits-are_bytes rest)

pub length-bytes_of_bits : (bits : List Bool) → length bits % 8 ≡ 0 → 8 * length (bytes_of_bits bits) ≡ length bits
length-bytes_of_bits bits h = sym (length-bits_of_bytes (bytes_of_bits bits)) ∙ ap length (bits_of_bytes-bytes_of_bits bits h)

-- bytes are known by their bits
pub bytes_by_bits : (xs : List ℕ) (bits : List Bool) → All IsByte xs → bits_of_bytes xs ≡ bits → xs ≡ bytes_of_bits bits
bytes_by_bits xs bits h e = sym (bytes_of_bits-bits_of_bytes xs h) ∙ ap bytes_of_bits e
