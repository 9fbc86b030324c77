-- Whole bytes and the digits of the byte that is begun.
use Rattle.std.proofs.Common.{ℕ, zero, suc, ◌≡◌, ◌+◌, ◌-◌, ◌*◌, ◌^◌, ◌/◌, ◌%◌, ◌<◌, ◌≤◌, Bool, List, [], ◌∷◌, ◌++◌, length, take, get_or, sym, ap, ap₂, ◌∙◌, arith, length-append, append_assoc, append-nil}
use Rattle.std.proofs.lemmas.List.{take-append-le}
use Rattle.std.specs.Int.Count.{count_leading_zeros}
use Rattle.std.proofs.lemmas.Nat.{leading_top}
use Rattle.std.proofs.Math.Nat.{pow-le-pow_right}
use Rattle.std.proofs.Math.Seq.{take-append-add}
use Rattle.spec_bits.specs.Bits.{digits, bits_of_bytes}
use Rattle.spec_bits.proofs.Digits.{length-digits, digits-append, digits-split, take-digits, bits_of_bytes-none, bits_of_bytes-cons, bits_of_bytes-push, bits_of_bytes-append, length-bits_of_bytes}
use Rattle.spec_bits.proofs.Codes.{digits-none}
use Rattle.bit_strings.specs.BitText.{BitText, filled}

pub same_text : (a b : List Bool) (r r' m m' : ℕ) → a ≡ b → r ≡ r' → m ≡ m' → (let x : BitText = record { text = a; room = r; made = m } in let y : BitText = record { text = b; room = r'; made = m' } in x ≡ y)
same_text a b r r' m m' p q s = cc

-- bits behind those that are there
abbrev pub more : BitText → List Bool → BitText
more t bits = record t { text = t.text ++ bits }

pub two_more : (s t u : BitText) (a b w : List Bool) → t ≡ more s a → u ≡ more t b → w ≡ a ++ b → u ≡ more s w
two_more s t u a b w p q e =
    q ∙ ap (λ x. more x b) p
    ∙ ap (λ bits. let r : BitText = record s { text = bits } in r) (append_assoc s.text a b ∙ ap (λ bits. s.text ++ bits) (sym e))

pub length-filled : (xs : List ℕ) (used begun : ℕ) → length (filled xs used begun) ≡ 8 * length xs + used
unfolding filled
length-filled xs used begun = length-append (bits_of_bytes xs) (digits used begun) ∙ omega (arith, length-bits_of_bytes xs, length-digits used begun)

pub filled-none : filled [] 0 0 ≡ []
unfolding filled
filled-none = ap₂ (λ x y. x ++ y) bits_of_bytes-none (digits-none 0)

-- nothing is begun
pub filled-whole : (xs : List ℕ) (used begun : ℕ) → used ≡ 0 → filled xs used begun ≡ bits_of_bytes xs
unfolding filled
filled-whole xs used begun h = ap (λ n. bits_of_bytes xs ++ digits n begun) h ∙ ap (λ t. bits_of_bytes xs ++ t) (digits-none begun) ∙ append-nil (bits_of_bytes xs)

-- a byte is full
pub filled-push : (xs : List ℕ) (m v : ℕ) → v < 2 ^ (m + 8) → filled (xs ++ (v / 2 ^ m) ∷ []) m (v % 2 ^ m) ≡ filled xs (m + 8) v
unfolding filled
filled-push xs m v h =
    let c : m + 8 ≡ 8 + m = omega arith in
    let k : v < 2 ^ (8 + m) = rw (← c) h in
    ap (λ t. t ++ digits m (v % 2 ^ m)) (bits_of_bytes-push xs (v / 2 ^ m))
    ∙ append_assoc (bits_of_bytes xs) (digits 8 (v / 2 ^ m)) (digits m (v % 2 ^ m))
    ∙ ap (λ t. bits_of_bytes xs ++ t) (sym (ap (λ n. digits n v) c ∙ digits-split 8 m v k))

-- more digits
pub filled-joined : (xs : List ℕ) (used begun n v : ℕ) → begun < 2 ^ used → v < 2 ^ n → filled xs (used + n) (begun * 2 ^ n + v) ≡ filled xs used begun ++ digits n v
unfolding filled
filled-joined xs used begun n v h k =
    ap (λ t. bits_of_bytes xs ++ t) (digits-append used n begun v h k) ∙ sym (append_assoc (bits_of_bytes xs) (digits used begun) (digits n v))

-- more bytes
pub filled-bytes : (xs ys : List ℕ) (used begun : ℕ) → used ≡ 0 → filled (xs ++ ys) used begun ≡ filled xs used begun ++ bits_of_bytes ys
filled-bytes xs ys used begun h =
    filled-whole (xs ++ ys) used begun h ∙ bits_of_bytes-append xs ys ∙ ap (λ t. t ++ bits_of_bytes ys) (sym (filled-whole xs used begun h))

take-byte : (r x : ℕ) → r < 8 → take r (digits 8 x) ≡ digits r (x / 2 ^ (8 - r))
take-byte r x h =
    let e : 8 ≡ r + (8 - r) = omega arith in
    ap (λ n. take r (digits n x)) e ∙ take-digits r (8 - r) x

-- a cut inside the whole bytes
pub cut_inside : (xs : List ℕ) (i r : ℕ) (t : List Bool) → i < length xs → r < 8 →
    take (8 * i + r) (bits_of_bytes xs ++ t) ≡ filled (take i xs) r (get_or xs i 0 / 2 ^ (8 - r))
unfolding filled
cut_inside [] i r t h k = absurd (omega arith)
cut_inside (x ∷ xs) zero r t h k =
    let z : 8 * 0 + r ≡ r = omega arith in
    ap₂ (λ n l. take n (l ++ t)) z (bits_of_bytes-cons x xs)
    ∙ ap (λ l. take r l) (append_assoc (digits 8 x) (bits_of_bytes xs) t)
    ∙ take-append-le r (digits 8 x) (bits_of_bytes xs ++ t) (omega (arith, length-digits 8 x))
    ∙ take-byte r x k
    ∙ sym (ap (λ l. l ++ digits r (x / 2 ^ (8 - r))) bits_of_bytes-none)
cut_inside (x ∷ xs) (suc i) r t h k =
    let z : 8 * suc i + r ≡ length (digits 8 x) + (8 * i + r) = omega (arith, length-digits 8 x) in
    let y : ℕ = get_or xs i 0 / 2 ^ (8 - r) in
    ap₂ (λ n l. take n (l ++ t)) z (bits_of_bytes-cons x xs)
    ∙ ap (λ l. take (length (digits 8 x) + (8 * i + r)) l) (append_assoc (digits 8 x) (bits_of_bytes xs) t)
    ∙ take-append-add (digits 8 x) (bits_of_bytes xs ++ t) (8 * i + r)
    ∙ ap (λ l. digits 8 x ++ l) (cut_inside xs i r t (omega arith) k)
    ∙ sym (append_assoc (digits 8 x) (bits_of_bytes (take i xs)) (digits r y))
    ∙ sym (ap (λ l. l ++ digits r y) (bits_of_bytes-cons x (take i xs)))

-- a cut in the byte that is begun
pub cut_last : (xs : List ℕ) (k m v : ℕ) → take (8 * length xs + k) (filled xs (k + m) v) ≡ filled xs k (v / 2 ^ m)
unfolding filled
cut_last xs k m v =
    let z : 8 * length xs + k ≡ length (bits_of_bytes xs) + k = omega (arith, length-bits_of_bytes xs) in
    ap (λ n. take n (filled xs (k + m) v)) z ∙ take-append-add (bits_of_bytes xs) (digits (k + m) v) k ∙ ap (λ l. bits_of_bytes xs ++ l) (take-digits k m v)

pub cut_whole : (xs : List ℕ) (i r begun used : ℕ) → i < length xs → r < 8 → take (8 * i + r) (filled xs used begun) ≡ filled (take i xs) r (get_or xs i 0 / 2 ^ (8 - r))
unfolding filled
cut_whole xs i r begun used h k = cut_inside xs i r (digits used begun) h k

pub no_text : (bytes : List ℕ) → bytes ≡ [] → filled bytes 0 0 ≡ []
no_text bytes none = ap (λ bs. filled bs 0 0) none ∙ filled-none

pub record Zeros (a z : ℕ) : Type 0 where
  pub few : z < 32
  pub from : 2 ^ z ≤ a
  pub to : a < 2 ^ (z + 1)

-- the digits behind the first
pub zeros_are : (a : ℕ) → 0 < a → a < 2 ^ 32 → Zeros a (63 - count_leading_zeros 64 a)
zeros_are a low high =
    let top = leading_top 64 a low (omega arith) in
    go top.0 top.1 top.2 top.3
  where
    large : (j : ℕ) → (32 ≤ j → ⊥) → j < 32
    large j h = omega (arith, h)

    go : (j : ℕ) → count_leading_zeros 64 a + suc j ≡ 64 → 2 ^ j ≤ a → a < 2 ^ suc j → Zeros a (63 - count_leading_zeros 64 a)
    go j c l h =
        let e : j ≡ 63 - count_leading_zeros 64 a = omega arith in
        let s : suc j ≡ 63 - count_leading_zeros 64 a + 1 = omega arith in
        record {
          few = rw (← e) (large j (λ k. let p : 2 ^ 32 ≤ 2 ^ j = pow-le-pow_right (omega arith) k in omega arith));
          from = rw (← e) l;
          to = rw (← s) h;
        }
