-- Payloads: how they end, and how long they are with their 03 bytes.
use Rattle.std.proofs.Common.{ℕ, zero, suc, ◌≡◌, ◌+◌, ◌-◌, ◌*◌, ◌%◌, ◌<◌, ◌≤◌, Bool, true, false, List, [], ◌∷◌, ◌++◌, length, get_or, refl, sym, ap, subst, ◌∙◌, arith, length-append}
use Rattle.std.specs.Prelude.{nat_le, ◌&&◌, ◌==◌, replicate}
use Rattle.std.specs.List.{All}
use Rattle.std.proofs.lemmas.Bool.Decides.{nat_tests}
use Rattle.std.proofs.lemmas.List.{get_or_at, length-replicate}
use Rattle.std.proofs.lemmas.List.Elements.{All-nil, All-cons, All-head, All-tail}
use Rattle.spec_bits.specs.Bits.{value, bytes_of_bits, IsByte}
use Rattle.spec_bits.specs.Golomb.{trail_bits}
use Rattle.spec_bits.specs.Units.{escape, zeros_after, start_code, header_byte, unit_bytes, filler_unit, filler_payload, EndsWell, Nal, IsNal, written}
use Rattle.spec_bits.proofs.Escapes.{escape-none, escape-put, escape-keep, escape-filler}

last_of : List ℕ → ℕ
last_of bytes = get_or bytes (length bytes - 1) 0

last_cons : (x : ℕ) (ys : List ℕ) → 0 < last_of ys → 0 < last_of (x ∷ ys)
unfolding last_of
last_cons x [] h = absurd (omega arith)
last_cons x (y ∷ ys) h =
    let e : suc (suc (length ys)) - 1 ≡ suc (suc (length ys) - 1) = omega arith in
    subst (λ i. 0 < get_or (x ∷ y ∷ ys) i 0) (sym e) h

other_default : (ys : List ℕ) (i : ℕ) → 0 < get_or ys i 0 → 0 < get_or ys i 1
other_default [] i h = omega arith
other_default (y ∷ ys) zero h = h
other_default (y ∷ ys) (suc i) h = other_default ys i h

trail_more : (n : ℕ) → trail_bits (suc (suc (suc (suc (suc (suc (suc (suc n)))))))) ≡ trail_bits n
unfolding trail_bits
trail_more n = let e : suc (suc (suc (suc (suc (suc (suc (suc n))))))) % 8 ≡ n % 8 = omega arith in rw e refl

trail_last : (bits : List Bool) → 0 < last_of (bytes_of_bits (bits ++ trail_bits (length bits)))
unfolding bytes_of_bits trail_bits last_of
trail_last [] = omega arith
trail_last (a ∷ []) = omega arith
trail_last (a ∷ b ∷ []) = omega arith
trail_last (a ∷ b ∷ c ∷ []) = omega arith
trail_last (a ∷ b ∷ c ∷ d ∷ []) = omega arith
trail_last (a ∷ b ∷ c ∷ d ∷ e ∷ []) = omega arith
trail_last (a ∷ b ∷ c ∷ d ∷ e ∷ f ∷ []) = omega arith
trail_last (a ∷ b ∷ c ∷ d ∷ e ∷ f ∷ g ∷ []) = omega arith
trail_last (a ∷ b ∷ c ∷ d ∷ e ∷ f ∷ g ∷ h ∷ bits) =
    let x : ℕ = value 0 (a ∷ b ∷ c ∷ d ∷ e ∷ f ∷ g ∷ h ∷ []) in
    subst (λ t. 0 < last_of (x ∷ bytes_of_bits (bits ++ t))) (sym (trail_more (length bits))) (last_cons x (bytes_of_bits (bits ++ trail_bits (length bits))) (trail_last bits))

-- trailing bits see to it that the last byte isn't 00
pub trail_ends_well : (bits : List Bool) → EndsWell (bytes_of_bits (bits ++ trail_bits (length bits)))
unfolding last_of
trail_ends_well bits = record { last = other_default (bytes_of_bits (bits ++ trail_bits (length bits))) _ (trail_last bits) }

pub push_ends_well : (bytes : List ℕ) (b : ℕ) → 0 < b → EndsWell (bytes ++ b ∷ [])
push_ends_well bytes b h =
    let e : length (bytes ++ b ∷ []) - 1 ≡ length bytes = omega (arith, length-append bytes (b ∷ [])) in
    record { last = subst (λ i. 0 < get_or (bytes ++ b ∷ []) i 1) (sym e) (subst (λ x. 0 < x) (sym (get_or_at bytes b [] 1 (length bytes) refl)) h) }

-- at most one byte 03 is put in for two bytes
two_thirds : (before : ℕ) (bytes : List ℕ) → 2 * length (escape before bytes) ≤ 3 * length bytes + before
two_thirds before [] = omega (arith, ap length (escape-none before))
two_thirds before (b ∷ bytes) = go (nat_le 2 before && nat_le b 3) refl (λ z. two_thirds z bytes)
  where
    after : (z b : ℕ) → zeros_after z b ≤ z + 1
    after z zero = omega arith
    after z (suc n) = let e : (suc n == 0) ≡ false = grind (arith, nat_tests) in rw e (omega arith)

    two : (p q : Bool) → nat_le 2 before ≡ p → (p && q) ≡ true → 2 ≤ before
    two true q w h = grind (arith, nat_tests)
    two false q w h = absurd cc

    go : (t : Bool) → (nat_le 2 before && nat_le b 3) ≡ t → ((z : ℕ) → 2 * length (escape z bytes) ≤ 3 * length bytes + z) → 2 * length (escape before (b ∷ bytes)) ≤ 3 * suc (length bytes) + before
    go true t ih =
        let e = ap length (escape-put before b bytes t ∙ ap (λ l. 3 ∷ l) (escape-keep 0 b bytes refl)) in
        omega (arith, e, ih (zeros_after 0 b), after 0 b, two (nat_le 2 before) (nat_le b 3) refl t)
    go false t ih =
        let e = ap length (escape-keep before b bytes t) in
        omega (arith, e, ih (zeros_after before b), after before b)

pub length-escape : (bytes : List ℕ) → 2 * length (escape 0 bytes) ≤ 3 * length bytes
length-escape bytes = omega (arith, two_thirds 0 bytes)

pub length-escape_least : (before : ℕ) (bytes : List ℕ) → length bytes ≤ length (escape before bytes)
length-escape_least before [] = omega arith
length-escape_least before (b ∷ bytes) = go (nat_le 2 before && nat_le b 3) refl (λ z. length-escape_least z bytes)
  where
    go : (t : Bool) → (nat_le 2 before && nat_le b 3) ≡ t → ((z : ℕ) → length bytes ≤ length (escape z bytes)) → suc (length bytes) ≤ length (escape before (b ∷ bytes))
    go true t ih = omega (arith, ap length (escape-put before b bytes t ∙ ap (λ l. 3 ∷ l) (escape-keep 0 b bytes refl)), ih (zeros_after 0 b))
    go false t ih = omega (arith, ap length (escape-keep before b bytes t), ih (zeros_after before b))

pub escape-are_bytes : (before : ℕ) (bytes : List ℕ) → All IsByte bytes → All IsByte (escape before bytes)
escape-are_bytes before [] h = subst (λ l. All IsByte l) (sym (escape-none before)) (All-nil IsByte)
escape-are_bytes before (b ∷ bytes) h = go (nat_le 2 before && nat_le b 3) refl (All-head IsByte b bytes h) (λ z. escape-are_bytes z bytes (All-tail IsByte b bytes h))
  where
    go : (t : Bool) → (nat_le 2 before && nat_le b 3) ≡ t → IsByte b → ((z : ℕ) → All IsByte (escape z bytes)) → All IsByte (escape before (b ∷ bytes))
    go true t x ih = subst (λ l. All IsByte l) (sym (escape-put before b bytes t ∙ ap (λ l. 3 ∷ l) (escape-keep 0 b bytes refl))) (All-cons IsByte 3 (b ∷ escape (zeros_after 0 b) bytes) (omega arith) (All-cons IsByte b (escape (zeros_after 0 b) bytes) x (ih (zeros_after 0 b))))
    go false t x ih = subst (λ l. All IsByte l) (sym (escape-keep before b bytes t)) (All-cons IsByte b (escape (zeros_after before b) bytes) x (ih (zeros_after before b)))

start-are_bytes : (long : Bool) (rest : List ℕ) → All IsByte rest → All IsByte (start_code long ++ rest)
start-are_bytes false rest h = All-cons IsByte 0 (0 ∷ 1 ∷ rest) (omega arith) (All-cons IsByte 0 (1 ∷ rest) (omega arith) (All-cons IsByte 1 rest (omega arith) h))
start-are_bytes true rest h = All-cons IsByte 0 (0 ∷ 0 ∷ 1 ∷ rest) (omega arith) (All-cons IsByte 0 (0 ∷ 1 ∷ rest) (omega arith) (All-cons IsByte 0 (1 ∷ rest) (omega arith) (All-cons IsByte 1 rest (omega arith) h)))

pub unit_bytes-are_bytes : (long : Bool) (ref_idc kind : ℕ) (payload : List ℕ) → ref_idc ≤ 3 → kind ≤ 31 → All IsByte payload → All IsByte (unit_bytes long ref_idc kind payload)
unfolding unit_bytes
unit_bytes-are_bytes long ref_idc kind payload r k h =
    start-are_bytes long (header_byte ref_idc kind ∷ escape 0 payload) (All-cons IsByte (header_byte ref_idc kind) (escape 0 payload) (omega arith) (escape-are_bytes 0 payload h))

pub length-filler_unit : (n : ℕ) → 5 ≤ n → length (filler_unit n) ≡ n
unfolding filler_unit unit_bytes
length-filler_unit n h = ap (λ l. suc (suc (suc (suc (length l))))) (escape-filler (n - 5)) ∙ omega (arith, length-append {A = ℕ} (replicate (n - 5) 255) (128 ∷ []), length-replicate {A = ℕ} (n - 5) 255)

-- a filler unit is a unit that can be written
filler_nal : ℕ → Nal
filler_nal n = record { ref_idc = 0; kind = 12; payload = filler_payload n }

pub filler_is_nal : (n : ℕ) → (nal : Nal) × (nal.payload ≡ filler_payload n) × IsNal nal × (filler_unit n ≡ written (false, nal))
unfolding filler_unit filler_nal
filler_is_nal n = (filler_nal n, refl, record { ref_idc = omega arith; kind_from = omega arith; kind_to = omega arith; ends = push_ends_well (replicate (n - 5) 255) 128 (omega arith) }, refl)
