-- How payloads end, and how long their units are.
use Rattle.std.proofs.Common.{ℕ, suc, ◌+◌, ◌-◌, ◌*◌, ◌%◌, ◌≡◌, ◌≤◌, ◌<◌, List, [], ◌∷◌, ◌++◌, length, take, drop, get_or, replicate, All, Bool, true, false, cond, refl, ap, sym, ◌∙◌, subst, arith, append_assoc, length-append, min, lit<}
use Rattle.std.specs.Prelude.{◌&&◌, nat_le}
use Rattle.std.proofs.lemmas.Grind.{common_steps}
use Rattle.std.proofs.lemmas.Bool.Decides.{nat_tests}
use Rattle.spec_bits.specs.Bits.{digits, value, digit, bytes_of_bits, IsByte}
use Rattle.spec_bits.specs.Golomb.{trail_bits}
use Rattle.spec_bits.specs.Units.{escape, zeros_after, header_byte, start_code, unit_bytes, EndsWell}
use Rattle.spec_headers.specs.HeadFields.{sequence_payload, picture_payload}
use Rattle.spec_film.specs.declared.FilmHead.{FilmHead}
use Rattle.spec_film.specs.Films.{Planes}
use Rattle.spec_stream.specs.Stored.{stored_picture, stored_sequence, stored_slice_bits, mbs_across, mbs_down}
use Rattle.std.proofs.lemmas.List.Elements.{All-nil, All-cons, All-head, All-tail, All-append}
use Rattle.spec_bits.proofs.Digits.{value-append, value-digits, bytes_of_bits-behind, bits_of_bytes-bytes_of_bits, bytes_of_bits-are_bytes, length-digits}

-- whole bytes, and then eight bits
pub bytes_then : (bits eight : List Bool) → length bits % 8 ≡ 0 → bytes_of_bits (bits ++ eight) ≡ bytes_of_bits bits ++ bytes_of_bits eight
bytes_then bits eight whole =
    ap (λ bs. bytes_of_bits (bs ++ eight)) (sym (bits_of_bytes-bytes_of_bits bits whole))
    ∙ bytes_of_bits-behind (bytes_of_bits bits) eight (bytes_of_bits-are_bytes bits)

eight_bits : (bits : List Bool) → length bits ≡ 8 → bytes_of_bits bits ≡ value 0 bits ∷ []
unfolding bytes_of_bits
eight_bits (a ∷ b ∷ c ∷ d ∷ e ∷ f ∷ g ∷ h ∷ []) len = refl
eight_bits bits len = absurd (omega arith)

ends_in : (bytes : List ℕ) (b : ℕ) → 0 < b → EndsWell (bytes ++ b ∷ [])
ends_in bytes b some = record { last = subst (λ n. 0 < n) (sym (is bytes)) some }
  where
    is : (bytes : List ℕ) → get_or (bytes ++ b ∷ []) (length (bytes ++ b ∷ []) - 1) 1 ≡ b
    is bytes = grind (arith, common_steps)

-- a payload whose last byte is 1000 0000
pub ends_in_128 : (bits : List Bool) → length bits % 8 ≡ 0 → EndsWell (bytes_of_bits (bits ++ digits 8 128))
ends_in_128 bits whole =
    subst EndsWell (sym (bytes_then bits (digits 8 128) whole ∙ ap (λ bs. bytes_of_bits bits ++ bs) (eight_bits (digits 8 128) (length-digits 8 128)))) (ends_in (bytes_of_bits bits) (value 0 (digits 8 128)) last)
  where
    last : 0 < value 0 (digits 8 128)
    last = let e : value 0 (digits 8 128) ≡ 128 = value-digits 8 128 0 in subst (λ n. 0 < n) (sym e) (lit< tt)

value_grows : (ws : List Bool) (x : ℕ) → x ≤ value x ws
value_grows [] x = omega arith
value_grows (b ∷ ws) x = omega (arith, value_grows ws (2 * x + digit b))

-- a one among the bits
value_some : (xs ws : List Bool) → 0 < value 0 (xs ++ (true ∷ ws))
value_some xs ws = subst (λ n. 0 < n) (sym (value-append xs (true ∷ ws) 0)) (omega (arith, value_grows ws (2 * value 0 xs + 1)))

-- a payload with trailing bits
pub ends_in_trail : (bits : List Bool) → EndsWell (bytes_of_bits (bits ++ trail_bits (length bits)))
unfolding trail_bits
ends_in_trail bits = subst EndsWell (sym is) (ends_in (bytes_of_bits front) (value 0 (back ++ (true ∷ zeros))) (value_some back zeros))
  where
    n : ℕ
    n = length bits

    k : ℕ
    k = n % 8

    front : List Bool
    front = take (n - k) bits

    back : List Bool
    back = drop (n - k) bits

    zeros : List Bool
    zeros = replicate (7 - k) false

    both : (m : ℕ) (xs : List Bool) → xs ≡ take m xs ++ drop m xs
    both m xs = grind (arith, common_steps)

    front_len : (m : ℕ) (xs : List Bool) → m ≤ length xs → length (take m xs) ≡ m
    front_len m xs h = grind (arith, common_steps)

    back_len : (m : ℕ) (xs : List Bool) → m ≤ length xs → length (drop m xs) ≡ length xs - m
    back_len m xs h = grind (arith, common_steps)

    zeros_len : (m : ℕ) → length (replicate m false) ≡ m
    zeros_len m = grind (arith, common_steps)

    whole : length front % 8 ≡ 0
    whole = ap (λ m. m % 8) (front_len (n - k) bits (omega arith)) ∙ rest n
      where
        rest : (n : ℕ) → (n - n % 8) % 8 ≡ 0
        rest n = omega arith

    eight : length (back ++ (true ∷ zeros)) ≡ 8
    eight = length-append back (true ∷ zeros) ∙ sums (length back) (length zeros) (back_len (n - k) bits (omega arith)) (zeros_len (7 - k))
      where
        sums : (a b : ℕ) → a ≡ n - (n - k) → b ≡ 7 - k → a + suc b ≡ 8
        sums a b e f = omega arith

    is : bytes_of_bits (bits ++ (true ∷ zeros)) ≡ bytes_of_bits front ++ (value 0 (back ++ (true ∷ zeros)) ∷ [])
    is = ap (λ bs. bytes_of_bits (bs ++ (true ∷ zeros))) (both (n - k) bits) ∙ ap bytes_of_bits (append_assoc front back (true ∷ zeros))
        ∙ bytes_then front (back ++ (true ∷ zeros)) whole ∙ ap (λ bs. bytes_of_bits front ++ bs) (eight_bits (back ++ (true ∷ zeros)) eight)

-- at most one byte 03 for two bytes of the payload
pub length-escape : (before : ℕ) (bytes : List ℕ) → 2 * length (escape before bytes) ≤ 3 * length bytes + min before 2
unfolding escape
length-escape before [] = omega arith
length-escape before (b ∷ bytes) = go (nat_le 2 before && nat_le b 3) refl (length-escape (zeros_after 0 b) bytes) (length-escape (zeros_after before b) bytes)
  where
    go : (put : Bool) → (nat_le 2 before && nat_le b 3) ≡ put
        → 2 * length (escape (zeros_after 0 b) bytes) ≤ 3 * length bytes + min (zeros_after 0 b) 2
        → 2 * length (escape (zeros_after before b) bytes) ≤ 3 * length bytes + min (zeros_after before b) 2
        → 2 * length (cond put (3 ∷ b ∷ escape (zeros_after 0 b) bytes) (b ∷ escape (zeros_after before b) bytes)) ≤ 3 * length (b ∷ bytes) + min before 2
    go true is h k = grind (arith, nat_tests)
    go false is h k = grind (arith, nat_tests)

-- a byte 03 is a byte
escape_bytes : (before : ℕ) (bytes : List ℕ) → All IsByte bytes → All IsByte (escape before bytes)
unfolding escape
escape_bytes before [] small = All-nil IsByte
escape_bytes before (b ∷ bytes) small = go (nat_le 2 before && nat_le b 3) (escape_bytes (zeros_after 0 b) bytes (All-tail IsByte b bytes small)) (escape_bytes (zeros_after before b) bytes (All-tail IsByte b bytes small))
  where
    go : (put : Bool) → All IsByte (escape (zeros_after 0 b) bytes) → All IsByte (escape (zeros_after before b) bytes)
        → All IsByte (cond put (3 ∷ b ∷ escape (zeros_after 0 b) bytes) (b ∷ escape (zeros_after before b) bytes))
    go true h k = All-cons IsByte 3 (b ∷ escape (zeros_after 0 b) bytes) (lit< tt) (All-cons IsByte b (escape (zeros_after 0 b) bytes) (All-head IsByte b bytes small) h)
    go false h k = All-cons IsByte b (escape (zeros_after before b) bytes) (All-head IsByte b bytes small) k

pub unit_bytes-are_bytes : (long : Bool) (ref_idc kind : ℕ) (payload : List ℕ) → header_byte ref_idc kind < 256 → All IsByte payload → All IsByte (unit_bytes long ref_idc kind payload)
unfolding unit_bytes
unit_bytes-are_bytes long ref_idc kind payload header small = All-append IsByte (start_code long) (header_byte ref_idc kind ∷ escape 0 payload) (start long) (All-cons IsByte (header_byte ref_idc kind) (escape 0 payload) header (escape_bytes 0 payload small))
  where
    start : (long : Bool) → All IsByte (start_code long)
    start true = All-cons IsByte 0 (0 ∷ 0 ∷ 1 ∷ []) (lit< tt) (All-cons IsByte 0 (0 ∷ 1 ∷ []) (lit< tt) (All-cons IsByte 0 (1 ∷ []) (lit< tt) (All-cons IsByte 1 [] (lit< tt) (All-nil IsByte))))
    start false = All-cons IsByte 0 (0 ∷ 1 ∷ []) (lit< tt) (All-cons IsByte 0 (1 ∷ []) (lit< tt) (All-cons IsByte 1 [] (lit< tt) (All-nil IsByte)))

-- an access unit is bytes
pub stored_picture-are_bytes : (h : FilmHead) (number : ℕ) (p : Planes) → All IsByte (stored_picture h number p)
unfolding stored_picture sequence_payload picture_payload
stored_picture-are_bytes h number p =
    All-append IsByte _ _ (unit_bytes-are_bytes true 3 7 (sequence_payload (stored_sequence h)) (lit< tt) (bytes_of_bits-are_bytes _))
    (All-append IsByte _ _ (unit_bytes-are_bytes true 3 8 (picture_payload false false) (lit< tt) (bytes_of_bits-are_bytes _))
    (unit_bytes-are_bytes false 3 5 (bytes_of_bits (stored_slice_bits (mbs_across h) (mbs_down h) number p)) (lit< tt) (bytes_of_bits-are_bytes _)))
