-- Macroblocks of samples are read back from their bits.
use Rattle.std.proofs.Common.{ℕ, zero, suc, ◌+◌, ◌*◌, ◌%◌, ◌≡◌, ◌≤◌, ◌<◌, List, [], ◌∷◌, ◌++◌, length, take, drop, replicate, Bool, true, false, cond, Option, Some, None, refl, ap, ap₂, ◌∙◌, arith, append_assoc, length-append, lit<}
use Rattle.std.specs.Prelude.{not, nat_le, option_and_then}
use Rattle.std.specs.Option.{option_map}
use Rattle.std.specs.List.{list_all, All}
use Rattle.std.proofs.lemmas.Grind.{common_steps}
use Rattle.std.proofs.lemmas.Bool.Decides.{nat_tests}
use Rattle.std.proofs.lemmas.List.Elements.{All-head, All-tail}
use Rattle.spec_bits.specs.Bits.{digits, bits_of_bytes, bytes_of_bits, IsByte}
use Rattle.spec_bits.specs.Golomb.{ue_bits, align_bits, to_byte}
use Rattle.spec_bits.proofs.Digits.{length-digits, length-bits_of_bytes, bytes_of_bits-bits_of_bytes}
use Rattle.spec_reading.specs.Reader.{read, ue}
use Rattle.spec_reading.proofs.Laws.{reads_ue}
use Rattle.spec_stream.specs.Stored.{pcm_bits, pcm_slice_bits}
use Rattle.spec_decoder.specs.Pcm.{aligned, pcm_samples, pcm_typed, pcm_macroblock, is_trailing, pcm_macroblocks}
use Rattle.spec_stream.proofs.StoredLaws.{ue_25, length-pcm_bits, pcm_bits-whole}

-- the samples of a macroblock: 384 bytes
pub record IsMacroblock (m : List ℕ) : Type 0 where
  pub size : length m ≡ 384
  pub bytes : All IsByte m

-- zeros, and what follows them
pub all_zeros : (n : ℕ) → list_all not (replicate n false) ≡ true
all_zeros zero = refl
all_zeros (suc n) = all_zeros n

take_front : (n : ℕ) (xs ys : List Bool) → length xs ≡ n → take n (xs ++ ys) ≡ xs
take_front n xs ys h = grind (arith, common_steps)

drop_front : (n : ℕ) (xs ys : List Bool) → length xs ≡ n → drop n (xs ++ ys) ≡ ys
drop_front n xs ys h = grind (arith, common_steps)

zeros_long : (n : ℕ) → length (replicate n false) ≡ n
zeros_long n = grind (arith, common_steps)

aligned_zeros : (n : ℕ) (rest : List Bool) → length (replicate n false ++ rest) % 8 ≡ n → aligned (replicate n false ++ rest) ≡ Some rest
aligned_zeros n rest h =
    ap (λ k. cond (list_all not (take k (replicate n false ++ rest))) (Some (drop k (replicate n false ++ rest))) None) h
    ∙ ap₂ (λ b (xs : List Bool). cond b (Some xs) None) (ap (λ xs. list_all not xs) (take_front n (replicate n false) rest (zeros_long n)) ∙ all_zeros n) (drop_front n (replicate n false) rest (zeros_long n))

-- so many bits are there
counted : (n : ℕ) (xs ys : List Bool) → length xs ≡ n
    → cond {A = Option (List ℕ × List Bool)} (nat_le n (length (xs ++ ys))) (Some (bytes_of_bits (take n (xs ++ ys)), drop n (xs ++ ys))) None ≡ Some (bytes_of_bits xs, ys)
counted n xs ys h =
    ap (λ b. cond {A = Option (List ℕ × List Bool)} b (Some (bytes_of_bits (take n (xs ++ ys)), drop n (xs ++ ys))) None) enough
    ∙ ap₂ (λ a b. let p : List ℕ × List Bool = (bytes_of_bits a, b) in Some p) (take_front n xs ys h) (drop_front n xs ys h)
  where
    test : (m : ℕ) → n ≤ m → nat_le n m ≡ true
    test m h = grind (arith, nat_tests)

    enough : nat_le n (length (xs ++ ys)) ≡ true
    enough = test (length (xs ++ ys)) (omega (arith, length-append xs ys))

samples_back : (m : List ℕ) (rest : List Bool) → IsMacroblock m → pcm_samples (bits_of_bytes m ++ rest) ≡ Some (m, rest)
samples_back m rest is =
    counted 3072 (bits_of_bytes m) rest (length-bits_of_bytes m ∙ ap (λ n. 8 * n) is.size)
    ∙ ap (λ xs. let p : List ℕ × List Bool = (xs, rest) in Some p) (bytes_of_bits-bits_of_bytes m is.bytes)

-- zeros to the byte are as many as the bits that are more than whole bytes behind them
zeros_count : (before : ℕ) (m : List ℕ) (rest : List Bool) → IsMacroblock m → length rest % 8 ≡ 0
    → length (replicate (to_byte before) false ++ (bits_of_bytes m ++ rest)) % 8 ≡ to_byte before
zeros_count before m rest is whole =
    ap (λ n. n % 8) (length-append (replicate (to_byte before) false) (bits_of_bytes m ++ rest)
    ∙ ap₂ (λ a b. a + b) (zeros_long (to_byte before)) (length-append (bits_of_bytes m) rest ∙ ap (λ n. n + length rest) (length-bits_of_bytes m)))
    ∙ count (length m) (length rest) whole
  where
    count : (n r : ℕ) → r % 8 ≡ 0 → (to_byte before + (8 * n + r)) % 8 ≡ to_byte before
    count n r h = omega arith

-- a macroblock before whole bytes
pub pcm_macroblock-back : (before : ℕ) (m : List ℕ) (rest : List Bool) → IsMacroblock m → length rest % 8 ≡ 0 → pcm_macroblock (pcm_bits before m ++ rest) ≡ Some (m, rest)
unfolding pcm_macroblock pcm_bits align_bits
pcm_macroblock-back before m rest is whole =
    ap (λ bits. option_and_then pcm_samples (option_and_then aligned (option_and_then pcm_typed (read ue bits)))) apart
    ∙ ap (λ o. option_and_then pcm_samples (option_and_then aligned (option_and_then pcm_typed o))) ((reads_ue 25 (lit< tt)).back (zeros ++ (samples ++ rest)))
    ∙ ap (λ o. option_and_then pcm_samples o) (aligned_zeros (to_byte from) (samples ++ rest) (zeros_count from m rest is whole))
    ∙ samples_back m rest is
  where
    from : ℕ
    from = before + length (ue_bits 25)

    zeros : List Bool
    zeros = replicate (to_byte from) false

    samples : List Bool
    samples = bits_of_bytes m

    apart : (ue_bits 25 ++ (zeros ++ samples)) ++ rest ≡ ue_bits 25 ++ (zeros ++ (samples ++ rest))
    apart = append_assoc (ue_bits 25) (zeros ++ samples) rest ∙ ap (λ bits. ue_bits 25 ++ bits) (append_assoc zeros samples rest)

-- a macroblock begins with a zero, so it isn't the trailing bits
not_trailing : (before : ℕ) (m : List ℕ) (rest : List Bool) → is_trailing (pcm_bits before m ++ rest) ≡ false
unfolding pcm_bits
not_trailing before m rest = ap (λ code. is_trailing ((code ++ (align_bits (before + length (ue_bits 25)) ++ bits_of_bytes m)) ++ rest)) ue_25

trailing : is_trailing (digits 8 128) ≡ true
unfolding digits
trailing = refl

-- macroblocks behind whole bytes are whole bytes
whole_behind : (before : ℕ) (ms : List (List ℕ)) → before % 8 ≡ 0 → length (pcm_slice_bits before ms) % 8 ≡ 0
unfolding pcm_slice_bits
whole_behind before [] whole = refl
whole_behind before (m ∷ ms) whole =
    let here : List Bool = pcm_bits before m in
    let after : (before + length here) % 8 ≡ 0 = pcm_bits-whole before m in
    let more : length (pcm_slice_bits (before + length here) ms) % 8 ≡ 0 = whole_behind (before + length here) ms after in
    ap (λ n. n % 8) (length-append here (pcm_slice_bits (before + length here) ms)) ∙ sums (length here) (length (pcm_slice_bits (before + length here) ms)) after more
  where
    sums : (a b : ℕ) → (before + a) % 8 ≡ 0 → b % 8 ≡ 0 → (a + b) % 8 ≡ 0
    sums a b h k = omega arith

-- behind one macroblock and more, whole bytes stand
pub slice_whole : (before : ℕ) (ms : List (List ℕ)) → 0 < length ms → (before + length (pcm_slice_bits before ms)) % 8 ≡ 0
unfolding pcm_slice_bits
slice_whole before [] some = absurd (omega arith)
slice_whole before (m ∷ ms) some =
    let here : List Bool = pcm_bits before m in
    let after : (before + length here) % 8 ≡ 0 = pcm_bits-whole before m in
    let more : length (pcm_slice_bits (before + length here) ms) % 8 ≡ 0 = whole_behind (before + length here) ms after in
    ap (λ n. (before + n) % 8) (length-append here (pcm_slice_bits (before + length here) ms)) ∙ sums (length here) (length (pcm_slice_bits (before + length here) ms)) after more
  where
    sums : (a b : ℕ) → (before + a) % 8 ≡ 0 → b % 8 ≡ 0 → (before + (a + b)) % 8 ≡ 0
    sums a b h k = omega arith

-- a macroblock has bits
pub slice_long : (before : ℕ) (ms : List (List ℕ)) → length ms ≤ length (pcm_slice_bits before ms)
unfolding pcm_slice_bits
slice_long before [] = omega arith
slice_long before (m ∷ ms) =
    let here : List Bool = pcm_bits before m in
    omega (arith, length-append here (pcm_slice_bits (before + length here) ms), length-pcm_bits before m, slice_long (before + length here) ms)

-- macroblocks before the trailing bits
pub pcm_macroblocks-back : (most before : ℕ) (ms : List (List ℕ)) → length ms < most → All IsMacroblock ms → pcm_macroblocks most (pcm_slice_bits before ms ++ digits 8 128) ≡ Some ms
unfolding pcm_macroblocks pcm_slice_bits
pcm_macroblocks-back zero before ms few are = absurd (omega arith)
pcm_macroblocks-back (suc most) before [] few are =
    ap (λ b. cond b (Some []) (option_and_then (λ m. option_map (λ ms. m.0 ∷ ms) (pcm_macroblocks most m.1)) (pcm_macroblock (digits 8 128)))) trailing
pcm_macroblocks-back (suc most) before (m ∷ ms) few are =
    ap (λ bits. pcm_macroblocks (suc most) bits) (append_assoc here more (digits 8 128))
    ∙ ap (λ b. cond b (Some []) (option_and_then (λ m. option_map (λ ms. m.0 ∷ ms) (pcm_macroblocks most m.1)) (pcm_macroblock (here ++ (more ++ digits 8 128))))) (not_trailing before m (more ++ digits 8 128))
    ∙ ap (λ o. option_and_then (λ m. option_map (λ ms. m.0 ∷ ms) (pcm_macroblocks most m.1)) o)
    (pcm_macroblock-back before m (more ++ digits 8 128) (All-head IsMacroblock m ms are) whole)
    ∙ ap (λ o. option_map (λ ms. m ∷ ms) o) (pcm_macroblocks-back most (before + length here) ms (omega arith) (All-tail IsMacroblock m ms are))
  where
    here : List Bool
    here = pcm_bits before m

    more : List Bool
    more = pcm_slice_bits (before + length here) ms

    whole : length (more ++ digits 8 128) % 8 ≡ 0
    whole = ap (λ n. n % 8) (length-append more (digits 8 128) ∙ ap (λ n. length more + n) (length-digits 8 128))
        ∙ eight (length more) (whole_behind (before + length here) ms (pcm_bits-whole before m))
      where
        eight : (n : ℕ) → n % 8 ≡ 0 → (n + 8) % 8 ≡ 0
        eight n h = omega arith
