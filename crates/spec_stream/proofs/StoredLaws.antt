-- What follows from the definition of a stored stream.
use lib.Count.{count_leading_zeros}
use Rattle.std.proofs.Common.{ℕ, zero, suc, ◌+◌, ◌*◌, ◌%◌, ◌≡◌, List, [], ◌∷◌, ◌++◌, length, take, drop, replicate, Bool, true, false, refl, ap, sym, ◌∙◌, append_assoc, append-nil, arith, length-append, add-one, add-zero, zero-add}
use Rattle.std.specs.List.{flat_map, range_with_len}
use Rattle.std.proofs.lemmas.Grind.{common_steps}
use Rattle.spec_film.specs.declared.FilmHead.{FilmHead}
use Rattle.spec_film.specs.Films.{Planes}
use Rattle.spec_bits.specs.Bits.{digits, bits_of_bytes}
use Rattle.spec_bits.specs.Golomb.{ue_bits, align_bits, to_byte}
use Rattle.spec_bits.proofs.Digits.{length-bits_of_bytes}
use Rattle.spec_stream.specs.Stored.{block_at, pcm_bits, pcm_slice_bits, stored_picture, stored_pictures}

-- pictures behind others
pub stored_pictures-append : (h : FilmHead) (k : ℕ) (ps qs : List Planes) → stored_pictures h k (ps ++ qs) ≡ stored_pictures h k ps ++ stored_pictures h (k + length ps) qs
unfolding stored_pictures
stored_pictures-append h k [] qs = ap (λ n. stored_pictures h n qs) (omega arith)
stored_pictures-append h k (p ∷ ps) qs =
    ap (λ text. stored_picture h k p ++ text) (stored_pictures-append h (k + 1) ps qs)
    ∙ sym (append_assoc (stored_picture h k p) (stored_pictures h (k + 1) ps) (stored_pictures h (k + 1 + length ps) qs))
    ∙ ap (λ n. (stored_picture h k p ++ stored_pictures h (k + 1) ps) ++ stored_pictures h n qs) (omega arith)

-- one picture behind others
pub stored_pictures-push : (h : FilmHead) (k n : ℕ) (ps : List Planes) (p : Planes) → k + length ps ≡ n → stored_pictures h k (ps ++ p ∷ []) ≡ stored_pictures h k ps ++ stored_picture h n p
unfolding stored_pictures
stored_pictures-push h k n ps p is =
    stored_pictures-append h k ps (p ∷ [])
    ∙ ap (λ text. stored_pictures h k ps ++ text) (one (k + length ps) ∙ ap (λ m. stored_picture h m p) is)
  where
    one : (m : ℕ) → stored_pictures h m (p ∷ []) ≡ stored_picture h m p
    one m = append-nil (stored_picture h m p)

-- the rows of a block, one more
pub block_at-more : (width columns rows x y : ℕ) (samples : List ℕ) → block_at width columns (rows + 1) x y samples ≡ block_at width columns rows x y samples ++ take columns (drop ((y + rows) * width + x) samples)
unfolding block_at
block_at-more width columns rows x y samples =
    ap (λ n. flat_map row (range_with_len 0 n)) (add-one rows) ∙ go rows 0 ∙ ap (λ k. flat_map row (range_with_len 0 rows) ++ row k) (zero-add rows)
  where
    row : ℕ → List ℕ
    row j = take columns (drop ((y + j) * width + x) samples)

    go : (n a : ℕ) → flat_map row (range_with_len a (suc n)) ≡ flat_map row (range_with_len a n) ++ row (a + n)
    go zero a = append-nil (row a) ∙ ap row (sym (add-zero a))
    go (suc n) a =
        ap (λ text. row a ++ text) (go n (a + 1)) ∙ sym (append_assoc (row a) (flat_map row (range_with_len (a + 1) n)) (row (a + 1 + n)))
        ∙ ap (λ k. (row a ++ flat_map row (range_with_len (a + 1) n)) ++ row k) (omega arith)

pub block_at-none : (width columns x y : ℕ) (samples : List ℕ) → block_at width columns 0 x y samples ≡ []
unfolding block_at
block_at-none width columns x y samples = refl

-- macroblocks behind others
pub pcm_slice_bits-append : (before : ℕ) (ms ns : List (List ℕ)) → pcm_slice_bits before (ms ++ ns) ≡ pcm_slice_bits before ms ++ pcm_slice_bits (before + length (pcm_slice_bits before ms)) ns
unfolding pcm_slice_bits
pcm_slice_bits-append before [] ns = ap (λ n. pcm_slice_bits n ns) (omega arith)
pcm_slice_bits-append before (m ∷ ms) ns =
    let here = pcm_bits before m in
    let more = pcm_slice_bits (before + length here) ms in
    ap (λ bits. here ++ bits) (pcm_slice_bits-append (before + length here) ms ns)
    ∙ sym (append_assoc here more (pcm_slice_bits (before + length here + length more) ns))
    ∙ ap (λ n. (here ++ more) ++ pcm_slice_bits n ns) (sum here more)
  where
    sum : (here more : List Bool) → before + length here + length more ≡ before + length (here ++ more)
    sum here more = omega (arith, length-append here more)

pub pcm_slice_bits-push : (before n : ℕ) (ms : List (List ℕ)) (m : List ℕ) → before + length (pcm_slice_bits before ms) ≡ n → pcm_slice_bits before (ms ++ m ∷ []) ≡ pcm_slice_bits before ms ++ pcm_bits n m
unfolding pcm_slice_bits
pcm_slice_bits-push before n ms m is =
    pcm_slice_bits-append before ms (m ∷ [])
    ∙ ap (λ bits. pcm_slice_bits before ms ++ bits) (one (before + length (pcm_slice_bits before ms)) ∙ ap (λ k. pcm_bits k m) is)
  where
    one : (k : ℕ) → pcm_slice_bits k (m ∷ []) ≡ pcm_bits k m
    one k = append-nil (pcm_bits k m)

-- mb_type 25 has nine bits
pub ue_25 : ue_bits 25 ≡ false ∷ false ∷ false ∷ false ∷ true ∷ true ∷ false ∷ true ∷ false ∷ []
unfolding ue_bits digits lib.Count.count_leading_zeros
ue_25 = refl

pub length-pcm_bits : (before : ℕ) (samples : List ℕ) → length (pcm_bits before samples) ≡ 9 + (to_byte (before + 9) + 8 * length samples)
unfolding pcm_bits align_bits
length-pcm_bits before samples =
    let nine : length (ue_bits 25) ≡ 9 = ap length ue_25 in
    length-append (ue_bits 25) (align_bits (before + length (ue_bits 25)) ++ bits_of_bytes samples)
    ∙ ap (λ n. n + length (align_bits (before + n) ++ bits_of_bytes samples)) nine
    ∙ ap (λ n. 9 + n) (length-append (align_bits (before + 9)) (bits_of_bytes samples)
    ∙ ap (λ n. n + length (bits_of_bytes samples)) (aligned (to_byte (before + 9)))
    ∙ ap (λ n. to_byte (before + 9) + n) (length-bits_of_bytes samples))
  where
    aligned : (n : ℕ) → length (replicate n false) ≡ n
    aligned n = grind (arith, common_steps)

-- behind a macroblock whole bytes stand
pub pcm_bits-whole : (before : ℕ) (samples : List ℕ) → (before + length (pcm_bits before samples)) % 8 ≡ 0
pcm_bits-whole before samples = ap (λ n. (before + n) % 8) (length-pcm_bits before samples) ∙ whole (length samples)
  where
    whole : (n : ℕ) → (before + (9 + (to_byte (before + 9) + 8 * n))) % 8 ≡ 0
    whole n = omega arith
