-- Blocks, row by row, and macroblocks, block by block.
use Rattle.std.proofs.Common.{ℕ, ◌≡◌, ◌+◌, ◌-◌, ◌*◌, ◌/◌, ◌%◌, ◌≤◌, ◌<◌, List, [], ◌++◌, length, take, drop, Bool, refl, ap, sym, ◌∙◌, subst, arith, append_assoc, append-nil, length-append, suc, map, zero-add, inl, inr, ◌⊎◌}
use Rattle.std.specs.List.{range_with_len}
use Rattle.std.proofs.lemmas.List.FromFn.{map-range_with_len_more}
use Rattle.std.proofs.lemmas.Grind.{common_steps}
use Rattle.std.proofs.Math.Nat.{mul-le-mul_right, mul-le-mul_left, mod-lt, eq-or-lt_of_le}
use Rattle.std.specs.List.{All}
use Rattle.std.proofs.lemmas.List.Elements.{All-nil, All-append}
use Rattle.spec_bits.specs.Bits.{IsByte, bits_of_bytes, digits}
use Rattle.spec_headers.specs.HeadFields.{slice_head_bits}
use Rattle.spec_bits.proofs.Digits.{bits_of_bytes-append, bits_of_bytes-none, length-bits_of_bytes}
use Rattle.spec_bits.specs.Golomb.{ue_bits, align_bits, to_byte}
use Rattle.spec_film.specs.Films.{Planes}
use Rattle.spec_stream.specs.Stored.{block_at, macroblock_samples, macroblocks_of, pcm_bits, pcm_slice_bits, stored_slice_bits, stored_slice_head}
use Rattle.spec_stream.proofs.StoredLaws.{block_at-more, block_at-none, pcm_slice_bits-push, ue_25}
use Rattle.spec_stream.proofs.PlaneLaws.{length-block_at}
use Rattle.picture_planes.specs.declared.plane.Plane.{Plane}
use Rattle.picture_planes.specs.Samples.{row_of, samples_of}
use Rattle.picture_planes.proofs.SampleLaws.{row_length, samples_length, part_of_samples}
use Rattle.bit_strings.specs.BitText.{BitText}
use Rattle.stored_picture.proofs.Fits.{length-align_bits}

-- bits behind the text
abbrev pub with_more : BitText → List Bool → BitText
with_more b more = record b { text = b.text ++ more }

pub more_nothing : (b : BitText) (more : List Bool) → more ≡ [] → b ≡ with_more b more
more_nothing b more none = sym (ap (λ xs. with_more b xs) none ∙ ap (λ (xs : List Bool). let r : BitText = record b { text = xs } in r) (append-nil b.text))

pub more_both : (b c d : BitText) (xs ys : List Bool) → c ≡ with_more b xs → d ≡ with_more c ys → d ≡ with_more b (xs ++ ys)
more_both b c d xs ys h k =
    k ∙ ap (λ (e : BitText). with_more e ys) h ∙ ap (λ (zs : List Bool). let r : BitText = record b { text = zs } in r) (append_assoc b.text xs ys)

pub block_none : (b : BitText) (width size x y : ℕ) (samples : List ℕ) → b ≡ with_more b (bits_of_bytes (block_at width size 0 x y samples))
block_none b width size x y samples = more_nothing b (bits_of_bytes (block_at width size 0 x y samples)) (ap bits_of_bytes (block_at-none width size x y samples) ∙ bits_of_bytes-none)

-- one row more
pub block_more : (p : Plane) (size row x y : ℕ) (first b c : BitText) (part : List ℕ) → y + row < p.height → x + size ≤ p.width
    → b ≡ with_more first (bits_of_bytes (block_at p.width size row x y (samples_of p)))
    → part ≡ take size (drop x (row_of p (y + row)))
    → c ≡ with_more b (bits_of_bytes part)
    → c ≡ with_more first (bits_of_bytes (block_at p.width size (row + 1) x y (samples_of p)))
block_more p size row x y first b c part below inside h is k =
    let before = block_at p.width size row x y (samples_of p) in
    more_both first b c (bits_of_bytes before) (bits_of_bytes part) h k
    ∙ ap (with_more first) (sym (bits_of_bytes-append before part)
    ∙ ap (λ xs. bits_of_bytes (before ++ xs)) (is ∙ part_of_samples p (y + row) x size below inside)
    ∙ ap bits_of_bytes (sym (block_at-more p.width size row x y (samples_of p))))

-- how long the text is after some rows
pub block_length : (p : Plane) (size row x y : ℕ) (first b : BitText) → y + row ≤ p.height → x + size ≤ p.width
    → b ≡ with_more first (bits_of_bytes (block_at p.width size row x y (samples_of p)))
    → length b.text ≡ length first.text + 8 * (row * size)
block_length p size row x y first b below inside h =
    ap (λ (e : BitText). length e.text) h
    ∙ length-append first.text (bits_of_bytes (block_at p.width size row x y (samples_of p)))
    ∙ ap (λ n. length first.text + n) (length-bits_of_bytes (block_at p.width size row x y (samples_of p))
    ∙ ap (λ n. 8 * n) (length-block_at p.width size row x y (samples_of p) inside (subst (λ n. (y + row) * p.width ≤ n) (sym (samples_length p)) (rows_le (y + row) p.height p.width below))))
  where
    rows_le : (a b w : ℕ) → a ≤ b → a * w ≤ b * w
    rows_le a b w h = mul-le-mul_right w h

pub part_length : (p : Plane) (size x y : ℕ) → y < p.height → x + size ≤ p.width → length (take (x + size - x) (drop x (row_of p y))) ≡ size
part_length p size x y below inside = let l = row_length p y below in cut (row_of p y) (omega (arith, l))
  where
    cut : (xs : List ℕ) → x + size ≤ length xs → length (take (x + size - x) (drop x xs)) ≡ size
    cut xs h = grind (arith, common_steps)

pub row_room : (row size : ℕ) → row < size → 8 * (row * size) + 8 * size ≤ 8 * (size * size)
row_room row size below = let p : row * size + size ≤ size * size = subst (λ n. n ≤ size * size) (suc_times row size) (mul-le-mul_right size below) in omega arith
  where
    suc_times : (row size : ℕ) → suc row * size ≡ row * size + size
    suc_times row size = grind arith

-- the block lies inside a plane of macroblocks
pub column_inside : (size across k width : ℕ) → 0 < across → size * across ≡ width → size * (k % across) + size ≤ width
column_inside size across k width some wide =
    let m : k % across + 1 ≤ across = omega (arith, mod-lt k some) in
    let n : size * (k % across + 1) ≤ size * across = mul-le-mul_left size m in
    subst (λ w. size * (k % across) + size ≤ w) wide (omega (arith, n, split size (k % across)))
  where
    split : (a b : ℕ) → a * (b + 1) ≡ a * b + a
    split a b = grind arith

pub typed_length : (a b : BitText) → b ≡ with_more a (ue_bits 25) → length b.text ≡ length a.text + 9
typed_length a b h = ap (λ (e : BitText). length e.text) h ∙ length-append a.text (ue_bits 25) ∙ ap (λ (bits : List Bool). length a.text + length bits) ue_25

pub zeros_length : (a b : BitText) → b ≡ with_more a (align_bits (length a.text)) → length b.text ≡ length a.text + to_byte (length a.text)
zeros_length a b h = ap (λ (e : BitText). length e.text) h ∙ length-append a.text (align_bits (length a.text)) ∙ ap (λ n. length a.text + n) (length-align_bits (length a.text))

pub same_room : (a b : BitText) (more : List Bool) → b ≡ with_more a more → b.room ≡ a.room
same_room a b more h = ap (λ (e : BitText). e.room) h

-- the parts of a macroblock, one behind another
pub pcm_text : (across k before : ℕ) (p : Planes) (a b c d e f : BitText) → length a.text ≡ before → b ≡ with_more a (ue_bits 25) → c ≡ with_more b (align_bits (length b.text))
    → d ≡ with_more c (bits_of_bytes (block_at (16 * across) 16 16 (16 * (k % across)) (16 * (k / across)) p.luma))
    → e ≡ with_more d (bits_of_bytes (block_at (8 * across) 8 8 (8 * (k % across)) (8 * (k / across)) p.cb))
    → f ≡ with_more e (bits_of_bytes (block_at (8 * across) 8 8 (8 * (k % across)) (8 * (k / across)) p.cr))
    → f ≡ with_more a (pcm_bits before (macroblock_samples across p k))
unfolding pcm_bits macroblock_samples
pcm_text across k before p a b c d e f is hb hc hd he hf =
    let y = block_at (16 * across) 16 16 (16 * (k % across)) (16 * (k / across)) p.luma in
    let u = block_at (8 * across) 8 8 (8 * (k % across)) (8 * (k / across)) p.cb in
    let v = block_at (8 * across) 8 8 (8 * (k % across)) (8 * (k / across)) p.cr in
    let uv = more_both d e f (bits_of_bytes u) (bits_of_bytes v) he hf in
    let yuv = more_both c d f (bits_of_bytes y) (bits_of_bytes u ++ bits_of_bytes v) hd uv in
    let zyuv = more_both b c f (align_bits (length b.text)) (bits_of_bytes y ++ (bits_of_bytes u ++ bits_of_bytes v)) hc yuv in
    let all = more_both a b f (ue_bits 25) (align_bits (length b.text) ++ (bits_of_bytes y ++ (bits_of_bytes u ++ bits_of_bytes v))) hb zyuv in
    let len : length b.text ≡ before + length (ue_bits 25) = ap (λ (x : BitText). length x.text) hb ∙ length-append a.text (ue_bits 25) ∙ ap (λ n. n + length (ue_bits 25)) is in
    let samples : bits_of_bytes y ++ (bits_of_bytes u ++ bits_of_bytes v) ≡ bits_of_bytes (y ++ (u ++ v))
    = ap (λ bits. bits_of_bytes y ++ bits) (sym (bits_of_bytes-append u v)) ∙ sym (bits_of_bytes-append y (u ++ v)) in
    all ∙ ap (λ n. with_more a (ue_bits 25 ++ (align_bits n ++ (bits_of_bytes y ++ (bits_of_bytes u ++ bits_of_bytes v))))) len
    ∙ ap (λ bits. with_more a (ue_bits 25 ++ (align_bits (before + length (ue_bits 25)) ++ bits))) samples

pub no_macroblocks : (a : BitText) (f : ℕ → List ℕ) → a ≡ with_more a (pcm_slice_bits (length a.text) (map f (range_with_len 0 0)))
unfolding pcm_slice_bits
no_macroblocks a f = more_nothing a [] refl

-- one macroblock more
pub macroblock_more : (a b c : BitText) (f : ℕ → List ℕ) (k : ℕ) → b ≡ with_more a (pcm_slice_bits (length a.text) (map f (range_with_len 0 k)))
    → c ≡ with_more b (pcm_bits (length b.text) (f k)) → c ≡ with_more a (pcm_slice_bits (length a.text) (map f (range_with_len 0 (k + 1))))
macroblock_more a b c f k hb hc =
    let before = map f (range_with_len 0 k) in
    let len : length a.text + length (pcm_slice_bits (length a.text) before) ≡ length b.text
    = sym (ap (λ (x : BitText). length x.text) hb ∙ length-append a.text (pcm_slice_bits (length a.text) before)) in
    more_both a b c (pcm_slice_bits (length a.text) before) (pcm_bits (length b.text) (f k)) hb hc
    ∙ ap (with_more a) (sym (ap (pcm_slice_bits (length a.text)) (map-range_with_len_more f 0 k k (zero-add k))
    ∙ pcm_slice_bits-push (length a.text) (length b.text) before (f k) len))

-- all macroblocks
pub macroblocks_all : (a b : BitText) (across down k : ℕ) (p : Planes) → k ≡ across * down → b ≡ with_more a (pcm_slice_bits (length a.text) (map (macroblock_samples across p) (range_with_len 0 k)))
    → b ≡ with_more a (pcm_slice_bits (length a.text) (macroblocks_of across down p))
unfolding macroblocks_of
macroblocks_all a b across down k p all h = h ∙ ap (λ n. with_more a (pcm_slice_bits (length a.text) (map (macroblock_samples across p) (range_with_len 0 n)))) all

-- head, macroblocks and trailing bits are the slice
pub slice_text : (across down number : ℕ) (p : Planes) (a b c d : BitText) → b ≡ record a { text = slice_head_bits (stored_slice_head number) }
    → c ≡ with_more b (pcm_slice_bits (length b.text) (macroblocks_of across down p)) → d ≡ with_more c (digits 8 128)
    → d ≡ record a { text = stored_slice_bits across down number p }
unfolding stored_slice_bits
slice_text across down number p a b c d hb hc hd =
    more_both b c d (pcm_slice_bits (length b.text) (macroblocks_of across down p)) (digits 8 128) hc hd
    ∙ ap (λ (x : BitText). with_more x (pcm_slice_bits (length x.text) (macroblocks_of across down p) ++ digits 8 128)) hb

-- the samples of blocks and macroblocks are bytes
pub no_block_bytes : (width size x y : ℕ) (samples : List ℕ) → All IsByte (block_at width size 0 x y samples)
no_block_bytes width size x y samples = subst (All IsByte) (sym (block_at-none width size x y samples)) (All-nil IsByte)

pub more_block_bytes : (p : Plane) (size row x y : ℕ) (part : List ℕ) → y + row < p.height → x + size ≤ p.width → part ≡ take size (drop x (row_of p (y + row))) → All IsByte part
    → All IsByte (block_at p.width size row x y (samples_of p)) → All IsByte (block_at p.width size (row + 1) x y (samples_of p))
more_block_bytes p size row x y part below inside is small before =
    subst (All IsByte) (sym (block_at-more p.width size row x y (samples_of p)))
    (All-append IsByte (block_at p.width size row x y (samples_of p)) (take size (drop ((y + row) * p.width + x) (samples_of p))) before
    (subst (All IsByte) (is ∙ part_of_samples p (y + row) x size below inside) small))

pub block_bytes_all : (width size row x y : ℕ) (samples : List ℕ) → row ≡ size → All IsByte (block_at width size row x y samples) → All IsByte (block_at width size size x y samples)
block_bytes_all width size row x y samples is h = subst (λ n. All IsByte (block_at width size n x y samples)) is h

pub macroblock_bytes : (across k : ℕ) (p : Planes) (wy wu wv : ℕ) → wy ≡ 16 * across → wu ≡ 8 * across → wv ≡ 8 * across
    → All IsByte (block_at wy 16 16 (16 * (k % across)) (16 * (k / across)) p.luma) → All IsByte (block_at wu 8 8 (8 * (k % across)) (8 * (k / across)) p.cb)
    → All IsByte (block_at wv 8 8 (8 * (k % across)) (8 * (k / across)) p.cr) → All IsByte (macroblock_samples across p k)
unfolding macroblock_samples
macroblock_bytes across k p wy wu wv ey eu ev hy hu hv =
    let y = block_at (16 * across) 16 16 (16 * (k % across)) (16 * (k / across)) p.luma in
    let u = block_at (8 * across) 8 8 (8 * (k % across)) (8 * (k / across)) p.cb in
    let v = block_at (8 * across) 8 8 (8 * (k % across)) (8 * (k / across)) p.cr in
    All-append IsByte y (u ++ v) (subst (λ n. All IsByte (block_at n 16 16 (16 * (k % across)) (16 * (k / across)) p.luma)) ey hy)
    (All-append IsByte u v (subst (λ n. All IsByte (block_at n 8 8 (8 * (k % across)) (8 * (k / across)) p.cb)) eu hu)
    (subst (λ n. All IsByte (block_at n 8 8 (8 * (k % across)) (8 * (k / across)) p.cr)) ev hv))

pub macroblocks_bytes : (across : ℕ) (p : Planes) (n : ℕ) → ((k : ℕ) → k < n → All IsByte (macroblock_samples across p k)) → All IsByte (macroblock_samples across p n)
    → (k : ℕ) → k < n + 1 → All IsByte (macroblock_samples across p k)
macroblocks_bytes across p n before last k below = go (eq-or-lt_of_le (at_most k n below))
  where
    at_most : (k n : ℕ) → k < n + 1 → k ≤ n
    at_most k n h = omega arith

    go : (k ≡ n) ⊎ (k < n) → All IsByte (macroblock_samples across p k)
    go (inl same) = subst (λ m. All IsByte (macroblock_samples across p m)) (sym same) last
    go (inr less) = before k less
