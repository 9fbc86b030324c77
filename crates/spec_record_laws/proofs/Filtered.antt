-- The deblocking filter keeps samples of eight bits.
use Rattle.std.proofs.Common.{◌≤◌, ◌+◌, ◌*◌, ◌/◌, ◌%◌, ◌&&◌, ℕ, zero, suc, ℤ, Bool, true, false, cond, List, [], ◌∷◌, length, get_or, arith}
use Rattle.std.specs.Prelude.{nat_lt, slice_set}
use Rattle.enc_tables.specs.Steps.{steps}
use Rattle.enc_tables.specs.declared.records.MbRecord.{MbRecord}
use Rattle.spec_film.specs.Films.{Planes}
use Rattle.spec_filter.specs.declared.SampleLine.{SampleLine}
use Rattle.spec_filter.specs.declared.EdgeRule.{EdgeRule}
use Rattle.spec_filter.specs.declared.MbEdges.{MbEdges}
use Rattle.spec_filter.specs.declared.Layout.{Layout}
use Rattle.spec_filter.specs.Lines.{is_filtered, second, weak, strong, filtered}
use Rattle.spec_filter.specs.Edges.{line_at, with_line, line_filtered, part_filtered, edge_filtered}
use Rattle.spec_filter.specs.Macroblocks.{luma_vertical, luma_horizontal, chroma_vertical, chroma_horizontal, luma_macroblock, chroma_macroblock}
use Rattle.spec_filter.specs.Pictures.{luma_filtered, chroma_filtered, picture_filtered, edges_of, rows_of}
use Rattle.spec_record_laws.specs.Coded.{AreBytes, PlanesFit}
use Rattle.spec_record_laws.proofs.Bytes.{clip1_small}

-- ---- a line

record LineFits (l : SampleLine) : Type 0 where
  pub p3 : l.p3 ≤ 255
  pub p2 : l.p2 ≤ 255
  pub p1 : l.p1 ≤ 255
  pub p0 : l.p0 ≤ 255
  pub q0 : l.q0 ≤ 255
  pub q1 : l.q1 ≤ 255
  pub q2 : l.q2 ≤ 255
  pub q3 : l.q3 ≤ 255

either : (b : Bool) (m n : ℕ) → m ≤ 255 → n ≤ 255 → cond b m n ≤ 255
either true m n h g = h
either false m n h g = g

second_small : (t p2 p1 p0 q0 : ℕ) → second t p2 p1 p0 q0 ≤ 255
unfolding second
second_small t p2 p1 p0 q0 = clip1_small _

weak_fits : (r : EdgeRule) (l : SampleLine) → LineFits l → LineFits (weak r l)
unfolding weak
weak_fits r l h = record {
  p3 = h.p3;
  p2 = h.p2;
  p1 = either _ (second r.tc0 l.p2 l.p1 l.p0 l.q0) l.p1 (second_small r.tc0 l.p2 l.p1 l.p0 l.q0) h.p1;
  p0 = clip1_small _;
  q0 = clip1_small _;
  q1 = either _ (second r.tc0 l.q2 l.q1 l.q0 l.p0) l.q1 (second_small r.tc0 l.q2 l.q1 l.q0 l.p0) h.q1;
  q2 = h.q2;
  q3 = h.q3;
}

-- means of samples
five : (a b c d e : ℕ) → a ≤ 255 → b ≤ 255 → c ≤ 255 → d ≤ 255 → e ≤ 255 → (a + 2 * b + 2 * c + 2 * d + e + 4) / 8 ≤ 255
five a b c d e h i j k l = omega (arith, h, i, j, k, l)

four : (a b c d : ℕ) → a ≤ 255 → b ≤ 255 → c ≤ 255 → d ≤ 255 → (a + b + c + d + 2) / 4 ≤ 255
four a b c d h i j k = omega (arith, h, i, j, k)

outer : (a b c d e : ℕ) → a ≤ 255 → b ≤ 255 → c ≤ 255 → d ≤ 255 → e ≤ 255 → (2 * a + 3 * b + c + d + e + 4) / 8 ≤ 255
outer a b c d e h i j k l = omega (arith, h, i, j, k, l)

three : (a b c : ℕ) → a ≤ 255 → b ≤ 255 → c ≤ 255 → (2 * a + b + c + 2) / 4 ≤ 255
three a b c h i j = omega (arith, h, i, j)

strong_fits : (r : EdgeRule) (l : SampleLine) → LineFits l → LineFits (strong r l)
unfolding strong
strong_fits r l h = record {
  p3 = h.p3;
  p2 = either _ ((2 * l.p3 + 3 * l.p2 + l.p1 + l.p0 + l.q0 + 4) / 8) l.p2 (outer l.p3 l.p2 l.p1 l.p0 l.q0 h.p3 h.p2 h.p1 h.p0 h.q0) h.p2;
  p1 = either _ ((l.p2 + l.p1 + l.p0 + l.q0 + 2) / 4) l.p1 (four l.p2 l.p1 l.p0 l.q0 h.p2 h.p1 h.p0 h.q0) h.p1;
  p0 = either _ ((l.p2 + 2 * l.p1 + 2 * l.p0 + 2 * l.q0 + l.q1 + 4) / 8) ((2 * l.p1 + l.p0 + l.q1 + 2) / 4) (five l.p2 l.p1 l.p0 l.q0 l.q1 h.p2 h.p1 h.p0 h.q0 h.q1) (three l.p1 l.p0 l.q1 h.p1 h.p0 h.q1);
  q0 = either _ ((l.q2 + 2 * l.q1 + 2 * l.q0 + 2 * l.p0 + l.p1 + 4) / 8) ((2 * l.q1 + l.q0 + l.p1 + 2) / 4) (five l.q2 l.q1 l.q0 l.p0 l.p1 h.q2 h.q1 h.q0 h.p0 h.p1) (three l.q1 l.q0 l.p1 h.q1 h.q0 h.p1);
  q1 = either _ ((l.q2 + l.q1 + l.q0 + l.p0 + 2) / 4) l.q1 (four l.q2 l.q1 l.q0 l.p0 h.q2 h.q1 h.q0 h.p0) h.q1;
  q2 = either _ ((2 * l.q3 + 3 * l.q2 + l.q1 + l.q0 + l.p0 + 4) / 8) l.q2 (outer l.q3 l.q2 l.q1 l.q0 l.p0 h.q3 h.q2 h.q1 h.q0 h.p0) h.q2;
  q3 = h.q3;
}

either_line : (b : Bool) (l m : SampleLine) → LineFits l → LineFits m → LineFits (cond b l m)
either_line true l m h g = h
either_line false l m h g = g

filtered_fits : (r : EdgeRule) (l : SampleLine) → LineFits l → LineFits (filtered r l)
unfolding filtered
filtered_fits r l h = either_line (nat_lt 0 r.strength && is_filtered r l) _ l (either_line (nat_lt r.strength 4) (weak r l) (strong r l) (weak_fits r l h) (strong_fits r l h)) h

-- ---- planes

set_at : (xs : List ℕ) (i v : ℕ) → ((k : ℕ) → get_or xs k 0 ≤ 255) → v ≤ 255 → (k : ℕ) → get_or (slice_set xs i v) k 0 ≤ 255
set_at [] i v h g k = h k
set_at (x ∷ xs) zero v h g zero = g
set_at (x ∷ xs) zero v h g (suc k) = h (suc k)
set_at (x ∷ xs) (suc i) v h g zero = h zero
set_at (x ∷ xs) (suc i) v h g (suc k) = set_at xs i v (λ j. h (suc j)) g k

set_bytes : (xs : List ℕ) (i v : ℕ) → AreBytes xs → v ≤ 255 → AreBytes (slice_set xs i v)
set_bytes xs i v h g = record { at = set_at xs i v h.at g }

line_bytes : (r : EdgeRule) (start step : ℕ) (xs : List ℕ) → AreBytes xs → AreBytes (line_filtered r start step xs)
unfolding line_filtered with_line line_at
line_bytes r start step xs h =
    let l : SampleLine = line_at xs start step in
    let f = filtered_fits r l (record { p3 = h.at _; p2 = h.at _; p1 = h.at _; p0 = h.at _; q0 = h.at _; q1 = h.at _; q2 = h.at _; q3 = h.at _ }) in
    set_bytes _ _ _ (set_bytes _ _ _ (set_bytes _ _ _ (set_bytes _ _ _ (set_bytes _ _ _ (set_bytes xs _ _ h f.p2) f.p1) f.p0) f.q0) f.q1) f.q2

steps_bytes : (f : ℕ → List ℕ → List ℕ) (n : ℕ) (xs : List ℕ) → ((k : ℕ) (ys : List ℕ) → AreBytes ys → AreBytes (f k ys)) → AreBytes xs → AreBytes (steps f n xs)
unfolding steps
steps_bytes f zero xs each h = h
steps_bytes f (suc n) xs each h = each n _ (steps_bytes f n xs each h)

edge_bytes : (rule : ℕ → EdgeRule) (n start step across : ℕ) (xs : List ℕ) → AreBytes xs → AreBytes (edge_filtered rule n start step across xs)
unfolding edge_filtered part_filtered
edge_bytes rule n start step across xs h = steps_bytes _ 4 xs (λ g ys k. steps_bytes _ n ys (λ j zs m. line_bytes (rule g) (start + n * g * across + j * across) step zs m) k) h

either_bytes : (b : Bool) (xs ys : List ℕ) → AreBytes xs → AreBytes ys → AreBytes (cond b xs ys)
either_bytes true xs ys h g = h
either_bytes false xs ys h g = g

luma_bytes : (e : MbEdges) (at : Layout) (x y : ℕ) (xs : List ℕ) → AreBytes xs → AreBytes (luma_macroblock e at x y xs)
unfolding luma_macroblock luma_horizontal luma_vertical
luma_bytes e at x y xs h =
    steps_bytes (luma_horizontal e at x y) 4 _ (λ k ys m. either_bytes _ _ ys (edge_bytes _ 4 _ _ _ ys m) m)
    (steps_bytes (luma_vertical e at x y) 4 xs (λ k ys m. either_bytes _ _ ys (edge_bytes _ 4 _ _ _ ys m) m) h)

chroma_bytes : (e : MbEdges) (at : Layout) (x y : ℕ) (xs : List ℕ) → AreBytes xs → AreBytes (chroma_macroblock e at x y xs)
unfolding chroma_macroblock chroma_horizontal chroma_vertical
chroma_bytes e at x y xs h =
    steps_bytes (chroma_horizontal e at x y) 2 _ (λ k ys m. either_bytes _ _ ys (edge_bytes _ 2 _ _ _ ys m) m)
    (steps_bytes (chroma_vertical e at x y) 2 xs (λ k ys m. either_bytes _ _ ys (edge_bytes _ 2 _ _ _ ys m) m) h)

pub filtered_picture_fits : (pictures0 pictures1 : List ℤ) (records : List MbRecord) (width : ℕ) (p : Planes) → PlanesFit p → PlanesFit (picture_filtered pictures0 pictures1 records width p)
unfolding picture_filtered luma_filtered chroma_filtered
filtered_picture_fits pictures0 pictures1 records width p h = record {
  luma = steps_bytes _ (length records) p.luma (λ m xs k. luma_bytes (edges_of pictures0 pictures1 records (width / 16) m) (rows_of width) (m % (width / 16)) (m / (width / 16)) xs k) h.luma;
  cb = steps_bytes _ (length records) p.cb (λ m xs k. chroma_bytes (edges_of pictures0 pictures1 records (width / 16) m) (rows_of (width / 2)) (m % (width / 16)) (m / (width / 16)) xs k) h.cb;
  cr = steps_bytes _ (length records) p.cr (λ m xs k. chroma_bytes (edges_of pictures0 pictures1 records (width / 16) m) (rows_of (width / 2)) (m % (width / 16)) (m / (width / 16)) xs k) h.cr;
}
