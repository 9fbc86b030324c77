-- Bytes that are written one after another.
use Rattle.std.proofs.Common.{ℕ, zero, suc, ◌+◌, ◌-◌, ◌≡◌, ◌≤◌, ◌<◌, List, [], ◌∷◌, ◌++◌, length, take, drop, ◌*◌, ◌/◌, Option, Some, None, refl, ap, ap₂, sym, ◌∙◌, subst, arith, append_assoc, append-nil, length-append}
use Rattle.std.specs.Option.{option_map}
use Rattle.enc_edge.specs.declared.studio.Out.{Out}
use Rattle.enc_edge.specs.declared.studio.Out.TheVariants.{Stream, Recon, Report}
use Rattle.enc_edge.specs.declared.studio.Place.TheVariants.{Output}
use Rattle.enc_edge.specs.Seen.{Seen}
use Rattle.enc_edge.specs.Calls.{wrote, LaterFailed}
use Rattle.picture_planes.specs.declared.plane.Plane.{Plane}
use Rattle.std.specs.List.{flat_map, range_with_len}
use Rattle.std.proofs.lemmas.List.Concat.{flat_map-append}
use Rattle.std.proofs.lemmas.Grind.{common_steps}
use Rattle.spec_basics.specs.Sizes.{in_macroblocks}
use Rattle.spec_film.specs.declared.FilmHead.{FilmHead}
use Rattle.spec_film.specs.Cropping.{cropped_plane, shown}
use Rattle.spec_film.specs.Written.{planes_text}
use Rattle.picture_planes.specs.declared.picture.Picture.{Picture}
use Rattle.picture_planes.specs.Pictures.{planes_of}
use Rattle.y4m_film.specs.Sizes.{FitsHead}
use Rattle.picture_planes.specs.Samples.{row_of, samples_of}
use Rattle.picture_planes.proofs.SampleLaws.{row_of_samples}
use Rattle.y4m_film.specs.Waits.{Gathered}
use Rattle.y4m_film.specs.Writes.{FrontWritten}

behind : (o : Option (List ℕ)) (xs ys : List ℕ) → option_map (λ zs. zs ++ ys) (option_map (λ zs. zs ++ xs) o) ≡ option_map (λ zs. zs ++ (xs ++ ys)) o
behind None xs ys = refl
behind (Some zs) xs ys = ap (λ b. Some b) (append_assoc zs xs ys)

pub wrote_then : (out : Out) (xs ys : List ℕ) (s : Seen) → wrote (Output out) ys (wrote (Output out) xs s) ≡ wrote (Output out) (xs ++ ys) s
wrote_then Stream xs ys s = ap (λ b. record s { stream = record s.stream { bytes = b } }) (behind s.stream.bytes xs ys)
wrote_then Recon xs ys s = ap (λ b. record s { recon = record s.recon { bytes = b } }) (behind s.recon.bytes xs ys)
wrote_then Report xs ys s = ap (λ b. record s { report = record s.report { bytes = b } }) (behind s.report.bytes xs ys)

nothing_more : (o : Option (List ℕ)) → option_map (λ zs. zs ++ []) o ≡ o
nothing_more None = refl
nothing_more (Some zs) = ap (λ b. Some b) (append-nil zs)

pub wrote_nothing : (out : Out) (s : Seen) → wrote (Output out) [] s ≡ s
wrote_nothing Stream s = ap (λ b. record s { stream = record s.stream { bytes = b } }) (nothing_more s.stream.bytes)
wrote_nothing Recon s = ap (λ b. record s { recon = record s.recon { bytes = b } }) (nothing_more s.recon.bytes)
wrote_nothing Report s = ap (λ b. record s { report = record s.report { bytes = b } }) (nothing_more s.report.bytes)

take_front : (n : ℕ) (xs ys : List ℕ) → n ≤ length xs → take n (xs ++ ys) ≡ take n xs
take_front zero xs ys h = refl
take_front (suc n) [] ys h = absurd (omega (arith, h))
take_front (suc n) (x ∷ xs) ys h = ap (λ zs. x ∷ zs) (take_front n xs ys (omega (arith, h)))

take_behind : (n : ℕ) (xs ys : List ℕ) → take (length xs + n) (xs ++ ys) ≡ xs ++ take n ys
take_behind n [] ys = ap (λ k. take k ys) (none n)
  where
    none : (n : ℕ) → 0 + n ≡ n
    none n = omega arith
take_behind n (x ∷ xs) ys = ap (λ k. take k (x ∷ (xs ++ ys))) (more (length xs) n) ∙ ap (λ zs. x ∷ zs) (take_behind n xs ys)
  where
    more : (a b : ℕ) → suc a + b ≡ suc (a + b)
    more a b = omega arith

-- a front of the first part is a front of both
pub front_first : (out : Out) (xs ys : List ℕ) (old new : Seen) → FrontWritten out xs old new → FrontWritten out (xs ++ ys) old new
front_first out xs ys old new f = record {
  count = f.count;
  within = omega (arith, f.within, length-append xs ys);
  failed = subst (λ bytes. LaterFailed (Output out) (wrote (Output out) bytes old) new) (sym (take_front f.count xs ys f.within)) f.failed;
}

-- behind the first part, a front of the second one
pub front_then : (out : Out) (xs ys : List ℕ) (old mid new : Seen) → mid ≡ wrote (Output out) xs old → FrontWritten out ys mid new → FrontWritten out (xs ++ ys) old new
front_then out xs ys old mid new e f = record {
  count = length xs + f.count;
  within = omega (arith, f.within, length-append xs ys);
  failed = subst (λ (s : Seen). LaterFailed (Output out) s new) (ap (λ (s : Seen). wrote (Output out) (take f.count ys) s) e ∙ wrote_then out xs (take f.count ys) old ∙ sym (ap (λ bytes. wrote (Output out) bytes old) (take_behind f.count xs ys))) f.failed;
}

pub then_wrote : (out : Out) (xs ys : List ℕ) (old mid new : Seen) → mid ≡ wrote (Output out) xs old → new ≡ wrote (Output out) ys mid → new ≡ wrote (Output out) (xs ++ ys) old
then_wrote out xs ys old mid new e f = f ∙ ap (λ (s : Seen). wrote (Output out) ys s) e ∙ wrote_then out xs ys old

-- ---- bytes that wait

-- nothing came
pub gathered_none : (out : Out) (before : List ℕ) (s : Seen) → Gathered out before [] before s s
gathered_none out before s = record { front = []; parts = sym (append-nil before); written = sym (wrote_nothing out s) }

-- all bytes wait
pub gathered_behind : (out : Out) (before bytes after : List ℕ) (s : Seen) → after ≡ before ++ bytes → Gathered out before bytes after s s
gathered_behind out before bytes after s e = record { front = []; parts = e; written = sym (wrote_nothing out s) }

-- all bytes were written
pub gathered_written : (out : Out) (before bytes all after : List ℕ) (old new : Seen) → all ≡ before ++ bytes → after ≡ [] → new ≡ wrote (Output out) all old → Gathered out before bytes after old new
gathered_written out before bytes all after old new e none w = record { front = all; parts = ap (λ xs. all ++ xs) none ∙ append-nil all ∙ e; written = w }

pub gathered_then : (out : Out) (before xs mid ys after : List ℕ) (old between new : Seen) → Gathered out before xs mid old between → Gathered out mid ys after between new → Gathered out before (xs ++ ys) after old new
gathered_then out before xs mid ys after old between new g h = record {
  front = g.front ++ h.front;
  parts =
      append_assoc g.front h.front after ∙ ap (λ zs. g.front ++ zs) h.parts ∙ sym (append_assoc g.front mid ys)
      ∙ ap (λ zs. zs ++ ys) g.parts ∙ append_assoc before xs ys;
  written = then_wrote out g.front h.front old between new g.written h.written;
}

-- what waits was written too
pub gathered_all : (out : Out) (before xs after : List ℕ) (old between new : Seen) → Gathered out before xs after old between → new ≡ wrote (Output out) after between → new ≡ wrote (Output out) (before ++ xs) old
gathered_all out before xs after old between new g w = then_wrote out g.front after old between new g.written w ∙ ap (λ zs. wrote (Output out) zs old) g.parts

-- a write failed of what waited
pub gathered_failed : (out : Out) (before xs after : List ℕ) (old between new : Seen) → Gathered out before xs after old between → FrontWritten out after between new → FrontWritten out (before ++ xs) old new
gathered_failed out before xs after old between new g f = subst (λ zs. FrontWritten out zs old new) g.parts (front_then out g.front after old between new g.written f)

-- a write failed of what waited and of what came
pub gathered_then_failed : (out : Out) (before xs mid ys : List ℕ) (old between new : Seen) → Gathered out before xs mid old between → FrontWritten out (mid ++ ys) between new → FrontWritten out (before ++ (xs ++ ys)) old new
gathered_then_failed out before xs mid ys old between new g f =
    subst (λ zs. FrontWritten out zs old new) (sym (append_assoc g.front mid ys) ∙ ap (λ zs. zs ++ ys) g.parts ∙ append_assoc before xs ys)
    (front_then out g.front (mid ++ ys) old between new g.written f)

-- more would have come
pub front_more : (out : Out) (before xs ys : List ℕ) (old new : Seen) → FrontWritten out (before ++ xs) old new → FrontWritten out (before ++ (xs ++ ys)) old new
front_more out before xs ys old new f = subst (λ zs. FrontWritten out zs old new) (append_assoc before xs ys) (front_first out (before ++ xs) ys old new f)

-- ---- the rows of a plane that are shown

range_split : (a n m : ℕ) → range_with_len a (n + m) ≡ range_with_len a n ++ range_with_len (a + n) m
range_split a zero m = ap₂ (λ (i k : ℕ). range_with_len i k) (sym (none a)) (front m)
  where
    none : (n : ℕ) → n + 0 ≡ n
    none n = omega arith

    front : (n : ℕ) → 0 + n ≡ n
    front n = omega arith
range_split a (suc n) m =
    ap (λ (k : ℕ). range_with_len a k) (more n m) ∙ ap (λ (xs : List ℕ). a ∷ xs) (range_split (a + 1) n m ∙ ap (λ (i : ℕ). range_with_len (a + 1) n ++ range_with_len i m) (behind a n))
  where
    more : (a b : ℕ) → suc a + b ≡ suc (a + b)
    more a b = omega arith

    behind : (a b : ℕ) → a + 1 + b ≡ a + suc b
    behind a b = omega arith

module _ (width columns : ℕ) (samples : List ℕ) where
  -- the shown part of row y
  abbrev part : ℕ → List ℕ
  part y = take columns (drop (y * width) samples)

  abbrev rows_from : ℕ → ℕ → List ℕ
  rows_from n k = flat_map (λ y. take columns (drop (y * width) samples)) (range_with_len n k)

  rows_split : (n k : ℕ) → rows_from 0 (n + k) ≡ rows_from 0 n ++ rows_from n k
  rows_split n k =
      ap (flat_map (λ y. take columns (drop (y * width) samples))) (range_split 0 n k) ∙ flat_map-append (λ y. take columns (drop (y * width) samples)) (range_with_len 0 n) (range_with_len (0 + n) k)
      ∙ ap (λ (i : ℕ). rows_from 0 n ++ rows_from i k) (front n)
    where
      front : (n : ℕ) → 0 + n ≡ n
      front n = omega arith

  rows_more : (n : ℕ) → rows_from 0 (n + 1) ≡ rows_from 0 n ++ part n
  rows_more n = rows_split n 1 ∙ ap (λ (xs : List ℕ). rows_from 0 n ++ xs) (append-nil (part n))

  rows_whole : (n rows : ℕ) → n < rows → (rows_from 0 n ++ part n) ++ rows_from (n + 1) (rows - (n + 1)) ≡ rows_from 0 rows
  rows_whole n rows h = ap (λ (xs : List ℕ). xs ++ rows_from (n + 1) (rows - (n + 1))) (sym (rows_more n)) ∙ sym (rows_split (n + 1) (rows - (n + 1))) ∙ ap (rows_from 0) (whole n rows h)
    where
      whole : (n m : ℕ) → n < m → n + 1 + (m - (n + 1)) ≡ m
      whole n m h = omega arith

  -- the first n rows came
  pub record RowsGathered (out : Out) (n count : ℕ) (before after : List ℕ) (old new : Seen) : Type 0 where
    pub rows : Gathered out before (rows_from 0 n) after old new
    pub room : count < 65536

  pub no_row : (out : Out) (count : ℕ) (before : List ℕ) (s : Seen) → count < 65536 → RowsGathered out 0 count before before s s
  no_row out count before s room = record { rows = gathered_none out before s; room = room }

  pub row_gathered : (out : Out) (n less count : ℕ) (bytes before mid after : List ℕ) (old between new : Seen)
      → RowsGathered out n less before mid old between → bytes ≡ part n → Gathered out mid bytes after between new → count < 65536 → RowsGathered out (n + 1) count before after old new
  row_gathered out n less count bytes before mid after old between new r e g room = record {
    rows = subst (λ xs. Gathered out before xs after old new) (ap (λ xs. rows_from 0 n ++ xs) e ∙ sym (rows_more n)) (gathered_then out before (rows_from 0 n) mid bytes after old between new r.rows g);
    room = room;
  }

  pub all_rows : (out : Out) (n rows count : ℕ) (before after : List ℕ) (old new : Seen) → RowsGathered out n count before after old new → n ≡ rows → Gathered out before (cropped_plane width columns rows samples) after old new
  unfolding cropped_plane
  all_rows out n rows count before after old new r e = subst (λ m. Gathered out before (rows_from 0 m) after old new) e r.rows

  -- a write failed in a row
  pub row_failed : (out : Out) (n rows count : ℕ) (bytes before mid : List ℕ) (old between new : Seen)
      → RowsGathered out n count before mid old between → n < rows → bytes ≡ part n → FrontWritten out (mid ++ bytes) between new → FrontWritten out (before ++ cropped_plane width columns rows samples) old new
  unfolding cropped_plane
  row_failed out n rows count bytes before mid old between new r within e f =
      subst (λ xs. FrontWritten out (before ++ xs) old new)
      (ap (λ xs. (rows_from 0 n ++ xs) ++ rows_from (n + 1) (rows - (n + 1))) e ∙ rows_whole n rows within)
      (front_more out before (rows_from 0 n ++ bytes) (rows_from (n + 1) (rows - (n + 1))) old new (gathered_then_failed out before (rows_from 0 n) mid bytes old between new r.rows f))

-- the shown part of a row of a plane
pub row_part : (p : Plane) (y columns : ℕ) (row bytes : List ℕ) → y < p.height → columns ≤ p.width → row ≡ row_of p y → bytes ≡ take columns row → bytes ≡ take columns (drop (y * p.width) (samples_of p))
row_part p y columns row bytes inside narrow is front =
    front ∙ ap (λ (l : List ℕ). take columns l) (is ∙ row_of_samples p y inside) ∙ shorter columns p.width (drop (y * p.width) (samples_of p)) narrow
  where
    shorter : (n m : ℕ) (xs : List ℕ) → n ≤ m → take n (take m xs) ≡ take n xs
    shorter n m xs h = grind (arith, common_steps)

-- what is handed on of a picture is what is shown of it
pub shown_is : (head : FilmHead) (p : Picture) → FitsHead head p
    → cropped_plane p.y.width head.width head.height (samples_of p.y) ++ (cropped_plane p.cb.width (head.width / 2) (head.height / 2) (samples_of p.cb) ++ cropped_plane p.cr.width (head.width / 2) (head.height / 2) (samples_of p.cr))
    ≡ planes_text (shown head (planes_of p))
shown_is head p fits =
    let y : p.y.width ≡ 16 * in_macroblocks head.width = fits.luma_width ∙ sixteen (in_macroblocks head.width) in
    let cb : p.cb.width ≡ 8 * in_macroblocks head.width = fits.cb_width ∙ eight (in_macroblocks head.width) in
    let cr : p.cr.width ≡ 8 * in_macroblocks head.width = fits.cr_width ∙ eight (in_macroblocks head.width) in
    ap (λ (w : ℕ). cropped_plane w head.width head.height (samples_of p.y) ++ (cropped_plane p.cb.width (head.width / 2) (head.height / 2) (samples_of p.cb) ++ cropped_plane p.cr.width (head.width / 2) (head.height / 2) (samples_of p.cr))) y
    ∙ ap₂ (λ (v w : ℕ). cropped_plane (16 * in_macroblocks head.width) head.width head.height (samples_of p.y) ++ (cropped_plane v (head.width / 2) (head.height / 2) (samples_of p.cb) ++ cropped_plane w (head.width / 2) (head.height / 2) (samples_of p.cr))) cb cr
  where
    sixteen : (n : ℕ) → n * 16 ≡ 16 * n
    sixteen n = omega arith

    eight : (n : ℕ) → n * 16 / 2 ≡ 8 * n
    eight n = omega arith
