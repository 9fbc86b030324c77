-- Planes of a picture, macroblock after macroblock, as buffers and as lists of samples.
use Rattle.std.proofs.Common.{◌≡◌, ◌<◌, ◌≤◌, ◌+◌, ◌-◌, ◌*◌, ◌/◌, ◌%◌, ◌==◌, not, ℕ, zero, suc, true, List, length, get_or, drop, refl, sym, ap, ap₂, ◌∙◌, arith, subst}
use Rattle.std.proofs.lemmas.List.{get_or-take, get_or-drop}
use Rattle.std.specs.Prelude.{ℤ}
use Rattle.enc_tables.specs.declared.records.MbRecord.{MbRecord}
use Rattle.spec_film.specs.Films.{Planes}
use Rattle.picture_planes.specs.declared.plane.Plane.{Plane}
use Rattle.picture_planes.specs.declared.picture.Picture.{Picture}
use Rattle.picture_planes.specs.Samples.{buffer, row_start, samples_of, SameShape}
use Rattle.picture_planes.specs.Pictures.{planes_of}
use Rattle.picture_planes.proofs.RowLaws.{row_fits}
use Rattle.picture_planes.proofs.SampleLaws.{samples_length, row_of_samples}
use Rattle.spec_filter.specs.declared.MbEdges.{MbEdges}
use Rattle.spec_filter.specs.declared.Layout.{Layout}
use Rattle.spec_filter.specs.Macroblocks.{luma_macroblock, chroma_macroblock, edges_between}
use Rattle.spec_filter.specs.Pictures.{luma_filtered, chroma_filtered, rows_of, edges_of, picture_filtered}
use Rattle.deblock.specs.Buffers.{layout_of, FilteredTo}
use Rattle.deblock.proofs.Folds.{steps_none, steps_more}
use Rattle.deblock.proofs.Rooms.{in_luma_column, in_luma_row, some_columns}
use Rattle.deblock.proofs.Shown.{Shows}
use Rattle.deblock.proofs.Crops.{luma_filtered_shown, chroma_filtered_shown, shown_same}

layout_same : (p q : Plane) → SameShape p q → layout_of q ≡ layout_of p
layout_same p q s =
    let f : ℕ → ℕ → Layout = λ w pad. record { origin = pad * (w + 2 * pad) + pad; stride = w + 2 * pad } in
    ap₂ f s.0 s.2

shape_next : (p q r : Plane) → SameShape p q → SameShape q r → SameShape p r
shape_next p q r a b = (b.0 ∙ a.0, b.1 ∙ a.1, b.2 ∙ a.2)

pub filtered_none : (edges : ℕ → MbEdges) (width : ℕ) (p : Picture) → FilteredTo edges width 0 p p
unfolding luma_filtered chroma_filtered
filtered_none edges width p = record {
  shapes = ((refl, refl, refl), (refl, refl, refl), (refl, refl, refl));
  luma = steps_none _ (buffer p.y);
  cb = steps_none _ (buffer p.cb);
  cr = steps_none _ (buffer p.cr);
}

luma_more : (edges : ℕ → MbEdges) (width m : ℕ) (e : MbEdges) (old mid new : Plane) → e ≡ edges m → SameShape old mid
    → buffer mid ≡ luma_filtered edges width (layout_of old) m (buffer old)
    → buffer new ≡ luma_macroblock e (layout_of mid) (m % width) (m / width) (buffer mid)
    → buffer new ≡ luma_filtered edges width (layout_of old) (m + 1) (buffer old)
unfolding luma_filtered
luma_more edges width m e old mid new is shape so_far next =
    steps_more (λ i. luma_macroblock (edges i) (layout_of old) (i % width) (i / width)) m (buffer old) (buffer mid) (buffer new) so_far
    (next ∙ ap₂ (λ (a : MbEdges) (at : Layout). luma_macroblock a at (m % width) (m / width) (buffer mid)) is (layout_same old mid shape))

chroma_more : (edges : ℕ → MbEdges) (width m : ℕ) (e : MbEdges) (old mid new : Plane) → e ≡ edges m → SameShape old mid
    → buffer mid ≡ chroma_filtered edges width (layout_of old) m (buffer old)
    → buffer new ≡ chroma_macroblock e (layout_of mid) (m % width) (m / width) (buffer mid)
    → buffer new ≡ chroma_filtered edges width (layout_of old) (m + 1) (buffer old)
unfolding chroma_filtered
chroma_more edges width m e old mid new is shape so_far next =
    steps_more (λ i. chroma_macroblock (edges i) (layout_of old) (i % width) (i / width)) m (buffer old) (buffer mid) (buffer new) so_far
    (next ∙ ap₂ (λ (a : MbEdges) (at : Layout). chroma_macroblock a at (m % width) (m / width) (buffer mid)) is (layout_same old mid shape))

pub filtered_more : (edges : ℕ → MbEdges) (width m : ℕ) (e : MbEdges) (old mid new : Picture) → e ≡ edges m → FilteredTo edges width m old mid
    → SameShape mid.y new.y → buffer new.y ≡ luma_macroblock e (layout_of mid.y) (m % width) (m / width) (buffer mid.y)
    → SameShape mid.cb new.cb → buffer new.cb ≡ chroma_macroblock e (layout_of mid.cb) (m % width) (m / width) (buffer mid.cb)
    → SameShape mid.cr new.cr → buffer new.cr ≡ chroma_macroblock e (layout_of mid.cr) (m % width) (m / width) (buffer mid.cr)
    → FilteredTo edges width (m + 1) old new
filtered_more edges width m e old mid new is so_far sy ly sb lb sr lr = record {
  shapes = (shape_next old.y mid.y new.y so_far.shapes.0 sy, shape_next old.cb mid.cb new.cb so_far.shapes.1 sb, shape_next old.cr mid.cr new.cr so_far.shapes.2 sr);
  luma = luma_more edges width m e old.y mid.y new.y is so_far.shapes.0 so_far.luma ly;
  cb = chroma_more edges width m e old.cb mid.cb new.cb is so_far.shapes.1 so_far.cb lb;
  cr = chroma_more edges width m e old.cr mid.cr new.cr is so_far.shapes.2 so_far.cr lr;
}

-- a plane's buffer shows its samples
start_of_row : (y w pad : ℕ) → (y + pad) * (w + 2 * pad) + pad ≡ pad * (w + 2 * pad) + pad + y * (w + 2 * pad)
start_of_row y w pad = grind arith

pub plane_shows : (p : Plane) → Shows (p.pad * (p.width + 2 * p.pad) + p.pad) (p.width + 2 * p.pad) p.width p.height (buffer p) (samples_of p)
plane_shows p = record {
  each = λ y x hy hx.
      let start : row_start p y + x ≡ p.pad * (p.width + 2 * p.pad) + p.pad + y * (p.width + 2 * p.pad) + x = omega (arith, start_of_row y p.width p.pad) in
      let long : x < row_start p y + p.width - row_start p y = omega arith in
      ap (λ (n : ℕ). get_or (buffer p) n 0) (sym start)
      ∙ sym (get_or-drop (row_start p y) (buffer p) x 0)
      ∙ sym (get_or-take (row_start p y + p.width - row_start p y) (drop (row_start p y) (buffer p)) x 0 long)
      ∙ ap (λ (l : List ℕ). get_or l x 0) (row_of_samples p y hy)
      ∙ get_or-take p.width (drop (y * p.width) (samples_of p)) x 0 hx
      ∙ get_or-drop (y * p.width) (samples_of p) x 0;
  room = λ y x hy hx. omega (arith, row_fits p y hy, start_of_row y p.width p.pad);
  size = samples_length p;
}

-- so does the buffer of a plane of the same shape
shows_of : (p q : Plane) → SameShape p q → Shows (p.pad * (p.width + 2 * p.pad) + p.pad) (p.width + 2 * p.pad) p.width p.height (buffer q) (samples_of q)
shows_of p q s =
    let P : ℕ → ℕ → ℕ → Type 0 = λ w h pad. Shows (pad * (w + 2 * pad) + pad) (w + 2 * pad) w h (buffer q) (samples_of q) in
    subst (λ (w : ℕ). P w p.height p.pad) s.0 (subst (λ (h : ℕ). P q.width h p.pad) s.1 (subst (λ (pad : ℕ). P q.width q.height pad) s.2 (plane_shows q)))

module _ (pictures0 pictures1 : List ℤ) (records : List MbRecord) (width : ℕ) where
  abbrev the_edges : ℕ → MbEdges
  the_edges = edges_of pictures0 pictures1 records width

  not_zero : (n : ℕ) → not (n == 0) ≡ true → 0 < n
  not_zero zero e = absurd (cc)
  not_zero (suc n) e = omega arith

  pub left_placed : (m : ℕ) → (the_edges m).left ≡ true → 0 < m % width
  unfolding edges_of edges_between
  left_placed m = not_zero (m % width)

  pub above_placed : (m : ℕ) → (the_edges m).above ≡ true → 0 < m / width
  unfolding edges_of edges_between
  above_placed m = not_zero (m / width)

luma_plane : (pictures0 pictures1 : List ℤ) (records : List MbRecord) (n : ℕ) (old new : Plane) → SameShape old new → n ≡ old.width / 16 * (old.height / 16)
    → buffer new ≡ luma_filtered (edges_of pictures0 pictures1 records (old.width / 16)) (old.width / 16) (layout_of old) n (buffer old)
    → samples_of new ≡ luma_filtered (edges_of pictures0 pictures1 records (old.width / 16)) (old.width / 16) (rows_of old.width) n (samples_of old)
luma_plane pictures0 pictures1 records n old new shape count done =
    let width : ℕ = old.width / 16 in
    shown_same (old.pad * (old.width + 2 * old.pad) + old.pad) (old.width + 2 * old.pad) old.width old.height (buffer new) (samples_of new) _ (old.size.0)
    (shows_of old new shape)
    (rw done (luma_filtered_shown (old.pad * (old.width + 2 * old.pad) + old.pad) (old.width + 2 * old.pad) old.width old.height (omega arith)
    (edges_of pictures0 pictures1 records width) width n (buffer old) (samples_of old)
    (λ m lt. (
      left_placed pictures0 pictures1 records width m,
      above_placed pictures0 pictures1 records width m,
      in_luma_column m old.width (some_columns m width (old.height / 16) n count lt),
      in_luma_row m old.width old.height n count lt,
    ))
    (plane_shows old)))

half_column : (x w v : ℕ) → v + v ≡ w → 16 * x + 16 ≤ w → 8 * x + 8 ≤ v
half_column x w v e h = omega arith

half_width : (w v : ℕ) → v + v ≡ w → w / 2 ≡ v
half_width w v e = omega arith

chroma_plane : (pictures0 pictures1 : List ℤ) (records : List MbRecord) (n luma_width luma_height : ℕ) (old new : Plane) → SameShape old new
    → old.width + old.width ≡ luma_width → old.height + old.height ≡ luma_height → n ≡ luma_width / 16 * (luma_height / 16)
    → buffer new ≡ chroma_filtered (edges_of pictures0 pictures1 records (luma_width / 16)) (luma_width / 16) (layout_of old) n (buffer old)
    → samples_of new ≡ chroma_filtered (edges_of pictures0 pictures1 records (luma_width / 16)) (luma_width / 16) (rows_of (luma_width / 2)) n (samples_of old)
chroma_plane pictures0 pictures1 records n luma_width luma_height old new shape wide high count done =
    let width : ℕ = luma_width / 16 in
    shown_same (old.pad * (old.width + 2 * old.pad) + old.pad) (old.width + 2 * old.pad) old.width old.height (buffer new) (samples_of new)
    (chroma_filtered (edges_of pictures0 pictures1 records width) width (rows_of old.width) n (samples_of old)) (old.size.0)
    (shows_of old new shape)
    (rw done (chroma_filtered_shown (old.pad * (old.width + 2 * old.pad) + old.pad) (old.width + 2 * old.pad) old.width old.height (omega arith)
    (edges_of pictures0 pictures1 records width) width n (buffer old) (samples_of old)
    (λ m lt. (
      left_placed pictures0 pictures1 records width m,
      above_placed pictures0 pictures1 records width m,
      half_column _ luma_width old.width wide (in_luma_column m luma_width (some_columns m width (luma_height / 16) n count lt)),
      half_column _ luma_height old.height high (in_luma_row m luma_width luma_height n count lt),
    ))
    (plane_shows old)))
    ∙ ap (λ (v : ℕ). chroma_filtered (edges_of pictures0 pictures1 records width) width (rows_of v) n (samples_of old)) (sym (half_width luma_width old.width wide))

planes_same : (a b c d e f : List ℕ) → a ≡ d → b ≡ e → c ≡ f → (let p : Planes = record { luma = a; cb = b; cr = c } in let q : Planes = record { luma = d; cb = e; cr = f } in p ≡ q)
planes_same a b c d e f x y z = cc

pub filtered_all : (pictures0 pictures1 : List ℤ) (records : List MbRecord) (m : ℕ) (old new : Picture) → length records ≡ old.y.width / 16 * (old.y.height / 16) → m ≡ length records
    → FilteredTo (edges_of pictures0 pictures1 records (old.y.width / 16)) (old.y.width / 16) m old new
    → planes_of new ≡ picture_filtered pictures0 pictures1 records old.y.width (planes_of old)
unfolding picture_filtered
filtered_all pictures0 pictures1 records m old new count whole done =
    let n : ℕ = length records in
    let edges : ℕ → MbEdges = edges_of pictures0 pictures1 records (old.y.width / 16) in
    planes_same (samples_of new.y) (samples_of new.cb) (samples_of new.cr) _ _ _
    (luma_plane pictures0 pictures1 records n old.y new.y done.shapes.0 count
    (done.luma ∙ ap (λ (k : ℕ). luma_filtered edges (old.y.width / 16) (layout_of old.y) k (buffer old.y)) whole))
    (chroma_plane pictures0 pictures1 records n old.y.width old.y.height old.cb new.cb done.shapes.1 old.widths.0 old.heights.0 count
    (done.cb ∙ ap (λ (k : ℕ). chroma_filtered edges (old.y.width / 16) (layout_of old.cb) k (buffer old.cb)) whole))
    (chroma_plane pictures0 pictures1 records n old.y.width old.y.height old.cr new.cr done.shapes.2 old.widths.1 old.heights.1 count
    (done.cr ∙ ap (λ (k : ℕ). chroma_filtered edges (old.y.width / 16) (layout_of old.cr) k (buffer old.cr)) whole))
