-- A plane is filled with rows, which are padded.
use Rattle.std.proofs.Common.{ℕ, suc, ◌+◌, ◌-◌, ◌*◌, ◌≡◌, ◌<◌, ◌≤◌, min, List, ◌++◌, length, take, drop, Option, Some, None, refl, ap, ap₂, sym, ◌∙◌, arith, subst}
use Rattle.std.specs.Prelude.{IfSome}
use Rattle.std.proofs.lemmas.Grind.{common_steps}
use native.Mathlib.Nat.{mul-le-mul_right}
use Rattle.enc_edge.specs.declared.studio.Place.TheVariants.{Input}
use Rattle.enc_edge.specs.Seen.{Seen}
use Rattle.enc_edge.specs.Calls.{took}
use Rattle.enc_edge.specs.Reads.{ReadFailedWithin}
use Rattle.enc_edge.proofs.Spots.{took_none}
use Rattle.spec_film.specs.Over.{over}
use Rattle.spec_film.specs.Padding.{row_at, widened, widened_rows, repeated, padded_plane}
use Rattle.spec_film.proofs.OverLaws.{over_nothing, over_next, over_all}
use Rattle.spec_film.proofs.PaddingLaws.{widened_length, rows_length, repeated_length, rows_then, rows_of_front}
use Rattle.picture_planes.specs.declared.plane.Plane.{Plane}
use Rattle.picture_planes.specs.Samples.{row_of, samples_of, SameShape}
use Rattle.picture_planes.proofs.SampleLaws.{samples_length, before_end, row_of_samples}
use Rattle.y4m_film.specs.Parts.{PartRead}
use Rattle.y4m_film.proofs.Joining.{part_then, part_of, fail_then}

sum_times : (a b w : ℕ) → (a + b) * w ≡ a * w + b * w
sum_times a b w = grind arith

one_more : (n : ℕ) → n + 1 ≡ suc n
one_more n = omega arith

front_within : (n : ℕ) (xs : List ℕ) → length (take n xs) ≤ n
front_within n xs = grind (arith, common_steps)

next_row : (width wide n : ℕ) (xs : List ℕ) → widened_rows width wide (n + 1) xs ≡ widened_rows width wide n xs ++ widened wide (row_at width n xs)
unfolding widened_rows
next_row width wide n xs = ap (λ (k : ℕ). widened_rows width wide k xs) (one_more n)

-- ---- rows that are there

-- the first n rows of these samples are written from row `first` on
pub record RowsMade (first n width : ℕ) (samples : List ℕ) (old new : Plane) : Type 0 where
  pub shape : SameShape old new
  pub rows : samples_of new ≡ over (samples_of old) (first * old.width) (widened_rows width old.width n samples)

pub made_none : (first width : ℕ) (samples : List ℕ) (p : Plane) → RowsMade first 0 width samples p p
unfolding widened_rows
made_none first width samples p = record { shape = (refl, refl, refl); rows = over_nothing (samples_of p) (first * p.width) }

pub made_more : (first n width : ℕ) (samples part : List ℕ) (old mid new : Plane) → RowsMade first n width samples old mid → first + n < old.height → width ≤ old.width
    → part ≡ row_at width n samples → SameShape mid new → samples_of new ≡ over (samples_of mid) ((first + n) * mid.width) (widened mid.width part) → RowsMade first (n + 1) width samples old new
made_more first n width samples part old mid new so_far inside narrow is shape made =
    let w : mid.width ≡ old.width = so_far.shape.0 in
    let u : List ℕ = widened_rows width old.width n samples in
    let lu : length (widened_rows width old.width n samples) ≡ n * old.width = rows_length width old.width n samples narrow in
    let lv : length (widened old.width (row_at width n samples)) ≡ old.width = widened_length old.width (row_at width n samples) (omega (arith, front_within width (drop (n * width) samples), narrow)) in
    let place : (first + n) * old.width ≡ first * old.width + length (widened_rows width old.width n samples) = sum_times first n old.width ∙ ap (λ (k : ℕ). first * old.width + k) (sym lu) in
    let end : (first + n) * old.width + old.width ≤ old.height * old.width = before_end (first + n) old.height old.width inside in
    record {
      shape = (shape.0 ∙ so_far.shape.0, shape.1 ∙ so_far.shape.1, shape.2 ∙ so_far.shape.2);
      rows =
          made
          ∙ ap (λ (k : ℕ). over (samples_of mid) ((first + n) * k) (widened k part)) w
          ∙ ap₂ (λ (xs ys : List ℕ). over xs ((first + n) * old.width) (widened old.width ys)) so_far.rows is
          ∙ over_next (samples_of old) (widened_rows width old.width n samples) (widened old.width (row_at width n samples)) (first * old.width) ((first + n) * old.width) place (omega (arith, end, lv, samples_length old))
          ∙ ap (λ (l : List ℕ). over (samples_of old) (first * old.width) l) (sym (next_row width old.width n samples));
    }

-- ---- the last row

-- the row was written from row `height` on to row y
pub record RowsRepeated (height y : ℕ) (row : List ℕ) (old new : Plane) : Type 0 where
  pub shape : SameShape old new
  pub from : height ≤ y
  pub rows : samples_of new ≡ over (samples_of old) (height * old.width) (repeated (y - height) row)

pub repeated_none : (height : ℕ) (row : List ℕ) (p : Plane) → RowsRepeated height height row p p
unfolding repeated
repeated_none height row p = record {
  shape = (refl, refl, refl);
  from = omega arith;
  rows = over_nothing (samples_of p) (height * p.width) ∙ ap (λ (k : ℕ). over (samples_of p) (height * p.width) (repeated k row)) (none height);
}
  where
    none : (n : ℕ) → 0 ≡ n - n
    none n = omega arith

again : (n : ℕ) (row : List ℕ) → repeated (suc n) row ≡ repeated n row ++ row
unfolding repeated
again n row = refl

pub repeated_more : (height y : ℕ) (row given : List ℕ) (old mid new : Plane) → RowsRepeated height y row old mid → y < old.height → length row ≡ old.width → given ≡ row → SameShape mid new
    → samples_of new ≡ over (samples_of mid) (y * mid.width) given → RowsRepeated height (y + 1) row old new
repeated_more height y row given old mid new so_far inside long is shape made =
    let w : mid.width ≡ old.width = so_far.shape.0 in
    let k : ℕ = y - height in
    let lu : length (repeated (y - height) row) ≡ (y - height) * old.width = repeated_length (y - height) row ∙ ap (λ (n : ℕ). (y - height) * n) long in
    let place : y * old.width ≡ height * old.width + length (repeated (y - height) row) =
    ap (λ (n : ℕ). n * old.width) (whole y height so_far.from) ∙ sum_times height (y - height) old.width ∙ ap (λ (n : ℕ). height * old.width + n) (sym lu) in
    let end : y * old.width + old.width ≤ old.height * old.width = before_end y old.height old.width inside in
    record {
      shape = (shape.0 ∙ so_far.shape.0, shape.1 ∙ so_far.shape.1, shape.2 ∙ so_far.shape.2);
      from = omega (arith, so_far.from);
      rows =
          made
          ∙ ap (λ (n : ℕ). over (samples_of mid) (y * n) given) w
          ∙ ap₂ (λ (xs ys : List ℕ). over xs (y * old.width) ys) so_far.rows is
          ∙ over_next (samples_of old) (repeated (y - height) row) row (height * old.width) (y * old.width) place (omega (arith, end, long, samples_length old))
          ∙ ap (λ (l : List ℕ). over (samples_of old) (height * old.width) l) (sym (again (y - height) row))
          ∙ ap (λ (n : ℕ). over (samples_of old) (height * old.width) (repeated n row)) (step y height so_far.from);
    }
  where
    whole : (a b : ℕ) → b ≤ a → a ≡ b + (a - b)
    whole a b h = omega arith

    step : (a b : ℕ) → b ≤ a → suc (a - b) ≡ a + 1 - b
    step a b h = omega arith

-- ---- rows that are read

all_told : (all width wide rows : ℕ) (start : ℕ) (piece : List ℕ) (old new : List ℕ) (o : Option (List ℕ)) → all ≡ rows * width → length piece ≡ all
    → IfSome o (λ left. (all ≡ min all (length left)) × (take all piece ≡ take all left)) → new ≡ over old start (widened_rows width wide rows piece)
    → IfSome o (λ left. (all ≤ length left) × (new ≡ over old start (widened_rows width wide rows left)))
all_told all width wide rows start piece old new None is long read made = tt
all_told all width wide rows start piece old new (Some left) is long read made = (
  enough all (length left) read.0,
  made ∙ ap (λ (l : List ℕ). over old start (widened_rows width wide rows l)) (sym (whole piece all long) ∙ read.1)
      ∙ ap (λ (l : List ℕ). over old start l) (rows_of_front width wide rows all left (omega (arith, is))),
)
  where
    enough : (a l : ℕ) → a ≡ min a l → a ≤ l
    enough a l e = omega arith

    whole : (xs : List ℕ) (n : ℕ) → length xs ≡ n → take n xs ≡ xs
    whole xs n e = grind (arith, common_steps)

ended_told : (all n : ℕ) (piece : List ℕ) (o : Option (List ℕ)) → n < all → IfSome o (λ left. (n ≡ min all (length left)) × (take n piece ≡ take n left)) → IfSome o (λ left. length left ≡ n)
ended_told all n piece None few read = tt
ended_told all n piece (Some left) few read = short (length left) read.0
  where
    short : (l : ℕ) → n ≡ min all l → l ≡ n
    short l e = omega (arith, few)

-- by what one read of `all` bytes told
pub rows_read : (width rows first room n : ℕ) (piece : List ℕ) (old new : Plane) (start last : Seen) → room ≡ rows * width → length piece ≡ room → n ≤ room
    → IfSome start.input.bytes (λ left. (n ≡ min room (length left)) × (take n piece ≡ take n left)) → last ≡ took Input n start
    → (n ≡ room → samples_of new ≡ over (samples_of old) (first * old.width) (widened_rows width old.width rows piece))
    → PartRead (rows * width) n (λ left. samples_of new ≡ over (samples_of old) (first * old.width) (widened_rows width old.width rows left)) start last
rows_read width rows first room n piece old new start last is long within told change made = record {
  within = omega (arith, is);
  change = change;
  whole = λ e.
      let same : n ≡ room = e ∙ sym is in
      subst (λ (k : ℕ). IfSome start.input.bytes (λ left. (k ≤ length left) × (samples_of new ≡ over (samples_of old) (first * old.width) (widened_rows width old.width rows left)))) is
      (all_told room width old.width rows (first * old.width) piece (samples_of old) (samples_of new) start.input.bytes is long
      (subst (λ (k : ℕ). IfSome start.input.bytes (λ left. (k ≡ min room (length left)) × (take k piece ≡ take k left))) same told) (made same));
  few = λ few. ended_told room n piece start.input.bytes (omega (arith, is)) told;
}

-- what the first rows of the bytes make of the plane
abbrev pub Filled : ℕ → ℕ → Plane → Plane → List ℕ → Type 0
Filled width n old new left = samples_of new ≡ over (samples_of old) 0 (widened_rows width old.width n left)

pub record Filling (n width height : ℕ) (old new : Plane) (first mid : Seen) : Type 0 where
  pub shape : SameShape old new
  pub within : n ≤ height
  pub read : PartRead (n * width) (n * width) (Filled width n old new) first mid

filled_none : (width : ℕ) (p : Plane) (o : Option (List ℕ)) → IfSome o (λ left. (0 * width ≤ length left) × Filled width 0 p p left)
unfolding widened_rows
filled_none width p None = tt
filled_none width p (Some left) = (nothing width (length left), over_nothing (samples_of p) 0)
  where
    nothing : (w l : ℕ) → 0 * w ≤ l
    nothing w l = omega (arith, sym (zero_times w))
      where
        zero_times : (w : ℕ) → 0 ≡ 0 * w
        zero_times w = grind arith

pub filling_none : (width height : ℕ) (p : Plane) (s : Seen) → Filling 0 width height p p s s
filling_none width height p s = record {
  shape = (refl, refl, refl);
  within = omega arith;
  read = record {
    within = omega arith;
    change = sym (took_none s) ∙ ap (λ (k : ℕ). took Input k s) (nothing width);
    whole = λ _. filled_none width p s.input.bytes;
    few = λ h. absurd (omega arith);
  };
}
  where
    nothing : (w : ℕ) → 0 ≡ 0 * w
    nothing w = grind arith

-- more rows behind those that are there
rows_filled : (width n rows : ℕ) (old mid new : Plane) (left : List ℕ) → SameShape old mid → n + rows ≤ old.height → width ≤ old.width → Filled width n old mid left
    → samples_of new ≡ over (samples_of mid) (n * mid.width) (widened_rows width mid.width rows (drop (n * width) left)) → Filled width (n + rows) old new left
rows_filled width n rows old mid new left shape inside narrow filled made =
    let w : mid.width ≡ old.width = shape.0 in
    let u : List ℕ = widened_rows width old.width n left in
    let v : List ℕ = widened_rows width old.width rows (drop (n * width) left) in
    let lu : length (widened_rows width old.width n left) ≡ n * old.width = rows_length width old.width n left narrow in
    let lv : length (widened_rows width old.width rows (drop (n * width) left)) ≡ rows * old.width = rows_length width old.width rows (drop (n * width) left) narrow in
    let end : (n + rows) * old.width ≤ old.height * old.width = mul-le-mul_right old.width inside in
    made
    ∙ ap (λ (k : ℕ). over (samples_of mid) (n * k) (widened_rows width k rows (drop (n * width) left))) w
    ∙ ap (λ (l : List ℕ). over l (n * old.width) (widened_rows width old.width rows (drop (n * width) left))) filled
    ∙ over_next (samples_of old) (widened_rows width old.width n left) (widened_rows width old.width rows (drop (n * width) left)) 0 (n * old.width) (omega (arith, lu)) (omega (arith, end, lv, sum_times n rows old.width, samples_length old))
    ∙ ap (λ (l : List ℕ). over (samples_of old) 0 l) (sym (rows_then width old.width n rows left))

pub filling_more : (n rows m width height : ℕ) (old mid new : Plane) (first between last : Seen) → Filling n width height old mid first between → n + rows ≤ height → height ≤ old.height → width ≤ old.width
    → SameShape mid new → m ≡ rows * width
    → PartRead (rows * width) m (λ left. samples_of new ≡ over (samples_of mid) (n * mid.width) (widened_rows width mid.width rows left)) between last
    → Filling (n + rows) width height old new first last
filling_more n rows m width height old mid new first between last so_far inside room narrow shape all part =
    let whole : PartRead (n * width + rows * width) (n * width + rows * width) (Filled width (n + rows) old new) first last =
    subst (λ (k : ℕ). PartRead (n * width + rows * width) (n * width + k) (Filled width (n + rows) old new) first last) all
    (part_of (n * width + rows * width) (n * width + m) _ (Filled width (n + rows) old new) first last
    (λ left long both. rows_filled width n rows old mid new left so_far.shape (omega arith) narrow both.0 both.1)
    (part_then (n * width) (rows * width) (n * width) m (Filled width n old mid) (λ left. samples_of new ≡ over (samples_of mid) (n * mid.width) (widened_rows width mid.width rows left)) first between last refl so_far.read part)) in
    record {
      shape = (shape.0 ∙ so_far.shape.0, shape.1 ∙ so_far.shape.1, shape.2 ∙ so_far.shape.2);
      within = inside;
      read = subst (λ (k : ℕ). PartRead k k (Filled width (n + rows) old new) first last) (sym (sum_times n rows width)) whole;
    }

pub filling_few : (n rows m width height : ℕ) (old mid new : Plane) (first between last : Seen) → Filling n width height old mid first between → n + rows ≤ height → m < rows * width
    → PartRead (rows * width) m (λ left. samples_of new ≡ over (samples_of mid) (n * mid.width) (widened_rows width mid.width rows left)) between last
    → PartRead (height * width) (n * width + m) (Filled width height old new) first last
filling_few n rows m width height old mid new first between last so_far inside few part =
    let sums : (n + rows) * width ≡ n * width + rows * width = sum_times n rows width in
    let end : (n + rows) * width ≤ height * width = mul-le-mul_right width inside in
    let both = part_then (n * width) (rows * width) (n * width) m (Filled width n old mid) (λ left. samples_of new ≡ over (samples_of mid) (n * mid.width) (widened_rows width mid.width rows left)) first between last refl so_far.read part in
    let short : n * width + m < n * width + rows * width = omega (arith, few) in
    record {
      within = omega (arith, sums, end, few);
      change = both.change;
      whole = λ is. absurd (never (n * width + m) (n * width + rows * width) (height * width) short (omega (arith, sums, end)) is);
      few = λ _. both.few short;
    }
  where
    never : (a b c : ℕ) → a < b → b ≤ c → a ≡ c → ⊥
    never a b c h k e = omega arith

pub filling_failed : (n rows width height : ℕ) (old mid : Plane) (first between last : Seen) → Filling n width height old mid first between → n + rows ≤ height → ReadFailedWithin (rows * width) between last
    → ReadFailedWithin (height * width) first last
filling_failed n rows width height old mid first between last so_far inside failed =
    let sums : (n + rows) * width ≡ n * width + rows * width = sum_times n rows width in
    let end : (n + rows) * width ≤ height * width = mul-le-mul_right width inside in
    let f = fail_then (n * width) (rows * width) (n * width) (Filled width n old mid) first between last refl so_far.read failed in
    record { count = f.count; few = omega (arith, f.few, sums, end); there = f.there; failed = f.failed }

pub filling_all : (n width height : ℕ) (old new : Plane) (first last : Seen) → Filling n width height old new first last → height ≤ n → PartRead (height * width) (height * width) (Filled width height old new) first last
filling_all n width height old new first last filling h =
    let is : n ≡ height = omega (arith, filling.within) in
    subst (λ (k : ℕ). PartRead (k * width) (k * width) (Filled width k old new) first last) is filling.read

-- ---- the whole plane

-- the last of the rows
last_row : (width height : ℕ) (old mid : Plane) (left : List ℕ) → 0 < height → height ≤ old.height → width ≤ old.width → SameShape old mid → Filled width height old mid left
    → row_of mid (height - 1) ≡ widened old.width (row_at width (height - 1) left)
last_row width height old mid left some room narrow shape filled =
    let w : mid.width ≡ old.width = shape.0 in
    let A : List ℕ = widened_rows width old.width (height - 1) left in
    let B : List ℕ = widened old.width (row_at width (height - 1) left) in
    let la : length (widened_rows width old.width (height - 1) left) ≡ (height - 1) * old.width = rows_length width old.width (height - 1) left narrow in
    let lb : length (widened old.width (row_at width (height - 1) left)) ≡ old.width = widened_length old.width (row_at width (height - 1) left) (omega (arith, front_within width (drop ((height - 1) * width) left), narrow)) in
    let rows : widened_rows width old.width height left ≡ widened_rows width old.width (height - 1) left ++ widened old.width (row_at width (height - 1) left) =
    ap (λ (k : ℕ). widened_rows width old.width k left) (before height some) ∙ next_row width old.width (height - 1) left in
    row_of_samples mid (height - 1) (omega (arith, shape.1))
    ∙ ap (λ (k : ℕ). take k (drop ((height - 1) * k) (samples_of mid))) w
    ∙ ap (λ (l : List ℕ). take old.width (drop ((height - 1) * old.width) l)) (filled ∙ ap (λ (l : List ℕ). over (samples_of old) 0 l) rows)
    ∙ second A B (samples_of old) ((height - 1) * old.width) old.width la lb
  where
    before : (n : ℕ) → 0 < n → n ≡ n - 1 + 1
    before n h = omega arith

    second : (A B xs : List ℕ) (i w : ℕ) → length A ≡ i → length B ≡ w → take w (drop i (over xs 0 (A ++ B))) ≡ B
    second A B xs i w a b = grind (arith, common_steps)

pub plane_padded : (width height : ℕ) (old mid new : Plane) (left : List ℕ) → 0 < height → height ≤ old.height → width ≤ old.width → SameShape old mid → Filled width height old mid left
    → samples_of new ≡ over (samples_of mid) (height * mid.width) (repeated (mid.height - height) (row_of mid (height - 1)))
    → samples_of new ≡ padded_plane width height old.width old.height left
unfolding padded_plane
plane_padded width height old mid new left some room narrow shape filled made =
    let w : mid.width ≡ old.width = shape.0 in
    let A : List ℕ = widened_rows width old.width height left in
    let row : List ℕ = widened old.width (row_at width (height - 1) left) in
    let la : length (widened_rows width old.width height left) ≡ height * old.width = rows_length width old.width height left narrow in
    let lr : length (widened old.width (row_at width (height - 1) left)) ≡ old.width = widened_length old.width (row_at width (height - 1) left) (omega (arith, front_within width (drop ((height - 1) * width) left), narrow)) in
    let lb : length (repeated (old.height - height) (widened old.width (row_at width (height - 1) left))) ≡ (old.height - height) * old.width = repeated_length (old.height - height) (widened old.width (row_at width (height - 1) left)) ∙ ap (λ (n : ℕ). (old.height - height) * n) lr in
    let total : height * old.width + (old.height - height) * old.width ≡ old.height * old.width = sym (sum_times height (old.height - height) old.width) ∙ ap (λ (n : ℕ). n * old.width) (whole height old.height room) in
    made
    ∙ ap (λ (k : ℕ). over (samples_of mid) (height * k) (repeated (mid.height - height) (row_of mid (height - 1)))) w
    ∙ ap₂ (λ (k : ℕ) (l : List ℕ). over (samples_of mid) (height * old.width) (repeated (k - height) l)) shape.1 (last_row width height old mid left some room narrow shape filled)
    ∙ ap (λ (l : List ℕ). over l (height * old.width) (repeated (old.height - height) (widened old.width (row_at width (height - 1) left)))) filled
    ∙ over_next (samples_of old) (widened_rows width old.width height left) (repeated (old.height - height) (widened old.width (row_at width (height - 1) left))) 0 (height * old.width) (omega (arith, la)) (omega (arith, lb, total, samples_length old))
    ∙ over_all (samples_of old) (widened_rows width old.width height left ++ repeated (old.height - height) (widened old.width (row_at width (height - 1) left))) (both A (repeated (old.height - height) (widened old.width (row_at width (height - 1) left))) ∙ ap₂ (λ (a b : ℕ). a + b) la lb ∙ total ∙ sym (samples_length old))
  where
    whole : (a b : ℕ) → a ≤ b → a + (b - a) ≡ b
    whole a b h = omega arith

    both : (xs ys : List ℕ) → length (xs ++ ys) ≡ length xs + length ys
    both xs ys = grind (arith, common_steps)

-- the front of a buffer that was written
pub front_part : (A B : List ℕ) (n : ℕ) → length A ≡ n → take n (A ++ B) ≡ A
front_part A B n e = grind (arith, common_steps)
