-- Sizes of pictures that stay, blank planes, and answers.
use Rattle.std.proofs.Common.{◌≡◌, ℕ, ◌+◌, ◌*◌, ◌/◌, ◌<◌, ◌≤◌, Bool, true, false, List, ◌++◌, length, replicate, sym, ap, ap₂, ◌∙◌, arith}
use Rattle.std.specs.Prelude.{Result, Ok, Err, is_err, OnOk}
use Rattle.std.proofs.lemmas.Bool.{false≢true}
use Rattle.picture_planes.specs.declared.plane.Plane.{Plane}
use Rattle.picture_planes.specs.declared.picture.Picture.{Picture}
use Rattle.picture_planes.specs.Clamped.{rounded}
use Rattle.picture_planes.specs.Samples.{SameShape}
use Rattle.picture_planes.specs.Pictures.{SameShapes}
use Rattle.bit_strings.specs.BitText.{BitText, Appends}
use Rattle.spec_film.specs.Films.{Planes}
use Rattle.spec_decoder.specs.Frames.{blank_planes}
use Rattle.picture_coder.specs.declared.coding.Coding.{Coding}
use Rattle.picture_coder.specs.declared.job.Job.{Job}
use Rattle.picture_coder.specs.Pictures.{IsCoding}

-- ---- answers

pub on_ok : {A E : Type 0} {X : Type 0} (answer : Result A E) → is_err answer ≡ false → OnOk answer X → X
on_ok (Ok a) good x = x
on_ok (Err e) good x = absurd (false≢true (sym good))

pub both_ok : {A E : Type 0} {X Y Z : Type 0} (answer : Result A E) → (X → Y → Z) → OnOk answer X → OnOk answer Y → OnOk answer Z
both_ok (Ok a) f x y = f x y
both_ok (Err e) f x y = tt

pub if_done : {E : Type 0} (answer : Result (Unit {0}) E) (old new : BitText) (more : List Bool) → is_err answer ≡ false → Appends old new more answer → (length old.text + length more ≤ old.room) × (new ≡ record old { text = old.text ++ more })
if_done (Ok a) old new more good x = x
if_done (Err e) old new more good x = absurd (false≢true (sym good))

pub if_full : {E : Type 0} (answer : Result (Unit {0}) E) (old new : BitText) (more : List Bool) → is_err answer ≡ true → Appends old new more answer → (old.room < length old.text + length more) × (new ≡ old)
if_full (Ok a) old new more bad x = absurd (false≢true bad)
if_full (Err e) old new more bad x = x

-- ---- sizes

shape_to : (a b c : Plane) → SameShape a b → SameShape a c → SameShape b c
shape_to a b c (p, q, r) (s, t, u) = (s ∙ sym p, t ∙ sym q, u ∙ sym r)

shape_then : (a b c : Plane) → SameShape a b → SameShape b c → SameShape a c
shape_then a b c (p, q, r) (s, t, u) = (s ∙ p, t ∙ q, u ∙ r)

pub shapes_to : (a b c : Picture) → SameShapes a b → SameShapes a c → SameShapes b c
shapes_to a b c (p, q, r) (s, t, u) = (shape_to a.y b.y c.y p s, shape_to a.cb b.cb c.cb q t, shape_to a.cr b.cr c.cr r u)

pub shapes_then : (a b c : Picture) → SameShapes a b → SameShapes b c → SameShapes a c
shapes_then a b c (p, q, r) (s, t, u) = (shape_then a.y b.y c.y p s, shape_then a.cb b.cb c.cb q t, shape_then a.cr b.cr c.cr r u)

pub width_kept : (a b : Picture) → SameShapes a b → b.y.width ≡ a.y.width
width_kept a b ((w, h, p), q, r) = w

pub height_kept : (a b : Picture) → SameShapes a b → b.y.height ≡ a.y.height
height_kept a b ((w, h, p), q, r) = h

with_sizes : (c : Coding) (j : Job) (a b : Picture) → b.y.width ≡ 16 * c.across → b.y.height ≡ 16 * c.down → IsCoding c j a → IsCoding c j b
with_sizes c j a b wide high is = record {
  job = is.job;
  wide = wide;
  high = high;
  across_some = is.across_some;
  across_fits = is.across_fits;
  down_fits = is.down_fits;
  some = is.some;
  few = is.few;
  qp = is.qp;
  greatest = is.greatest;
}

pub coding_kept : (c : Coding) (j : Job) (a b : Picture) → SameShapes a b → IsCoding c j a → IsCoding c j b
coding_kept c j a b s is = with_sizes c j a b (width_kept a b s ∙ is.wide) (height_kept a b s ∙ is.high) is

whole : (n : ℕ) → rounded (16 * n) ≡ 16 * n
whole n = omega arith

-- the source has the picture's size
pub source_coding : (c : Coding) (j : Job) (p : Picture) → IsCoding c j p → IsCoding c j j.source.now
source_coding c j p is = with_sizes c j p j.source.now (is.job.source.luma.0 ∙ whole c.across) (is.job.source.luma.1 ∙ whole c.down) is

pub sixteenth : (w a : ℕ) → w ≡ 16 * a → w / 16 ≡ a
sixteenth w a e = omega arith

-- a record for each macroblock
pub count_is : (c : Coding) (j : Job) (p : Picture) (n : ℕ) → IsCoding c j p → n ≡ c.down * c.across → n ≡ p.y.width / 16 * (p.y.height / 16)
count_is c j p n is e = e ∙ turned c.down c.across ∙ ap₂ (λ (a d : ℕ). a * d) (sym (sixteenth p.y.width c.across is.wide)) (sym (sixteenth p.y.height c.down is.high))
  where
    turned : (d a : ℕ) → d * a ≡ a * d
    turned d a = omega arith

pub made_count : (across down n m : ℕ) → m ≡ 16 * across / 16 * (16 * down / 16) → n ≡ down * across → m ≡ n
made_count across down n m e f = e ∙ ap₂ (λ (a d : ℕ). a * d) (sixteens across) (sixteens down) ∙ turned across down ∙ sym f
  where
    sixteens : (k : ℕ) → 16 * k / 16 ≡ k
    sixteens k = omega arith

    turned : (a d : ℕ) → a * d ≡ d * a
    turned a d = omega arith

-- ---- blank planes

pub three : (a b c a' b' c' : List ℕ) → a ≡ a' → b ≡ b' → c ≡ c' → (let p : Planes = record { luma = a; cb = b; cr = c } in let q : Planes = record { luma = a'; cb = b'; cr = c' } in p ≡ q)
three a b c a' b' c' e f g =
    ap (λ (x : List ℕ). let p : Planes = record { luma = x; cb = b; cr = c } in p) e
    ∙ ap (λ (x : List ℕ). let p : Planes = record { luma = a'; cb = x; cr = c } in p) f
    ∙ ap (λ (x : List ℕ). let p : Planes = record { luma = a'; cb = b'; cr = x } in p) g

zeros : (xs : List ℕ) (h w m n : ℕ) → h ≡ m → w ≡ n → xs ≡ replicate {A = ℕ} (h * w) 0 → xs ≡ replicate {A = ℕ} (m * n) 0
zeros xs h w m n e f is = is ∙ ap (λ (k : ℕ). replicate {A = ℕ} (k * w) 0) e ∙ ap (λ (k : ℕ). replicate {A = ℕ} (m * k) 0) f

half : (n w a : ℕ) → n + n ≡ w → w ≡ 16 * a → n ≡ 8 * a
half n w a e f = omega arith

pub blank_is : (across down : ℕ) (p : Picture) (y cb cr : List ℕ) → p.y.width ≡ 16 * across → p.y.height ≡ 16 * down
    → y ≡ replicate {A = ℕ} (p.y.height * p.y.width) 0 → cb ≡ replicate {A = ℕ} (p.cb.height * p.cb.width) 0 → cr ≡ replicate {A = ℕ} (p.cr.height * p.cr.width) 0
    → (let q : Planes = record { luma = y; cb = cb; cr = cr } in q ≡ blank_planes across down)
unfolding blank_planes
blank_is across down p y cb cr wide high a b c =
    three y cb cr (replicate (16 * down * (16 * across)) 0) (replicate (8 * down * (8 * across)) 0) (replicate (8 * down * (8 * across)) 0)
    (zeros y p.y.height p.y.width (16 * down) (16 * across) high wide a)
    (zeros cb p.cb.height p.cb.width (8 * down) (8 * across) (half p.cb.height p.y.height down p.heights.0 high) (half p.cb.width p.y.width across p.widths.0 wide) b)
    (zeros cr p.cr.height p.cr.width (8 * down) (8 * across) (half p.cr.height p.y.height down p.heights.1 high) (half p.cr.width p.y.width across p.widths.1 wide) c)
