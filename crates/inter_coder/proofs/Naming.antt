-- The references that motion names.
use Rattle.std.proofs.Common.{◌≡◌, ◌<◌, ℕ, zero, suc, ℤ, pos, negsuc, List, [], ◌∷◌, length, map, get_or, Option, Some, None, Bool, true, false, refl, sym, ap, subst, ◌∙◌, arith}
use Rattle.std.specs.Prelude.{int_lt, if◌then◌else◌}
use Rattle.std.specs.List.{slice_get}
use Rattle.std.proofs.lemmas.Int.{ints}
use Rattle.enc_tables.specs.declared.records.Motion.{Motion}
use Rattle.enc_tables.specs.declared.records.Vector.{Vector}
use Rattle.enc_tables.specs.Records.{zero_vector, is_used}
use Rattle.picture_planes.specs.Pictures.{planes_of}
use Rattle.spec_film.specs.Films.{Planes}
use Rattle.spec_inter.specs.Taps.{mean}
use Rattle.spec_lists.specs.References.{Reference as Shown}
use Rattle.spec_partitions.specs.InRange.{MotionFits}
use Rattle.spec_partitions.specs.Records.{RefFits}
use Rattle.spec_partitions.specs.Small.{Small, BlockSmall}
use Rattle.spec_reconstruction.specs.Inter.{source_at, from_both, predicted_by}
use Rattle.ref_lists.specs.declared.held.Reference.{Reference}
use Rattle.ref_lists.specs.Held.{seen, all_seen}
use Rattle.ref_lists.specs.Entries.{entries, ArePlaces}
use Rattle.ref_lists.proofs.Entering.{seen_here, length-seen, length-entries, entry_is}
use Rattle.inter_coder.specs.declared.given.Pictures.{Pictures}
use Rattle.inter_coder.specs.Given.{count0, count1, sources_in, places_in, list_in, from_one, predicted_in, AreLent}

-- of a list of what stands for each item, the item at a place
mapped_at : (f : Shown → Planes) (xs : List Shown) (i : ℕ) (x : Shown) → slice_get xs i ≡ Some x → slice_get (map f xs) i ≡ Some (f x)
mapped_at f [] i x e = let no : None ≡ Some x = e in absurd cc
mapped_at f (y ∷ ys) zero x e = let same : y ≡ x = cc in ap (λ (z : Shown). Some (f z)) same
mapped_at f (y ∷ ys) (suc i) x e = mapped_at f ys i x e

-- the entry of a list that a used index means
pub one_named : (held : List Reference) (places : List ℕ) (i k : ℕ) (r : Reference) → ArePlaces (length held) places → i < length places → k ≡ get_or places i 0 → k < length held → r ≡ get_or held k r
    → source_at (map (λ r. r.planes) (entries (all_seen held) places)) (pos i) ≡ Some (planes_of r.picture)
one_named held places i k r inside less at_k there is =
    let all : ArePlaces (length (all_seen held)) places = subst (λ (n : ℕ). ArePlaces n places) (sym (length-seen seen held)) inside in
    let here : slice_get (all_seen held) (get_or places i 0) ≡ Some (seen r) = ap (λ (j : ℕ). slice_get (all_seen held) j) (sym at_k) ∙ seen_here seen held k r is there in
    mapped_at (λ r. r.planes) (entries (all_seen held) places) i (seen r) (entry_is (all_seen held) places i 0 all less ∙ here)

pub index_below : (entries i : ℕ) (r : ℤ) → pos i ≡ r → RefFits entries r → i < entries
index_below entries i r e fits = (subst (λ (z : ℤ). RefFits entries z) (sym e) fits).0

-- ---- what is predicted from one list, and from both

unused_none : (list : List Planes) (r : ℤ) → is_used r ≡ false → source_at list r ≡ None
unused_none list (pos n) e = absurd cc
unused_none list (negsuc n) e = refl

first_alone : (f : Planes → Vector → ℕ) (o q : Option Planes) (v w : Vector) → q ≡ None → from_one f o v ≡ from_both f o q v w
first_alone f None None v w e = refl
first_alone f (Some p) None v w e = refl
first_alone f o (Some q) v w e = absurd cc

second_alone : (f : Planes → Vector → ℕ) (o q : Option Planes) (v w : Vector) → o ≡ None → from_one f q w ≡ from_both f o q v w
second_alone f None None v w e = refl
second_alone f None (Some q) v w e = refl
second_alone f (Some p) q v w e = absurd cc

none_at_all : (f : Planes → Vector → ℕ) (o q : Option Planes) (v w : Vector) → o ≡ None → q ≡ None → 0 ≡ from_both f o q v w
none_at_all f None None v w e g = refl
none_at_all f (Some p) q v w e g = absurd cc
none_at_all f None (Some q) v w e g = absurd cc

both_there : (f : Planes → Vector → ℕ) (o q : Option Planes) (v w : Vector) (p p' : Planes) → o ≡ Some p → q ≡ Some p' → mean (from_one f o v) (from_one f q w) ≡ from_both f o q v w
both_there f None q v w p p' e g = absurd cc
both_there f (Some x) None v w p p' e g = absurd cc
both_there f (Some x) (Some y) v w p p' e g = refl

-- some picture stands at an entry of a list
entry_there : (list : List Planes) (r : ℤ) → is_used r ≡ true → RefFits (length list) r → (p : Planes) × (source_at list r ≡ Some p)
entry_there list (negsuc n) e h = absurd cc
entry_there list (pos n) e h = go list n h.0
  where
    go : (xs : List Planes) (k : ℕ) → k < length xs → (p : Planes) × (slice_get xs k ≡ Some p)
    go [] k less = absurd (omega (arith, less))
    go (x ∷ xs) zero less = (x, refl)
    go (x ∷ xs) (suc k) less = go xs k (omega (arith, less))

list_long : (held : List Reference) (places : List ℕ) → ArePlaces (length held) places → length (map (λ (r : Shown). r.planes) (entries (all_seen held) places)) ≡ length places
list_long held places inside =
    let all : ArePlaces (length (all_seen held)) places = subst (λ (n : ℕ). ArePlaces n places) (sym (length-seen seen held)) inside in
    mapped_long (entries (all_seen held) places) ∙ length-entries (all_seen held) places all
  where
    mapped_long : (xs : List Shown) → length (map (λ (r : Shown). r.planes) xs) ≡ length xs
    mapped_long [] = refl
    mapped_long (x ∷ xs) = ap suc (mapped_long xs)

module _ (f : Planes → Vector → ℕ) (p : Pictures) (m : Motion) where
  pub by_first : is_used (get_or m.refs 1 (negsuc 0)) ≡ false → predicted_in f (sources_in p) 0 m ≡ predicted_by f (sources_in p) m
  unfolding predicted_by
  by_first e = first_alone f _ _ (get_or m.vectors 0 zero_vector) (get_or m.vectors 1 zero_vector) (unused_none (sources_in p).list1 (get_or m.refs 1 (negsuc 0)) e)

  pub by_second : is_used (get_or m.refs 0 (negsuc 0)) ≡ false → predicted_in f (sources_in p) 1 m ≡ predicted_by f (sources_in p) m
  unfolding predicted_by
  by_second e = second_alone f _ _ (get_or m.vectors 0 zero_vector) (get_or m.vectors 1 zero_vector) (unused_none (sources_in p).list0 (get_or m.refs 0 (negsuc 0)) e)

  pub by_neither : is_used (get_or m.refs 0 (negsuc 0)) ≡ false → is_used (get_or m.refs 1 (negsuc 0)) ≡ false → 0 ≡ predicted_by f (sources_in p) m
  unfolding predicted_by
  by_neither e g =
      none_at_all f _ _ (get_or m.vectors 0 zero_vector) (get_or m.vectors 1 zero_vector) (unused_none (sources_in p).list0 (get_or m.refs 0 (negsuc 0)) e) (unused_none (sources_in p).list1 (get_or m.refs 1 (negsuc 0)) g)

  pub by_both : AreLent p → MotionFits (count0 p) (count1 p) m → is_used (get_or m.refs 0 (negsuc 0)) ≡ true → is_used (get_or m.refs 1 (negsuc 0)) ≡ true
      → mean (predicted_in f (sources_in p) 0 m) (predicted_in f (sources_in p) 1 m) ≡ predicted_by f (sources_in p) m
  unfolding predicted_by
  by_both lent fits e g =
      let r = get_or m.refs 0 (negsuc 0) in
      let s = get_or m.refs 1 (negsuc 0) in
      let held = p.lists.now.held.now in
      let x = entry_there (sources_in p).list0 r e (subst (λ (n : ℕ). RefFits n r) (sym (list_long held p.lists.now.list0.items lent.first)) fits.first) in
      let y = entry_there (sources_in p).list1 s g (subst (λ (n : ℕ). RefFits n s) (sym (list_long held p.lists.now.list1.items lent.second)) fits.second) in
      both_there f _ _ (get_or m.vectors 0 zero_vector) (get_or m.vectors 1 zero_vector) x.0 y.0 x.1 y.1

-- ---- what holds of a list by its number

pub list_fits : (p : Pictures) (m : Motion) (list : ℕ) → list < 2 → MotionFits (count0 p) (count1 p) m → RefFits (length (places_in list p.lists.now)) (get_or m.refs list (negsuc 0))
list_fits p m zero less fits = fits.first
list_fits p m (suc zero) less fits = fits.second
list_fits p m (suc (suc n)) less fits = absurd (omega (arith, less))

pub list_inside : (p : Pictures) (list : ℕ) → AreLent p → ArePlaces (length p.lists.now.held.now) (places_in list p.lists.now)
list_inside p zero lent = lent.first
list_inside p (suc n) lent = lent.second

pub list_is : (p : Pictures) (list : ℕ) → list_in list (sources_in p) ≡ map (λ r. r.planes) (entries (all_seen p.lists.now.held.now) (places_in list p.lists.now))
list_is p zero = refl
list_is p (suc n) = refl

used_vector : (most : ℕ) (r : ℤ) (z v : Vector) → is_used r ≡ true → Small most (if int_lt r (pos 0) then z else v) → Small most v
used_vector most (pos n) z v e h = go (int_lt (pos n) (pos 0)) refl h
  where
    go : (t : Bool) → int_lt (pos n) (pos 0) ≡ t → Small most (if t then z else v) → Small most v
    go false g h = h
    go true g h = absurd (omega (arith, ints, g))
used_vector most (negsuc n) z v e h = absurd cc

pub list_short : (m : Motion) (list : ℕ) → list < 2 → is_used (get_or m.refs list (negsuc 0)) ≡ true → BlockSmall 131 (Some m) → Small 131 (get_or m.vectors list zero_vector)
list_short m zero less e h = used_vector 131 (get_or m.refs 0 (negsuc 0)) zero_vector (get_or m.vectors 0 zero_vector) e h.first
list_short m (suc zero) less e h = used_vector 131 (get_or m.refs 1 (negsuc 0)) zero_vector (get_or m.vectors 1 zero_vector) e h.second
list_short m (suc (suc n)) less e h = absurd (omega (arith, less))
