-- The references that lists name: their samples, and the motion of the first one.
use Rattle.std.proofs.Common.{◌≡◌, ◌<◌, ◌+◌, ◌*◌, ◌/◌, ℕ, zero, suc, inl, inr, Bool, true, List, [], ◌∷◌, length, map, get_or, replicate, cond, Option, Some, None, refl, sym, ap, subst, ◌∙◌, arith}
use Rattle.std.specs.List.{slice_get, AllByRecursion}
use Rattle.std.proofs.lemmas.Bool.{cases_lt}
use Rattle.std.proofs.lemmas.List.{get_or_default}
use Rattle.enc_tables.specs.declared.records.Motion.{Motion}
use Rattle.picture_planes.specs.Pictures.{planes_of}
use Rattle.spec_lists.specs.References.{Reference as Shown}
use Rattle.spec_lists.specs.Lists.{Lists as ShownLists, colocated}
use Rattle.spec_lists.specs.Colocated.{blocks_of, colocated_at}
use Rattle.spec_record_laws.specs.Coded.{PlanesFit}
use Rattle.spec_tasks.specs.Given.{PicturesFit}
use Rattle.ref_lists.specs.declared.held.Reference.{Reference}
use Rattle.ref_lists.specs.declared.naming.Lists.{Lists}
use Rattle.ref_lists.specs.Held.{seen, all_seen, IsMade, AreHeld}
use Rattle.ref_lists.specs.Entries.{entries, ArePlaces}
use Rattle.ref_lists.specs.Named.{named}
use Rattle.ref_lists.proofs.Entering.{seen_at, entry_before}

-- ---- samples

abbrev HeldFit : List Reference → Type 0
HeldFit held = (k : ℕ) (d : Reference) → k < length held → PlanesFit (planes_of (get_or held k d).picture)

fits_at : (held : List Reference) (k : ℕ) (r : Shown) → HeldFit held → slice_get (map seen held) k ≡ Some r → PlanesFit r.planes
fits_at [] k r h e = let no : None ≡ Some r = e in absurd cc
fits_at (x ∷ xs) zero r h e = let same : seen x ≡ r = cc in subst (λ (q : Shown). PlanesFit q.planes) same (h 0 x (omega arith))
fits_at (x ∷ xs) (suc k) r h e = fits_at xs k r (λ j d l. h (suc j) d (omega arith)) e

one_fits : (held : List Reference) (k : ℕ) (ks : List ℕ) (o : Option Shown) → HeldFit held → slice_get (all_seen held) k ≡ o → PicturesFit (entries (all_seen held) ks) → PicturesFit (elim o [ None ↦ entries (all_seen held) ks | Some r ↦ r ∷ entries (all_seen held) ks ])
one_fits held k ks None h e rest = rest
one_fits held k ks (Some r) h e rest = (fits_at held k r h e, rest)

pub pictures_fit : (held : List Reference) (places : List ℕ) → ((k : ℕ) (d : Reference) → k < length held → PlanesFit (planes_of (get_or held k d).picture)) → PicturesFit (entries (all_seen held) places)
unfolding entries
pictures_fit held [] h = tt
pictures_fit held (k ∷ ks) h = one_fits held k ks (slice_get (all_seen held) k) h refl (pictures_fit held ks h)

-- ---- the first picture of a list

all_at : (P : Reference → Type 0) (held : List Reference) (k : ℕ) (d : Reference) → k < length held → AllByRecursion P held → P (get_or held k d)
all_at P [] k d l h = absurd (omega arith)
all_at P (x ∷ xs) zero d l h = h.0
all_at P (x ∷ xs) (suc k) d l h = all_at P xs k d (omega arith) h.1

-- a reference that is held has a record of each macroblock
pub records_held : (width height : ℕ) (held : List Reference) (k : ℕ) (d : Reference) → k < length held → AreHeld width height held → IsMade width height (get_or held k d)
records_held width height held k d l h = all_at (IsMade width height) held k d l h.made

place_inside : (count : ℕ) (places : List ℕ) → ArePlaces count places → 0 < length places → get_or places 0 0 < count
place_inside count [] h some = absurd (omega arith)
place_inside count (k ∷ ks) h some = h.0

pub first_place : (count : ℕ) (places : List ℕ) → ArePlaces count places → 0 < length places → get_or places 0 0 < count
first_place = place_inside

first_named : (held : List Reference) (places : List ℕ) (d : Reference) (list0 : List Shown) → ArePlaces (length held) places → 0 < length places
    → (let lists : ShownLists = record { list0 = list0; list1 = entries (all_seen held) places } in colocated lists ≡ (get_or held (get_or places 0 0) d).records.items)
first_named held [] d list0 h some = absurd (omega arith)
first_named held (k ∷ ks) d list0 h some =
    let e : entries (all_seen held) (k ∷ ks) ≡ seen (get_or held k d) ∷ entries (all_seen held) ks = entry_before (all_seen held) k ks (seen (get_or held k d)) (seen_at seen held k d h.0) in
    ap (λ (list1 : List Shown). (let lists : ShownLists = record { list0 = list0; list1 = list1 } in colocated lists)) e

pub colocated_is : (l : Lists) (address : ℕ) (d : Reference) → ArePlaces (length l.held.now) l.list1.items → 0 < length l.list1.items
    → colocated_at (named l) address ≡ blocks_of (get_or (get_or l.held.now (get_or l.list1.items 0 0) d).records.items address (true, []))
unfolding colocated_at
colocated_is l address d h some = ap (λ (ms : List (Bool × List Motion)). blocks_of (get_or ms address (true, []))) (first_named l.held.now l.list1.items d (named l).list0 h some)

pub blocks_are : (m : Bool × List Motion) → cond m.0 (replicate 4 None) (map (λ x. Some x) m.1) ≡ blocks_of m
blocks_are (intra, motion) = refl

-- the code's way: the record at the address of the picture at the list's first place
pub colocated_found : (width height : ℕ) (l : Lists) (address : ℕ) (d : Reference) (m : Bool × List Motion) (places : List ℕ) (blocks : List (Option Motion)) → AreHeld width height l.held.now → ArePlaces (length l.held.now) l.list1.items
    → 0 < length l.list1.items → address < width / 16 * (height / 16) → places ≡ l.list1.items → m ≡ get_or (get_or l.held.now (get_or places 0 0) d).records.items address m
    → blocks ≡ cond m.0 (replicate 4 None) (map (λ x. Some x) m.1) → blocks ≡ colocated_at (named l) address
colocated_found width height l address d m places blocks held there some inside same at is =
    let k : ℕ = get_or l.list1.items 0 0 in
    let long : length (get_or l.held.now k d).records.items ≡ width / 16 * (height / 16) = (records_held width height l.held.now k d (first_place (length l.held.now) l.list1.items there some) held).records in
    is
    ∙ blocks_are m
    ∙ ap (λ (x : Bool × List Motion). blocks_of x)
    (at ∙ ap (λ (ys : List ℕ). get_or (get_or l.held.now (get_or ys 0 0) d).records.items address m) same
    ∙ get_or_default (get_or l.held.now k d).records.items address m (true, []) (subst (λ (n : ℕ). address < n) (sym long) inside))
    ∙ sym (colocated_is l address d there some)

-- ---- one reference more

same_at : (held : List Reference) (k : ℕ) (d e : Reference) → k < length held → get_or held k d ≡ get_or held k e
same_at [] k d e l = absurd (omega arith)
same_at (x ∷ xs) zero d e l = refl
same_at (x ∷ xs) (suc k) d e l = same_at xs k d e (omega arith)

pub fit_more : (held : List Reference) (k : ℕ) (e : Reference) → k < length held → PlanesFit (planes_of (get_or held k e).picture) → ((j : ℕ) (d : Reference) → j < k → PlanesFit (planes_of (get_or held j d).picture))
    → (j : ℕ) (d : Reference) → j < k + 1 → PlanesFit (planes_of (get_or held j d).picture)
fit_more held k e inside here before j d l = elim (cases_lt j k) [
  | inl less ↦ before j d less
  | inr more ↦
      let last : k ≡ j = omega arith in
      subst (λ (i : ℕ). PlanesFit (planes_of (get_or held i d).picture)) last (subst (λ (r : Reference). PlanesFit (planes_of r.picture)) (same_at held k e d inside) here)
]
