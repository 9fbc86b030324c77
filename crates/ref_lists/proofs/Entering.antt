-- Entries of lists, one after another.
use Rattle.std.proofs.Common.{ℕ, zero, suc, ◌+◌, ◌≡◌, ◌<◌, List, [], ◌∷◌, ◌++◌, length, take, drop, map, get_or, remove, Bool, true, false, cond, Option, Some, None, refl, ap, ap₂, sym, subst, ◌∙◌, arith}
use Rattle.std.specs.List.{AllByRecursion, filter, slice_get}
use Rattle.std.proofs.lemmas.Grind.{common_steps}
use Rattle.std.proofs.lemmas.List.{append-nil}
use Rattle.spec_lists.specs.References.{Reference as Shown}
use Rattle.ref_lists.specs.declared.held.Reference.{Reference}
use Rattle.ref_lists.specs.Entries.{entries, ArePlaces}

-- a place's reference
pub seen_at : (seen : Reference → Shown) (held : List Reference) (k : ℕ) (d : Reference) → k < length held → slice_get (map seen held) k ≡ Some (seen (get_or held k d))
seen_at seen [] k d less = absurd (omega (arith, less))
seen_at seen (r ∷ rs) zero d less = refl
seen_at seen (r ∷ rs) (suc k) d less = seen_at seen rs k d (omega (arith, less))

pub length-seen : (seen : Reference → Shown) (held : List Reference) → length (map seen held) ≡ length held
length-seen seen [] = refl
length-seen seen (r ∷ rs) = ap suc (length-seen seen rs)

-- one entry more
pub entered : (held : List Shown) (ks : List ℕ) (k : ℕ) (x : Shown) → slice_get held k ≡ Some x → entries held (ks ++ k ∷ []) ≡ entries held ks ++ x ∷ []
unfolding entries
entered held [] k x e = ap (λ (o : Option Shown). elim o [ None ↦ [] | Some r ↦ r ∷ [] ]) e
entered held (j ∷ ks) k x e = by (slice_get held j) (entered held ks k x e)
  where
    by : (o : Option Shown) → entries held (ks ++ k ∷ []) ≡ entries held ks ++ x ∷ [] → elim o [ None ↦ entries held (ks ++ k ∷ []) | Some r ↦ r ∷ entries held (ks ++ k ∷ []) ] ≡ elim o [ None ↦ entries held ks | Some r ↦ r ∷ entries held ks ] ++ x ∷ []
    by None h = h
    by (Some r) h = ap (λ (zs : List Shown). r ∷ zs) h

-- some reference stands there
pub there : (held : List Shown) (k : ℕ) → k < length held → (x : Shown) × (slice_get held k ≡ Some x)
there [] k less = absurd (omega (arith, less))
there (r ∷ rs) zero less = (r, refl)
there (r ∷ rs) (suc k) less = there rs k (omega (arith, less))

pub within : (held : List Shown) (k : ℕ) (x : Shown) → slice_get held k ≡ Some x → k < length held
within [] k x e = let no : None ≡ Some x = e in absurd cc
within (r ∷ rs) zero x e = omega arith
within (r ∷ rs) (suc k) x e = let h = within rs k x e in omega (arith, h)

-- one entry before others
pub entry_before : (held : List Shown) (k : ℕ) (ks : List ℕ) (x : Shown) → slice_get held k ≡ Some x → entries held (k ∷ ks) ≡ x ∷ entries held ks
unfolding entries
entry_before held k ks x e = ap (λ (o : Option Shown). elim o [ None ↦ entries held ks | Some r ↦ r ∷ entries held ks ]) e

pub length-entries : (held : List Shown) (ks : List ℕ) → ArePlaces (length held) ks → length (entries held ks) ≡ length ks
unfolding entries
length-entries held [] h = refl
length-entries held (k ∷ ks) h =
    let x = there held k h.0 in ap (λ (zs : List Shown). length zs) (entry_before held k ks x.0 x.1) ∙ ap suc (length-entries held ks h.1)

-- the entry at a place of a list
pub entry_is : (held : List Shown) (ks : List ℕ) (i : ℕ) (d : ℕ) → ArePlaces (length held) ks → i < length ks → slice_get (entries held ks) i ≡ slice_get held (get_or ks i d)
entry_is held [] i d h less = absurd (omega (arith, less))
entry_is held (k ∷ ks) zero d h less =
    let x = there held k h.0 in ap (λ (zs : List Shown). slice_get zs 0) (entry_before held k ks x.0 x.1) ∙ sym x.1
entry_is held (k ∷ ks) (suc i) d h less =
    let x = there held k h.0 in ap (λ (zs : List Shown). slice_get zs (suc i)) (entry_before held k ks x.0 x.1) ∙ entry_is held ks i d h.1 (omega (arith, less))

-- one place less
pub entries_removed : (held : List Shown) (ks : List ℕ) (i : ℕ) → ArePlaces (length held) ks → i < length ks → entries held (remove ks i) ≡ remove (entries held ks) i
entries_removed held [] i h less = absurd (omega (arith, less))
entries_removed held (k ∷ ks) zero h less =
    let x = there held k h.0 in ap (λ (zs : List Shown). remove zs 0) (sym (entry_before held k ks x.0 x.1))
entries_removed held (k ∷ ks) (suc i) h less =
    let x = there held k h.0 in
    entry_before held k (remove ks i) x.0 x.1
    ∙ ap (λ (zs : List Shown). x.0 ∷ zs) (entries_removed held ks i h.1 (omega (arith, less)))
    ∙ ap (λ (zs : List Shown). remove zs (suc i)) (sym (entry_before held k ks x.0 x.1))

pub place_at : (count : ℕ) (ks : List ℕ) (k d : ℕ) → ArePlaces count ks → k < length ks → get_or ks k d < count
place_at count [] k d h less = absurd (omega (arith, less))
place_at count (j ∷ ks) zero d h less = h.0
place_at count (j ∷ ks) (suc k) d h less = place_at count ks k d h.1 (omega (arith, less))

-- the front with one more
pub front_more : (held : List Shown) (k : ℕ) (x : Shown) → slice_get held k ≡ Some x → take (k + 1) held ≡ take k held ++ x ∷ []
front_more held k x e = let turn : k + 1 ≡ suc k = omega arith in ap (λ n. take n held) turn ∙ by held k e
  where
    by : (held : List Shown) (k : ℕ) → slice_get held k ≡ Some x → take (suc k) held ≡ take k held ++ x ∷ []
    by [] k e = let no : None ≡ Some x = e in absurd cc
    by (r ∷ rs) zero e = let same : r ≡ x = cc in ap (λ (y : Shown). y ∷ []) same
    by (r ∷ rs) (suc k) e = ap (λ (zs : List Shown). r ∷ zs) (by rs k e)

-- places so far, and one more
pub one_place_more : (count : ℕ) (ks : List ℕ) (k : ℕ) → ArePlaces count ks → k < count → ArePlaces count (ks ++ k ∷ [])
one_place_more count [] k h less = (less, tt)
one_place_more count (j ∷ ks) k h less = (h.0, one_place_more count ks k h.1 less)

-- the whole front
pub whole_front : (held : List Shown) (n : ℕ) → n ≡ length held → take n held ≡ held
whole_front held n e = ap (λ m. take m held) e ∙ all held
  where
    all : (held : List Shown) → take (length held) held ≡ held
    all [] = refl
    all (r ∷ rs) = ap (λ (zs : List Shown). r ∷ zs) (all rs)

filter-snoc : (p : Shown → Bool) (xs : List Shown) (x : Shown) (b : Bool) → p x ≡ b → filter p (xs ++ x ∷ []) ≡ filter p xs ++ cond b (x ∷ []) []
filter-snoc p [] x b e = ap (λ b. cond b (x ∷ []) []) e
filter-snoc p (y ∷ ys) x b e = elim (p y) as (λ t. cond t (y ∷ filter p (ys ++ x ∷ [])) (filter p (ys ++ x ∷ [])) ≡ cond t (y ∷ filter p ys) (filter p ys) ++ cond b (x ∷ []) []) [ true ↦ ap (λ (zs : List Shown). y ∷ zs) (filter-snoc p ys x b e) | false ↦ filter-snoc p ys x b e ]

-- those of the front that pass a test, where the next one passes it, and where it doesn't
pub passing_more : (p : Shown → Bool) (held : List Shown) (k : ℕ) (x : Shown) → slice_get held k ≡ Some x → p x ≡ true → filter p (take (k + 1) held) ≡ filter p (take k held) ++ x ∷ []
passing_more p held k x e t = ap (filter p) (front_more held k x e) ∙ filter-snoc p (take k held) x true t

pub passing_same : (p : Shown → Bool) (held : List Shown) (k : ℕ) (x : Shown) → slice_get held k ≡ Some x → p x ≡ false → filter p (take (k + 1) held) ≡ filter p (take k held)
passing_same p held k x e t = ap (filter p) (front_more held k x e) ∙ filter-snoc p (take k held) x false t ∙ append-nil (filter p (take k held))

-- the rest behind a place
pub rest_at : (held : List Shown) (k : ℕ) (x : Shown) → slice_get held k ≡ Some x → drop k held ≡ x ∷ drop (k + 1) held
rest_at [] k x e = let no : None ≡ Some x = e in absurd cc
rest_at (r ∷ rs) zero x e = let same : r ≡ x = cc in ap (λ (y : Shown). y ∷ rs) same
rest_at (r ∷ rs) (suc k) x e = let turn : suc k + 1 ≡ suc (k + 1) = omega arith in rest_at rs k x e ∙ ap (λ n. x ∷ drop n (r ∷ rs)) (sym turn)

-- ---- loops over places

pub no_entry : (held : List Shown) (ks : List ℕ) → ks ≡ [] → entries held ks ≡ []
unfolding entries
no_entry held [] e = refl
no_entry held (k ∷ ks) e = absurd cc

pub no_place : (count : ℕ) (ks : List ℕ) → ks ≡ [] → ArePlaces count ks
no_place count [] e = tt
no_place count (k ∷ ks) e = absurd cc

-- the number of one more
pub number_more : (f : Shown → ℕ) (held : List Shown) (ks : List ℕ) (k : ℕ) (x : Shown) (n : ℕ) (ns : List ℕ) → k < length ks → slice_get held (get_or ks k 0) ≡ Some x → n ≡ f x → ns ≡ map f (entries held (take k ks)) → ns ++ n ∷ [] ≡ map f (entries held (take (k + 1) ks))
number_more f held ks k x n ns less at same e =
    let parts : take (k + 1) ks ≡ take k ks ++ get_or ks k 0 ∷ [] = front ks k less in
    ap₂ (λ (us : List ℕ) (m : ℕ). us ++ m ∷ []) e same ∙ sym (mapped (entries held (take k ks)) x)
    ∙ ap (λ (zs : List Shown). map f zs) (sym (entered held (take k ks) (get_or ks k 0) x at)) ∙ ap (λ (us : List ℕ). map f (entries held us)) (sym parts)
  where
    front : (ks : List ℕ) (k : ℕ) → k < length ks → take (k + 1) ks ≡ take k ks ++ get_or ks k 0 ∷ []
    front ks k less = grind (arith, common_steps)

    mapped : (xs : List Shown) (x : Shown) → map f (xs ++ x ∷ []) ≡ map f xs ++ f x ∷ []
    mapped [] x = refl
    mapped (y ∷ ys) x = ap (λ (us : List ℕ). f y ∷ us) (mapped ys x)

-- one that is put behind others where it passes a test
pub entered_by : (p : Shown → Bool) (held : List Shown) (ks : List ℕ) (k : ℕ) (x : Shown) (t : Bool) → slice_get held k ≡ Some x → p x ≡ t → entries held ks ≡ filter p (take k held) → entries held (ks ++ cond t (k ∷ []) []) ≡ filter p (take (k + 1) held)
entered_by p held ks k x true e t h = entered held ks k x e ∙ ap (λ (zs : List Shown). zs ++ x ∷ []) h ∙ sym (passing_more p held k x e t)
entered_by p held ks k x false e t h = ap (entries held) (append-nil ks) ∙ h ∙ sym (passing_same p held k x e t)

pub place_by : (count : ℕ) (ks : List ℕ) (k : ℕ) (t : Bool) → ArePlaces count ks → k < count → ArePlaces count (ks ++ cond t (k ∷ []) [])
place_by count ks k true h less = one_place_more count ks k h less
place_by count ks k false h less = subst (ArePlaces count) (sym (append-nil ks)) h

pub entered_all : (held : List Shown) (ks : List ℕ) (k : ℕ) (x : Shown) → slice_get held k ≡ Some x → entries held ks ≡ take k held → entries held (ks ++ k ∷ []) ≡ take (k + 1) held
entered_all held ks k x e h = entered held ks k x e ∙ ap (λ (zs : List Shown). zs ++ x ∷ []) h ∙ sym (front_more held k x e)

pub filter_whole : (p : Shown → Bool) (held : List Shown) (n : ℕ) → n ≡ length held → filter p (take n held) ≡ filter p held
filter_whole p held n e = ap (filter p) (whole_front held n e)

-- what holds of each holds of the one at a place
pub holds_at : (F : Reference → Type 0) (held : List Reference) (k : ℕ) (d : Reference) → AllByRecursion F held → k < length held → F (get_or held k d)
holds_at F [] k d h less = absurd (omega (arith, less))
holds_at F (r ∷ rs) zero d h less = h.0
holds_at F (r ∷ rs) (suc k) d h less = holds_at F rs k d h.1 (omega (arith, less))

-- the reference that is read at a place
pub seen_here : (seen : Reference → Shown) (held : List Reference) (k : ℕ) (r : Reference) → r ≡ get_or held k r → k < length held → slice_get (map seen held) k ≡ Some (seen r)
seen_here seen held k r e less = seen_at seen held k r less ∙ ap (λ (x : Reference). Some (seen x)) (sym e)

pub holds_here : (F : Reference → Type 0) (held : List Reference) (k : ℕ) (r : Reference) → r ≡ get_or held k r → AllByRecursion F held → k < length held → F r
holds_here F held k r e h less = subst F (sym e) (holds_at F held k r h less)

-- some reference stands at a place
pub some_at : (seen : Reference → Shown) (held : List Reference) (k : ℕ) → k < length held → (x : Shown) × (slice_get (map seen held) k ≡ Some x)
some_at seen [] k less = absurd (omega (arith, less))
some_at seen (r ∷ rs) zero less = (seen r, refl)
some_at seen (r ∷ rs) (suc k) less = some_at seen rs k (omega (arith, less))

-- ---- the loop that goes down

pub none_past : (p : Shown → Bool) (seen : Reference → Shown) (held : List Reference) → filter p (drop (length held) (map seen held)) ≡ []
none_past p seen [] = refl
none_past p seen (r ∷ rs) = none_past p seen rs

pub none_from : (p : Shown → Bool) (held : List Shown) (k : ℕ) (x : Shown) → slice_get held k ≡ Some x → p x ≡ false → filter p (drop (k + 1) held) ≡ [] → filter p (drop k held) ≡ []
none_from p held k x e t h = ap (filter p) (rest_at held k x e) ∙ ap (λ b. cond b (x ∷ filter p (drop (k + 1) held)) (filter p (drop (k + 1) held))) t ∙ h

-- one entry alone
pub one_entry : (held : List Shown) (ks : List ℕ) (k : ℕ) (x : Shown) → slice_get held k ≡ Some x → ks ≡ [] → entries held (ks ++ k ∷ []) ≡ x ∷ []
one_entry held ks k x e none = entered held ks k x e ∙ ap (λ (zs : List Shown). zs ++ x ∷ []) (no_entry held ks none)
