-- Order counts of references, one after another.
use Rattle.std.proofs.Common.{◌≡◌, ◌<◌, ◌+◌, ℕ, zero, suc, ℤ, pos, negsuc, ◌≤ℤ◌, List, [], ◌∷◌, ◌++◌, length, take, get_or, Some, refl, sym, ap, ap₂, ◌∙◌, arith}
use Rattle.std.specs.List.{AllByRecursion, slice_get}
use Rattle.std.proofs.lemmas.Grind.{common_steps}
use Rattle.std.proofs.lemmas.Int.{ints}
use Rattle.spec_lists.specs.References.{Reference as Shown}
use Rattle.spec_lists.specs.Lists.{pictures_of}
use Rattle.ref_lists.specs.declared.held.Reference.{Reference}
use Rattle.ref_lists.specs.Held.{natural}
use Rattle.ref_lists.specs.Entries.{entries}
use Rattle.ref_lists.proofs.Entering.{entered}

at_place : (Q : Reference → Type 0) (held : List Reference) (k : ℕ) (d : Reference) → k < length held → AllByRecursion Q held → Q (get_or held k d)
at_place Q [] k d l h = absurd (omega (arith, l))
at_place Q (x ∷ xs) zero d l h = h.0
at_place Q (x ∷ xs) (suc k) d l h = at_place Q xs k d (omega (arith, l)) h.1

not_below : (z : ℤ) → pos 0 ≤ℤ z → z ≡ pos (natural z)
not_below (pos n) h = refl
not_below (negsuc n) h = absurd (omega (arith, ints, h))

-- the order count at a place is a number that isn't below 0
pub count_there : (held : List Reference) (k : ℕ) (d : Reference) → k < length held → AllByRecursion (λ r. pos 0 ≤ℤ r.poc) held → (get_or held k d).poc ≡ pos (natural (get_or held k d).poc)
count_there held k d l h = not_below (get_or held k d).poc (at_place (λ r. pos 0 ≤ℤ r.poc) held k d l h)

pub count_more : (held : List Shown) (ks : List ℕ) (k : ℕ) (x : Shown) (n : ℤ) (ns : List ℤ) → k < length ks → slice_get held (get_or ks k 0) ≡ Some x → n ≡ pos x.poc → ns ≡ pictures_of (entries held (take k ks)) → ns ++ n ∷ [] ≡ pictures_of (entries held (take (k + 1) ks))
count_more held ks k x n ns less at same e =
    ap₂ (λ (us : List ℤ) (m : ℤ). us ++ m ∷ []) e same
    ∙ sym (mapped (entries held (take k ks)))
    ∙ ap (λ (zs : List Shown). pictures_of zs) (sym (entered held (take k ks) (get_or ks k 0) x at))
    ∙ ap (λ (us : List ℕ). pictures_of (entries held us)) (sym (front ks k less))
  where
    front : (ks : List ℕ) (k : ℕ) → k < length ks → take (k + 1) ks ≡ take k ks ++ get_or ks k 0 ∷ []
    front ks k less = grind (arith, common_steps)

    mapped : (xs : List Shown) → pictures_of (xs ++ x ∷ []) ≡ pictures_of xs ++ pos x.poc ∷ []
    mapped [] = refl
    mapped (y ∷ ys) = ap (λ (us : List ℤ). pos y.poc ∷ us) (mapped ys)
