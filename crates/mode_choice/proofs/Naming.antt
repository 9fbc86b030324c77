-- The pictures that entries of lists name.
use Rattle.std.proofs.Common.{◌≡◌, ◌<◌, ℕ, zero, suc, List, [], ◌∷◌, length, map, get_or, Some, None, sym, ap, subst, ◌∙◌}
use Rattle.std.specs.List.{slice_get}
use Rattle.std.proofs.lemmas.List.{length-map}
use Rattle.picture_planes.specs.Pictures.{planes_of}
use Rattle.spec_lists.specs.References.{Reference as Shown}
use Rattle.spec_inter_plans.specs.InterPlans.{no_planes}
use Rattle.ref_lists.specs.declared.held.Reference.{Reference}
use Rattle.ref_lists.specs.Held.{seen, all_seen}
use Rattle.ref_lists.specs.Entries.{entries, ArePlaces}
use Rattle.ref_lists.proofs.Entering.{seen_here, length-seen, length-entries, entry_is}
use Rattle.mode_choice.specs.Given.{pictures_at}

mapped_at : (xs : List Shown) (i : ℕ) (x : Shown) → slice_get xs i ≡ Some x → get_or (map (λ (r : Shown). r.planes) xs) i no_planes ≡ x.planes
mapped_at [] i x e = let no : None ≡ Some x = e in absurd cc
mapped_at (y ∷ ys) zero x e = let same : y ≡ x = cc in ap (λ (z : Shown). z.planes) same
mapped_at (y ∷ ys) (suc i) x e = mapped_at ys i x e

all_places : (held : List Reference) (places : List ℕ) → ArePlaces (length held) places → ArePlaces (length (all_seen held)) places
all_places held places inside = subst (λ (n : ℕ). ArePlaces n places) (sym (length-seen seen held)) inside

pub picture_is : (held : List Reference) (places : List ℕ) (i k : ℕ) (r : Reference) → ArePlaces (length held) places → i < length places → k ≡ get_or places i 0 → k < length held → r ≡ get_or held k r
    → get_or (pictures_at held places) i no_planes ≡ planes_of r.picture
picture_is held places i k r inside less at_k there is =
    let here : slice_get (all_seen held) (get_or places i 0) ≡ Some (seen r) = ap (λ (j : ℕ). slice_get (all_seen held) j) (sym at_k) ∙ seen_here seen held k r is there in
    mapped_at (entries (all_seen held) places) i (seen r) (entry_is (all_seen held) places i 0 (all_places held places inside) less ∙ here)

-- there are as many as places
pub long : (held : List Reference) (places : List ℕ) → ArePlaces (length held) places → length (pictures_at held places) ≡ length places
long held places inside = length-map (entries (all_seen held) places) (λ (r : Shown). r.planes) ∙ length-entries (all_seen held) places (all_places held places inside)
