-- Samples that one reference predicts.
use Rattle.std.proofs.Common.{◌≡◌, ◌≤◌, ◌/◌, ℕ, zero, suc, ℤ, pos, negsuc, List, length, map, get_or, Option, Some, refl, sym, ap, ap₂, subst, ◌∙◌, arith}
use Rattle.enc_tables.specs.declared.records.Motion.{Motion}
use Rattle.enc_tables.specs.declared.records.Vector.{Vector}
use Rattle.enc_tables.specs.Records.{zero_vector}
use Rattle.picture_planes.specs.declared.plane.Plane.{Plane}
use Rattle.picture_planes.specs.declared.picture.Picture.{Picture}
use Rattle.picture_planes.specs.Samples.{samples_of}
use Rattle.picture_planes.specs.Margins.{IsFilled}
use Rattle.picture_planes.specs.Pictures.{planes_of, plane_of}
use Rattle.spec_film.specs.Films.{Planes}
use Rattle.spec_inter.specs.Luma.{inter_luma}
use Rattle.spec_inter.specs.Chroma.{inter_chroma}
use Rattle.spec_reconstruction.specs.Inter.{Sources, source_at}
use Rattle.ref_lists.specs.declared.held.Reference.{Reference}
use Rattle.ref_lists.specs.Held.{all_seen, IsMade, IsReady}
use Rattle.ref_lists.specs.Entries.{entries}
use Rattle.inter_coder.specs.declared.given.Pictures.{Pictures}
use Rattle.inter_coder.specs.Given.{sources_in, places_in, list_in, from_one, predicted_in, luma_sample, chroma_sample, component}
use Rattle.inter_coder.proofs.Naming.{list_is}
use Rattle.inter_coder.proofs.Predicting.{height_is}

-- what stands at an entry of the places of a list stands there in the list
pub named_there : (p : Pictures) (list : ℕ) (ps : List ℕ) (r : ℤ) (o : Option Planes) → ps ≡ places_in list p.lists.now → source_at (map (λ r. r.planes) (entries (all_seen p.lists.now.held.now) ps)) r ≡ o
    → source_at (list_in list (sources_in p)) r ≡ o
named_there p list ps r o e h =
    ap (λ (l : List Planes). source_at l r) (list_is p list ∙ ap (λ (ks : List ℕ). map (λ r. r.planes) (entries (all_seen p.lists.now.held.now) ks)) (sym e)) ∙ h

module _ (picture : Picture) (wide x y list : ℕ) (s : Sources) (m : Motion) (v : Vector) where
  pub luma_there : picture.y.width ≡ wide → source_at (list_in list s) (get_or m.refs list (negsuc 0)) ≡ Some (planes_of picture) → v ≡ get_or m.vectors list zero_vector
      → inter_luma picture.y.width picture.y.height (samples_of picture.y) (pos x) (pos y) v ≡ predicted_in (luma_sample wide x y) s list m
  luma_there same there is =
      ap₂ (λ (h : ℕ) (w : Vector). inter_luma picture.y.width h (samples_of picture.y) (pos x) (pos y) w) (sym (height_is picture.y)) is
      ∙ ap (λ (n : ℕ). inter_luma n (length (samples_of picture.y) / n) (samples_of picture.y) (pos x) (pos y) (get_or m.vectors list zero_vector)) same
      ∙ ap (λ (o : Option Planes). from_one (luma_sample wide x y) o (get_or m.vectors list zero_vector)) (sym there)

  pub chroma_there : (number : ℕ) (q : Plane) → 1 ≤ number → q ≡ plane_of picture number → q.width ≡ wide / 2 → source_at (list_in list s) (get_or m.refs list (negsuc 0)) ≡ Some (planes_of picture) → v ≡ get_or m.vectors list zero_vector
      → inter_chroma q.width q.height (samples_of q) (pos x) (pos y) v ≡ predicted_in (chroma_sample (component number) (wide / 2) x y) s list m
  chroma_there number q some is_plane same there is =
      ap₂ (λ (h : ℕ) (w : Vector). inter_chroma q.width h (samples_of q) (pos x) (pos y) w) (sym (height_is q)) is
      ∙ ap (λ (n : ℕ). inter_chroma n (length (samples_of q) / n) (samples_of q) (pos x) (pos y) (get_or m.vectors list zero_vector)) same
      ∙ ap (λ (l : List ℕ). inter_chroma (wide / 2) (length l / (wide / 2)) l (pos x) (pos y) (get_or m.vectors list zero_vector)) (ap (λ (r : Plane). samples_of r) is_plane ∙ of_number number some)
      ∙ ap (λ (o : Option Planes). from_one (chroma_sample (component number) (wide / 2) x y) o (get_or m.vectors list zero_vector)) (sym there)
    where
      of_number : (number : ℕ) → 1 ≤ number → samples_of (plane_of picture number) ≡ component number (planes_of picture)
      of_number zero h = absurd (omega (arith, h))
      of_number (suc zero) h = refl
      of_number (suc (suc n)) h = refl

-- the sizes of a chroma plane
pub record IsHalf (wide tall : ℕ) (q : Plane) : Type 0 where
  pub width : q.width ≡ wide / 2
  pub height : q.height ≡ tall / 2
  pub pad : q.pad ≡ 20
  pub filled : IsFilled q

pub is_half : (wide tall : ℕ) (r : Reference) (number : ℕ) (q : Plane) → 1 ≤ number → q ≡ plane_of r.picture number → IsMade wide tall r → IsReady r → IsHalf wide tall q
is_half wide tall r number q some e made ready = subst (λ (p : Plane). IsHalf wide tall p) (sym e) (go number some)
  where
    go : (number : ℕ) → 1 ≤ number → IsHalf wide tall (plane_of r.picture number)
    go zero h = absurd (omega (arith, h))
    go (suc zero) h = record { width = made.cb.0; height = made.cb.1; pad = made.cb.2; filled = ready.filled.1 }
    go (suc (suc n)) h = record { width = made.cr.0; height = made.cr.1; pad = made.cr.2; filled = ready.filled.2 }
