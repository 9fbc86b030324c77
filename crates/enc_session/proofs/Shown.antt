-- Pictures of a group are written to the reconstruction.
use Rattle.std.proofs.Common.{ℕ, zero, suc, ◌+◌, ◌-◌, ◌/◌, ◌≡◌, ◌≤◌, ◌<◌, ◌==◌, Bool, false, List, [], ◌∷◌, ◌++◌, length, map, take, get_or, Result, Ok, Err, refl, ap, sym, subst, ◌∙◌, arith, append-nil}
use Rattle.std.specs.Prelude.{if◌then◌else◌}
use Rattle.std.specs.List.{flat_map}
use Rattle.std.proofs.lemmas.Bool.Decides.{nat_tests}
use Rattle.std.proofs.lemmas.List.{map-append}
use Rattle.std.proofs.lemmas.Grind.{flat_map-append}
use Rattle.enc_edge.specs.declared.studio.Out.TheVariants.{Recon}
use Rattle.enc_edge.specs.declared.studio.Place.TheVariants.{Output}
use Rattle.enc_edge.specs.declared.studio.Failed.{Failed}
use Rattle.enc_edge.specs.Seen.{Seen}
use Rattle.enc_edge.specs.Calls.{wrote}
use Rattle.picture_planes.specs.Clamped.{rounded}
use Rattle.picture_planes.specs.declared.picture.Picture.{Picture}
use Rattle.picture_planes.specs.Pictures.{planes_of}
use Rattle.spec_film.specs.declared.FilmHead.{FilmHead}
use Rattle.spec_film.specs.Films.{Planes}
use Rattle.spec_film.specs.Cropping.{shown}
use Rattle.spec_film.specs.Written.{picture_text}
use Rattle.picture_coder.specs.Sizes.{HasSizes}
use Rattle.ref_lists.specs.declared.held.Reference.{Reference}
use Rattle.ref_lists.specs.declared.store.RefStore.{RefStore}
use Rattle.ref_lists.specs.Held.{all_seen, IsMade}
use Rattle.ref_lists.specs.Stored.{references_of}
use Rattle.y4m_film.specs.Sizes.{FitsHead}
use Rattle.y4m_film.specs.Writes.{FrontWritten}
use Rattle.y4m_film.proofs.Appending.{front_first, front_then, then_wrote, wrote_nothing}
use Rattle.enc_session.specs.Showing.{ShownLeft, coded_planes, newest_planes, shown_text}

pub fits_sized : (h : FilmHead) (p : Picture) → HasSizes h.width h.height p → FitsHead h p
fits_sized h p s = record { luma_width = s.luma.0; luma_height = s.luma.1; cb_width = s.cb.0; cb_height = s.cb.1; cr_width = s.cr.0; cr_height = s.cr.1 }

pub fits_made : (h : FilmHead) (w v : ℕ) (r : Reference) → w ≡ rounded h.width → v ≡ rounded h.height → IsMade w v r → FitsHead h r.picture
fits_made h w v r ew ev m = record {
  luma_width = m.luma.0 ∙ ew;
  luma_height = m.luma.1 ∙ ev;
  cb_width = m.cb.0 ∙ ap (λ (n : ℕ). n / 2) ew;
  cb_height = m.cb.1 ∙ ap (λ (n : ℕ). n / 2) ev;
  cr_width = m.cr.0 ∙ ap (λ (n : ℕ). n / 2) ew;
  cr_height = m.cr.1 ∙ ap (λ (n : ℕ). n / 2) ev;
}

taken_one : {X : Type 0} (xs : List X) (k : ℕ) (d : X) → k < length xs → take (suc k) xs ≡ take k xs ++ get_or xs k d ∷ []
taken_one [] k d less = absurd (omega (arith, less))
taken_one (x ∷ xs) zero d less = refl
taken_one (x ∷ xs) (suc k) d less = ap (λ ys. x ∷ ys) (taken_one xs k d (omega (arith, less)))

text_more : (h : FilmHead) (ps qs : List Planes) → shown_text h (ps ++ qs) ≡ shown_text h ps ++ shown_text h qs
text_more h ps qs = ap (λ (xs : List Planes). flat_map picture_text xs) (map-append (shown h) ps qs) ∙ flat_map-append picture_text (map (shown h) ps) (map (shown h) qs)

text_one : (h : FilmHead) (p : Planes) → shown_text h (p ∷ []) ≡ picture_text (shown h p)
text_one h p = append-nil (picture_text (shown h p))

one_more : (k : ℕ) → suc k ≡ k + 1
one_more k = omega arith

pub none_shown : (h : FilmHead) (ps : List Planes) (s : Seen) → s ≡ wrote (Output Recon) (shown_text h (take 0 ps)) s
none_shown h ps s = sym (wrote_nothing Recon s)

pub one_shown : (h : FilmHead) (ps : List Planes) (k : ℕ) (d p : Planes) (old mid new : Seen) → k < length ps → get_or ps k d ≡ p → mid ≡ wrote (Output Recon) (shown_text h (take k ps)) old → new ≡ wrote (Output Recon) (picture_text (shown h p)) mid
    → new ≡ wrote (Output Recon) (shown_text h (take (k + 1) ps)) old
one_shown h ps k d p old mid new less at e f =
    then_wrote Recon (shown_text h (take k ps)) (picture_text (shown h p)) old mid new e f
    ∙ ap (λ (xs : List ℕ). wrote (Output Recon) xs old)
    (ap (λ (q : Planes). shown_text h (take k ps) ++ picture_text (shown h q)) (sym at) ∙ ap (λ (xs : List ℕ). shown_text h (take k ps) ++ xs) (sym (text_one h (get_or ps k d)))
    ∙ sym (text_more h (take k ps) (get_or ps k d ∷ [])) ∙ ap (λ (xs : List Planes). shown_text h xs) (sym (taken_one ps k d less)) ∙ ap (λ (n : ℕ). shown_text h (take n ps)) (one_more k))

-- the first pictures, of which more follow
split : (ps : List Planes) (k n : ℕ) (d : Planes) → k < n → n ≤ length ps → (rest : List Planes) × (take n ps ≡ (take k ps ++ get_or ps k d ∷ []) ++ rest)
split ps k zero d less few = absurd (omega (arith, less))
split [] k (suc n) d less few = absurd (omega (arith, few))
split (p ∷ ps) zero (suc n) d less few = (take n ps, refl)
split (p ∷ ps) (suc k) (suc n) d less few = let r = split ps k n d (omega (arith, less)) (omega (arith, few)) in (r.0, ap (λ (xs : List Planes). p ∷ xs) r.1)

pub cut_shown : (h : FilmHead) (ps : List Planes) (k n : ℕ) (d p : Planes) (old mid new : Seen) → k < n → n ≤ length ps → get_or ps k d ≡ p → mid ≡ wrote (Output Recon) (shown_text h (take k ps)) old → FrontWritten Recon (picture_text (shown h p)) mid new
    → FrontWritten Recon (shown_text h (take n ps)) old new
cut_shown h ps k n d p old mid new less few at e f =
    let r = split ps k n d less few in
    subst (λ (xs : List ℕ). FrontWritten Recon xs old new)
    (sym (ap (λ (xs : List Planes). shown_text h xs) r.1 ∙ text_more h (take k ps ++ get_or ps k d ∷ []) r.0
    ∙ ap (λ (xs : List ℕ). xs ++ shown_text h r.0) (text_more h (take k ps) (get_or ps k d ∷ []) ∙ ap (λ (xs : List ℕ). shown_text h (take k ps) ++ xs) (text_one h (get_or ps k d) ∙ ap (λ (q : Planes). picture_text (shown h q)) at))))
    (front_first Recon (shown_text h (take k ps) ++ picture_text (shown h p)) (shown_text h r.0) old new (front_then Recon (shown_text h (take k ps)) (picture_text (shown h p)) old mid new e f))

-- ---- the newest reference

newest_at : (rs : List Reference) (d : Reference) → 1 ≤ length rs → take 1 (map (λ r. r.planes) (all_seen rs)) ≡ planes_of (get_or rs 0 d).picture ∷ []
newest_at [] d some = absurd (omega (arith, some))
newest_at (r ∷ rs) d some = refl

pub newest_left : (h : FilmHead) (store : RefStore) (d : Reference) (p : Planes) (old new : Seen) (r : Result (Unit {0}) Failed) → 1 ≤ length (references_of store) → p ≡ planes_of (get_or (references_of store) 0 d).picture → ShownLeft (picture_text (shown h p)) old new r
    → ShownLeft (shown_text h (newest_planes store)) old new r
newest_left h store d p old new r some e left =
    subst (λ (xs : List ℕ). ShownLeft xs old new r)
    (sym (ap (λ (xs : List Planes). shown_text h xs) (newest_at (references_of store) d some ∙ ap (λ (q : Planes). q ∷ []) (sym e)) ∙ text_one h p)) left

-- ---- both

pub none_coded : (h : FilmHead) (slots newest : List Planes) (n : ℕ) (s : Seen) → n ≡ 0 → s ≡ wrote (Output Recon) (shown_text h (coded_planes n slots newest)) s
none_coded h slots newest n s e = sym (wrote_nothing Recon s) ∙ ap (λ (k : ℕ). wrote (Output Recon) (shown_text h (coded_planes k slots newest)) s) (sym e)

some_coded : (slots newest : List Planes) (n : ℕ) → 1 ≤ n → coded_planes n slots newest ≡ take (n - 1) slots ++ newest
some_coded slots newest n some = ap (λ (b : Bool). if b then [] else take (n - 1) slots ++ newest) (is_some n some)
  where
    is_some : (n : ℕ) → 1 ≤ n → (n == 0) ≡ false
    is_some n h = grind (arith, nat_tests)

pub both_shown : (h : FilmHead) (slots newest : List Planes) (n : ℕ) (old mid new : Seen) (r : Result (Unit {0}) Failed) → 1 ≤ n → mid ≡ wrote (Output Recon) (shown_text h (take (n - 1) slots)) old → ShownLeft (shown_text h newest) mid new r → ShownLeft (shown_text h (coded_planes n slots newest)) old new r
both_shown h slots newest n old mid new r some e left =
    subst (λ (ps : List Planes). ShownLeft (shown_text h ps) old new r) (sym (some_coded slots newest n some)) (subst (λ (xs : List ℕ). ShownLeft xs old new r) (sym (text_more h (take (n - 1) slots) newest)) (by r left))
  where
    by : (r : Result (Unit {0}) Failed) → ShownLeft (shown_text h newest) mid new r → ShownLeft (shown_text h (take (n - 1) slots) ++ shown_text h newest) old new r
    by (Ok done) l = then_wrote Recon (shown_text h (take (n - 1) slots)) (shown_text h newest) old mid new e l
    by (Err failed) l = front_then Recon (shown_text h (take (n - 1) slots)) (shown_text h newest) old mid new e l

pub first_cut : (h : FilmHead) (slots newest : List Planes) (n : ℕ) (old new : Seen) → 1 ≤ n → FrontWritten Recon (shown_text h (take (n - 1) slots)) old new → FrontWritten Recon (shown_text h (coded_planes n slots newest)) old new
first_cut h slots newest n old new some f =
    subst (λ (ps : List Planes). FrontWritten Recon (shown_text h ps) old new) (sym (some_coded slots newest n some))
    (subst (λ (xs : List ℕ). FrontWritten Recon xs old new) (sym (text_more h (take (n - 1) slots) newest)) (front_first Recon (shown_text h (take (n - 1) slots)) (shown_text h newest) old new f))
