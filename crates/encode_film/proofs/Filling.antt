-- The slots of a session are filled.
use Rattle.std.proofs.Common.{ℕ, zero, suc, ◌≡◌, List, [], ◌∷◌, map, set, Some, refl, ap, ◌∙◌, subst, length}
use Rattle.std.specs.Prelude.{slice_get}
use Rattle.std.specs.List.{AllByRecursion}
use Rattle.spec_film.specs.declared.FilmHead.{FilmHead}
use Rattle.picture_planes.specs.declared.picture.Picture.{Picture}
use Rattle.picture_planes.specs.Pictures.{SameShapes}
use Rattle.picture_coder.specs.Sizes.{HasSizes}
use Rattle.enc_session.specs.Sessions.{HasSlots}
use Rattle.y4m_film.specs.Sizes.{FitsHead}

-- a picture that is made for the head has the film's sizes, rounded up
pub fits : (h : FilmHead) (p : Picture) → HasSizes h.width h.height p → FitsHead h p
fits h p s = record {
  luma_width = s.luma.0;
  luma_height = s.luma.1;
  cb_width = s.cb.0;
  cb_height = s.cb.1;
  cr_width = s.cr.0;
  cr_height = s.cr.1;
}

-- sizes and margins stay
pub sizes_still : (width height : ℕ) (old new : Picture) → SameShapes old new → HasSizes width height old → HasSizes width height new
sizes_still width height old new same s = record {
  luma = (same.0.0 ∙ s.luma.0, same.0.1 ∙ s.luma.1, same.0.2 ∙ s.luma.2);
  cb = (same.1.0 ∙ s.cb.0, same.1.1 ∙ s.cb.1, same.1.2 ∙ s.cb.2);
  cr = (same.2.0 ∙ s.cr.0, same.2.1 ∙ s.cr.1, same.2.2 ∙ s.cr.2);
}

some_is : {A : Type 0} (x y : A) → Some x ≡ Some y → x ≡ y
some_is x y e = cc

all_get : {A : Type 0} (P : A → Type 0) (xs : List A) (k : ℕ) (x : A) → AllByRecursion P xs → slice_get xs k ≡ Some x → P x
all_get P [] k x all there = absurd (cc)
all_get P (y ∷ ys) zero x all there = subst P (some_is y x there) all.0
all_get P (y ∷ ys) (suc k) x all there = all_get P ys k x all.1 there

all_set : {A : Type 0} (P : A → Type 0) (xs : List A) (k : ℕ) (x : A) → AllByRecursion P xs → P x → AllByRecursion P (set xs k x)
all_set P [] k x all p = tt
all_set P (y ∷ ys) zero x all p = (p, all.1)
all_set P (y ∷ ys) (suc k) x all p = (all.0, all_set P ys k x all.1 p)

length_set : {A : Type 0} (xs : List A) (k : ℕ) (x : A) → length (set xs k x) ≡ length xs
length_set [] k x = refl
length_set (y ∷ ys) zero x = refl
length_set (y ∷ ys) (suc k) x = ap suc (length_set ys k x)

pub map_set : {A B : Type 0} (f : A → B) (xs : List A) (k : ℕ) (x : A) → map f (set xs k x) ≡ set (map f xs) k (f x)
map_set f [] k x = refl
map_set f (y ∷ ys) zero x = refl
map_set f (y ∷ ys) (suc k) x = ap (λ zs. f y ∷ zs) (map_set f ys k x)

pub slot_sizes : (h : FilmHead) (slots : List Picture) (k : ℕ) (p : Picture) → HasSlots h slots → slice_get slots k ≡ Some p → HasSizes h.width h.height p
slot_sizes h slots k p has there = all_get (HasSizes h.width h.height) slots k p has.sizes there

pub slots_with : (h : FilmHead) (slots : List Picture) (k : ℕ) (p : Picture) → HasSlots h slots → HasSizes h.width h.height p → HasSlots h (set slots k p)
slots_with h slots k p has sizes = record { five = length_set slots k p ∙ has.five; sizes = all_set (HasSizes h.width h.height) slots k p has.sizes sizes }
