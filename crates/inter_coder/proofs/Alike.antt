-- Equal motion.
use Rattle.std.proofs.Common.{◌≡◌, ℤ, Bool, true, false, ◌&&◌, List, [], ◌∷◌, refl, ap₂, sym, ◌∙◌}
use Rattle.std.specs.Ordering.{int_eq}
use Rattle.std.proofs.lemmas.Bool.Decides.{Decides-int_eq}
use lib.Pointwise.{pointwise}
use Rattle.enc_tables.specs.declared.records.Motion.{Motion}
use Rattle.enc_tables.specs.declared.records.Vector.{Vector}

parts : (a b : Bool) → (a && b) ≡ true → (a ≡ true) × (b ≡ true)
parts true b e = (refl, e)
parts false b e = absurd cc

numbers : (x y : ℤ) → int_eq x y ≡ true → x ≡ y
numbers x y e = (Decides-int_eq x y).0 e

pub vectors_alike : (v w : Vector) → (int_eq v.x w.x && int_eq v.y w.y) ≡ true → v ≡ w
vectors_alike v w e =
    let h = parts (int_eq v.x w.x) (int_eq v.y w.y) e in
    ap₂ (λ (x y : ℤ). let u : Vector = record { x = x; y = y } in u) (numbers v.x w.x h.0) (numbers v.y w.y h.1)

lists_alike : {A : Type 0} (E : A → A → Bool) → ((v w : A) → E v w ≡ true → v ≡ w) → (xs ys : List A) → pointwise E xs ys ≡ true → xs ≡ ys
lists_alike E h [] [] e = refl
lists_alike E h [] (y ∷ ys) e = absurd cc
lists_alike E h (x ∷ xs) [] e = absurd cc
lists_alike E h (x ∷ xs) (y ∷ ys) e =
    let k = parts (E x y) (pointwise E xs ys) e in ap₂ (λ (z : _) (zs : List _). z ∷ zs) (h x y k.0) (lists_alike E h xs ys k.1)

pub motion_alike : (E : Vector → Vector → Bool) → ((v w : Vector) → E v w ≡ true → v ≡ w) → (a b : Motion) (r : Bool) → r ≡ (pointwise int_eq a.refs b.refs && pointwise E a.vectors b.vectors) → r ≡ true → a ≡ b
motion_alike E h a b r is e =
    let k = parts (pointwise int_eq a.refs b.refs) (pointwise E a.vectors b.vectors) (sym is ∙ e) in
    ap₂ (λ (x : List ℤ) (y : List Vector). let m : Motion = record { refs = x; vectors = y } in m) (lists_alike int_eq numbers a.refs b.refs k.0) (lists_alike E h a.vectors b.vectors k.1)
