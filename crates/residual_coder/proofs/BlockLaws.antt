-- Blocks, place by place.
use Rattle.std.proofs.Common.{◌≡◌, ◌<◌, ◌+◌, ℕ, zero, suc, ℤ, pos, negsuc, Bool, w16, w32, ◌+ℤ◌, ◌-ℤ◌, List, length, get_or, set, replicate, map, add-one, subst, inl, inr, refl, sym, ap, ap₂, ◌∙◌, arith}
use Rattle.std.specs.List.{range_with_len}
use Rattle.std.proofs.lemmas.List.{ext_get_or}
use Rattle.std.proofs.lemmas.List.FromFn.{length-map-range_with_len, get_or-map-range_with_len}
use Rattle.std.proofs.lemmas.Int.{ints}
use Rattle.std.proofs.lemmas.Bool.{cases_lt}
use Rattle.std.proofs.lemmas.Grind.{get_or-set_at}
use Rattle.std.proofs.lemmas.List.{get_or-set_other}
use mir.Val.{SFits}
use Rattle.enc_tables.specs.declared.transform.TheConstants.{ZIGZAG4, ZIGZAG8}
use Rattle.enc_tables.specs.Steps.{steps}
use Rattle.spec_residual.specs.declared.BlockKind.{BlockKind}
use Rattle.spec_residual.specs.declared.BlockKind.TheVariants.{Luma4, Luma8}
use Rattle.spec_residual.specs.Levels.{IsMade, greatest, level_of, levels4_of, levels8_of}
use Rattle.spec_residual.specs.Forward.{forward4_of, forward8_of}
use Rattle.spec_residual.specs.Inverse.{inverse4_of, inverse8_of}
use Rattle.residual_coder.specs.Made.{AllMade4, AllMade8}
use Rattle.spec_residual.specs.Rescaled.{rescaled}
use Rattle.spec_residual.proofs.Bounds.{in_row}
use Rattle.spec_basics.specs.Bounds.{Within}
use Rattle.spec_residual.specs.Blocks.{AllWithin, item}
use Rattle.spec_residual.proofs.Listed.{is_listed, item-listed}
use Rattle.spec_reconstruction.specs.Residuals.{differences, constructed, coefficients4, coefficients8, built4, built8, built_with_dc, spectrum4, spectrum8, luma_levels4, luma_levels8, levels_without_dc}
use Rattle.spec_basics.specs.Clip.{clip1}

-- a list of n samples that are those of f is the list of f
pub is_line : (n : ℕ) (f : ℕ → ℕ) (xs : List ℕ) → length xs ≡ n → ((p : ℕ) → p < n → get_or xs p 0 ≡ f p) → xs ≡ map f (range_with_len 0 n)
is_line n f xs long same =
    ext_get_or 0 xs (map f (range_with_len 0 n)) (long ∙ sym (length-map-range_with_len f 0 n)) (λ p q. let r : p < n = omega arith in same p r ∙ sym (get_or-map-range_with_len f 0 n p p 0 r (omega arith)))

pub differences_are : (n : ℕ) (source prediction : List ℕ) (out : List ℤ) → length out ≡ n → ((k : ℕ) → k < n → item out k ≡ pos (get_or source k 0) -ℤ pos (get_or prediction k 0)) → out ≡ differences n source prediction
unfolding differences
differences_are n source prediction out long done = is_listed n _ out long done

pub constructed_is : (n : ℕ) (prediction : List ℕ) (residual : List ℤ) (out : List ℕ) → length out ≡ n → ((k : ℕ) → k < n → get_or out k 0 ≡ clip1 (pos (get_or prediction k 0) +ℤ item residual k)) → out ≡ constructed n prediction residual
unfolding constructed
constructed_is n prediction residual out long done = is_line n _ out long done

pub item_next : (f : ℕ → ℤ) (xs : List ℤ) (i : ℕ) (v : ℤ) → i < length xs → v ≡ f i → ((k : ℕ) → k < i → item xs k ≡ f k) → (k : ℕ) → k < i + 1 → item (set xs i v) k ≡ f k
item_next f xs i v inside is done k h =
    elim (cases_lt k i) [
      | inl l ↦ get_or-set_other xs i k v (pos 0) (λ z. absurd (omega arith)) ∙ done k l
      | inr g ↦ (let e : k ≡ i = omega arith in get_or-set_at xs i k v (pos 0) e inside ∙ is ∙ ap f (sym e))
    ]

pub small_next : (b : ℕ) (xs : List ℤ) (i : ℕ) (v : ℤ) → i < length xs → Within b v → ((k : ℕ) → k < i → Within b (item xs k)) → (k : ℕ) → k < i + 1 → Within b (item (set xs i v) k)
small_next b xs i v inside is small k h =
    let P : ℤ → Type 0 = λ z. Within b z in
    elim (cases_lt k i) [
      | inl l ↦ subst P (sym (get_or-set_other xs i k v (pos 0) (λ z. absurd (omega arith)))) (small k l)
      | inr g ↦ (let e : k ≡ i = omega arith in subst P (sym (get_or-set_at xs i k v (pos 0) e inside)) is)
    ]

-- ---- coefficients that are assigned one after another

assigned_none : (f : ℕ → List ℤ → List ℤ) (start : List ℤ) → start ≡ steps f 0 start
unfolding steps
assigned_none f start = refl

steps_more : (f : ℕ → List ℤ → List ℤ) (start : List ℤ) (s : ℕ) → steps f (s + 1) start ≡ f s (steps f s start)
unfolding steps
steps_more f start s = rw add-one refl

pub none_assigned : (place : ℕ → ℕ) (g : ℕ → ℤ) (start : List ℤ) → start ≡ steps (λ s c. set c (place s) (g s)) 0 start
none_assigned place g start = assigned_none (λ s c. set c (place s) (g s)) start

pub one_assigned : (place : ℕ → ℕ) (g : ℕ → ℤ) (start c : List ℤ) (s p : ℕ) (v : ℤ) → p ≡ place s → v ≡ g s → c ≡ steps (λ s c. set c (place s) (g s)) s start → set c p v ≡ steps (λ s c. set c (place s) (g s)) (s + 1) start
one_assigned place g start c s p v at_p is_v done =
    ap₂ (λ (m : ℕ) (z : ℤ). set c m z) at_p is_v
    ∙ ap (λ (l : List ℤ). set l (place s) (g s)) done
    ∙ sym (steps_more (λ s c. set c (place s) (g s)) start s)

pub item_of_zeros : (n k : ℕ) → item (replicate n (pos 0)) k ≡ pos 0
item_of_zeros zero k = refl
item_of_zeros (suc n) zero = refl
item_of_zeros (suc n) (suc k) = item_of_zeros n k

pub zero_within : (b : ℕ) → Within b (pos 0)
zero_within b = record { low = omega (arith, ints); high = omega (arith, ints) }

pub zeros_within : (n b : ℕ) → AllWithin n b (replicate n (pos 0))
zeros_within n b k h = let P : ℤ → Type 0 = λ z. Within b z in subst P (sym (item_of_zeros n k)) (zero_within b)

pub set_within : (n b p : ℕ) (v : ℤ) (c : List ℤ) → p < length c → Within b v → AllWithin n b c → AllWithin n b (set c p v)
set_within n b p v c inside is_v all k h =
    let P : ℤ → Type 0 = λ z. Within b z in
    elim (cases_lt k p) [
      | inl l ↦ subst P (sym (get_or-set_other c p k v (pos 0) (λ z. absurd (omega arith)))) (all k h)
      | inr g ↦
          (elim (cases_lt p k) [
            | inl l ↦ subst P (sym (get_or-set_other c p k v (pos 0) (λ z. absurd (omega arith)))) (all k h)
            | inr l ↦ (let e : k ≡ p = omega arith in subst P (sym (get_or-set_at c p k v (pos 0) e inside)) is_v)
          ])
    ]

pub fits_from_within : (z : ℤ) → Within 8191 z → SFits w32 z
fits_from_within (pos n) w = record { sfits = omega (arith, ints) }
fits_from_within (negsuc n) w = record { sfits = omega (arith, ints) }

pub coefficients4_are : (kind : BlockKind) (qp : ℕ) (levels c : List ℤ) → c ≡ steps (λ s c. set c (get_or ZIGZAG4 s 0) (rescaled kind qp (get_or ZIGZAG4 s 0) (item levels s))) 16 (replicate 16 (pos 0)) → c ≡ coefficients4 kind qp levels
unfolding coefficients4
coefficients4_are kind qp levels c done = done

pub coefficients8_are : (qp : ℕ) (levels c : List ℤ) → c ≡ steps (λ s c. set c (get_or ZIGZAG8 s 0) (rescaled Luma8 qp (get_or ZIGZAG8 s 0) (item levels s))) 64 (replicate 64 (pos 0)) → c ≡ coefficients8 qp levels
unfolding coefficients8
coefficients8_are qp levels c done = done

pub place4 : (s : ℕ) → get_or ZIGZAG4 s 0 < 16
place4 s = let q = in_row 15 ZIGZAG4 tt s in omega arith

pub place8 : (s : ℕ) → get_or ZIGZAG8 s 0 < 64
place8 s = let q = in_row 63 ZIGZAG8 tt s in omega arith

pub made_at : (kind : BlockKind) (intra : Bool) (qp m m' : ℕ) (z z' : ℤ) → m ≡ m' → z ≡ z' → IsMade kind intra qp m' z' → IsMade kind intra qp m z
made_at kind intra qp m m' z z' e f made =
    let P : ℕ → Type 0 = λ p. IsMade kind intra qp p z in
    let Q : ℤ → Type 0 = λ v. IsMade kind intra qp m' v in
    subst P (sym e) (subst Q (sym f) made)

pub the_level : (z w : ℤ) → z ≡ w → Within 8191 w → SFits w32 z
the_level z w e h = let P : ℤ → Type 0 = λ v. Within 8191 v in fits_from_within z (subst P (sym e) h)

-- ---- levels that the quantiser made

made_of : (kind : BlockKind) (intra : Bool) (qp : ℕ) (xs : List ℤ) → AllWithin 16 (greatest kind) xs → (s : ℕ) → s < 16 → IsMade kind intra qp (get_or ZIGZAG4 s 0) (item (levels4_of kind intra qp xs) s)
unfolding levels4_of
made_of kind intra qp xs small s h = record {
  coefficient = item xs (get_or ZIGZAG4 s 0);
  small = small (get_or ZIGZAG4 s 0) (place4 s);
  made = item-listed 16 (λ s. level_of kind intra qp (get_or ZIGZAG4 s 0) (item xs (get_or ZIGZAG4 s 0))) s h;
}

pub made4 : (kind : BlockKind) (intra : Bool) (qp : ℕ) (xs levels : List ℤ) → levels ≡ levels4_of kind intra qp xs → AllWithin 16 (greatest kind) xs → AllMade4 kind intra qp levels
made4 kind intra qp xs levels is small s h =
    let P : List ℤ → Type 0 = λ l. IsMade kind intra qp (get_or ZIGZAG4 s 0) (item l s) in
    subst P (sym is) (made_of kind intra qp xs small s h)

made_of8 : (intra : Bool) (qp : ℕ) (xs : List ℤ) → AllWithin 64 16320 xs → (s : ℕ) → s < 64 → IsMade Luma8 intra qp (get_or ZIGZAG8 s 0) (item (levels8_of intra qp xs) s)
unfolding levels8_of
made_of8 intra qp xs small s h = record {
  coefficient = item xs (get_or ZIGZAG8 s 0);
  small = small (get_or ZIGZAG8 s 0) (place8 s);
  made = item-listed 64 (λ s. level_of Luma8 intra qp (get_or ZIGZAG8 s 0) (item xs (get_or ZIGZAG8 s 0))) s h;
}

pub made8 : (intra : Bool) (qp : ℕ) (xs levels : List ℤ) → levels ≡ levels8_of intra qp xs → AllWithin 64 16320 xs → AllMade8 intra qp levels
made8 intra qp xs levels is small s h =
    let P : List ℤ → Type 0 = λ l. IsMade Luma8 intra qp (get_or ZIGZAG8 s 0) (item l s) in
    subst P (sym is) (made_of8 intra qp xs small s h)

-- ---- the steps of a block, joined

pub spectrum4_is : (d c : List ℤ) (s p : List ℕ) → d ≡ differences 16 s p → c ≡ forward4_of d → c ≡ spectrum4 s p
unfolding spectrum4
spectrum4_is d c s p e f = f ∙ ap (λ (l : List ℤ). forward4_of l) e

pub spectrum8_is : (d c : List ℤ) (s p : List ℕ) → d ≡ differences 64 s p → c ≡ forward8_of d → c ≡ spectrum8 s p
unfolding spectrum8
spectrum8_is d c s p e f = f ∙ ap (λ (l : List ℤ). forward8_of l) e

pub luma_levels4_is : (intra : Bool) (qp : ℕ) (c levels : List ℤ) (s p : List ℕ) → c ≡ spectrum4 s p → levels ≡ levels4_of Luma4 intra qp c → levels ≡ luma_levels4 intra qp s p
unfolding luma_levels4
luma_levels4_is intra qp c levels s p e f = f ∙ ap (λ (l : List ℤ). levels4_of Luma4 intra qp l) e

pub luma_levels8_is : (intra : Bool) (qp : ℕ) (c levels : List ℤ) (s p : List ℕ) → c ≡ spectrum8 s p → levels ≡ levels8_of intra qp c → levels ≡ luma_levels8 intra qp s p
unfolding luma_levels8
luma_levels8_is intra qp c levels s p e f = f ∙ ap (λ (l : List ℤ). levels8_of intra qp l) e

pub built4_is : (qp : ℕ) (levels c r : List ℤ) (p out : List ℕ) → c ≡ coefficients4 Luma4 qp levels → r ≡ inverse4_of c → out ≡ constructed 16 p r → out ≡ built4 qp levels p
unfolding built4
built4_is qp levels c r p out e f g = g ∙ ap (λ (l : List ℤ). constructed 16 p l) (f ∙ ap (λ (l : List ℤ). inverse4_of l) e)

pub built8_is : (qp : ℕ) (levels c r : List ℤ) (p out : List ℕ) → c ≡ coefficients8 qp levels → r ≡ inverse8_of c → out ≡ constructed 64 p r → out ≡ built8 qp levels p
unfolding built8
built8_is qp levels c r p out e f g = g ∙ ap (λ (l : List ℤ). constructed 64 p l) (f ∙ ap (λ (l : List ℤ). inverse8_of l) e)

pub built_with_dc_is : (kind : BlockKind) (qp : ℕ) (dc : ℤ) (levels c r : List ℤ) (p out : List ℕ) → c ≡ coefficients4 kind qp levels → r ≡ inverse4_of (set c 0 dc) → out ≡ constructed 16 p r → out ≡ built_with_dc kind qp dc levels p
unfolding built_with_dc
built_with_dc_is kind qp dc levels c r p out e f g = g ∙ ap (λ (l : List ℤ). constructed 16 p l) (f ∙ ap (λ (l : List ℤ). inverse4_of (set l 0 dc)) e)

pub levels_without_dc_is : (kind : BlockKind) (intra : Bool) (qp : ℕ) (c levels : List ℤ) → levels ≡ levels4_of kind intra qp (set c 0 (pos 0)) → levels ≡ levels_without_dc kind intra qp c
unfolding levels_without_dc
levels_without_dc_is kind intra qp c levels e = e

pub fits16_from_within : (z : ℤ) → Within 8191 z → SFits w16 z
fits16_from_within (pos n) w = record { sfits = omega (arith, ints) }
fits16_from_within (negsuc n) w = record { sfits = omega (arith, ints) }
