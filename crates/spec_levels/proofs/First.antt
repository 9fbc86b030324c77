-- The first level that a stream fits, and that it is the least.
use Rattle.std.proofs.Common.{ℕ, ◌-◌, ◌≡◌, ◌≤◌, ◌<◌, Bool, true, false, cond, List, [], ◌∷◌, length, take, drop, Option, Some, None, refl, sym, ap, ◌∙◌, ap₂, arith}
use Rattle.std.specs.Prelude.{◌==◌, ◌&&◌, ◌||◌, nat_le, slice_index_or, IfSome}
use Rattle.std.specs.List.{find, list_any}
use Rattle.std.specs.Option.{option_map}
use Rattle.std.proofs.lemmas.Bool.Decides.{nat_tests}
use Rattle.std.proofs.lemmas.Grind.{common_steps}
use Rattle.spec_levels.specs.declared.TheConstants.{LEVELS}
use Rattle.spec_levels.specs.declared.Need.{Need}
use Rattle.spec_levels.specs.Levels.{meets, fits, first_level, least_level, IsLeast}

-- ---- one level after another

rest_is : (left : List (ℕ × List ℕ)) → take (length left - 1) (drop 1 left) ≡ drop 1 left
rest_is left = grind (arith, common_steps)

at_front : (n : Need) (x : ℕ × List ℕ) (xs : List (ℕ × List ℕ)) (b : Bool) → meets x.1 n ≡ b → first_level (x ∷ xs) n ≡ cond b (Some x.0) (first_level xs n)
unfolding first_level
at_front n x xs true e = ap (λ b. option_map (λ (l : ℕ × List ℕ). l.0) (cond b (Some x) (find (λ l. meets l.1 n) xs))) e
at_front n x xs false e = ap (λ b. option_map (λ (l : ℕ × List ℕ). l.0) (cond b (Some x) (find (λ l. meets l.1 n) xs))) e

pub first_here : (n : Need) (left : List (ℕ × List ℕ)) → 1 ≤ length left → meets (slice_index_or left 0 (0, [])).1 n ≡ true → Some (slice_index_or left 0 (0, [])).0 ≡ first_level left n
first_here n [] some e = absurd (omega (arith, some))
first_here n (x ∷ xs) some e = sym (at_front n x xs true e)

pub first_later : (n : Need) (left : List (ℕ × List ℕ)) → 1 ≤ length left → meets (slice_index_or left 0 (0, [])).1 n ≡ false → first_level (take (length left - 1) (drop 1 left)) n ≡ first_level left n
first_later n [] some e = absurd (omega (arith, some))
first_later n (x ∷ xs) some e = ap (λ (ys : List (ℕ × List ℕ)). first_level ys n) (rest_is (x ∷ xs)) ∙ sym (at_front n x xs false e)

pub first_none : (n : Need) (left : List (ℕ × List ℕ)) → length left < 1 → None ≡ first_level left n
unfolding first_level
first_none n [] e = refl
first_none n (x ∷ xs) e = absurd (omega (arith, e))

-- ---- levels by rising number, where q says which a stream fits

rises : ℕ → List (ℕ × List ℕ) → Bool
rises least [] = true
rises least (x ∷ xs) = nat_le least x.0 && rises x.0 xs

abbrev first_by : (ℕ × List ℕ → Bool) → List (ℕ × List ℕ) → Option ℕ
first_by q levels = option_map (λ l. l.0) (find q levels)

abbrev fits_by : (ℕ × List ℕ → Bool) → List (ℕ × List ℕ) → ℕ → Bool
fits_by q levels k = list_any (λ l. (l.0 == k) && q l) levels

record Least (q : ℕ × List ℕ → Bool) (levels : List (ℕ × List ℕ)) (k : ℕ) : Type 0 where
  here : fits_by q levels k ≡ true
  low : (m : ℕ) → fits_by q levels m ≡ true → k ≤ m

split : (a b : Bool) → (a && b) ≡ true → (a ≡ true) × (b ≡ true)
split true b e = (refl, e)
split false b e = absurd cc

is_le : (a b : ℕ) → nat_le a b ≡ true → a ≤ b
is_le a b e = grind (arith, nat_tests)

le_is : (a : ℕ) → nat_le a a ≡ true
le_is a = grind (arith, nat_tests)

same : (k : ℕ) → (k == k) ≡ true
same k = grind (arith, nat_tests)

is_same : (a b : ℕ) → (a == b) ≡ true → a ≡ b
is_same a b e = grind (arith, nat_tests)

-- no level below
above : (q : ℕ × List ℕ → Bool) (levels : List (ℕ × List ℕ)) (low : ℕ) (m : ℕ) → rises low levels ≡ true → fits_by q levels m ≡ true → low ≤ m
unfolding rises
above q [] low m r e = absurd cc
above q (x ∷ xs) low m r e =
    let s = split (nat_le low x.0) (rises x.0 xs) r in
    by (x.0 == m) (q x) refl (is_le low x.0 s.0) (λ h. above q xs x.0 m s.1 h) e
  where
    by : (a b : Bool) → (x.0 == m) ≡ a → low ≤ x.0 → (fits_by q xs m ≡ true → x.0 ≤ m) → ((a && b) || fits_by q xs m) ≡ true → low ≤ m
    by true true h l ih e = let d = is_same x.0 m h in omega (arith, d, l)
    by true false h l ih e = let g = ih e in omega (arith, l, g)
    by false b h l ih e = let g = ih e in omega (arith, l, g)

abbrev IsFirst : (ℕ × List ℕ → Bool) → List (ℕ × List ℕ) → Option ℕ → Type 0
IsFirst q levels None = (m : ℕ) → fits_by q levels m ≡ false
IsFirst q levels (Some k) = Least q levels k

-- a level that isn't fitted changes nothing
passed : (a : Bool) (c : Bool) → ((a && false) || c) ≡ c
passed true c = refl
passed false c = refl

skipped : (q : ℕ × List ℕ → Bool) (x : ℕ × List ℕ) (xs : List (ℕ × List ℕ)) (m : ℕ) → q x ≡ false → fits_by q (x ∷ xs) m ≡ fits_by q xs m
skipped q x xs m e = ap (λ b. ((x.0 == m) && b) || fits_by q xs m) e ∙ passed (x.0 == m) (fits_by q xs m)

still : (q : ℕ × List ℕ → Bool) (x : ℕ × List ℕ) (xs : List (ℕ × List ℕ)) (o : Option ℕ) → q x ≡ false → IsFirst q xs o → IsFirst q (x ∷ xs) o
still q x xs None e h = λ m. skipped q x xs m e ∙ h m
still q x xs (Some k) e h = record { here = skipped q x xs k e ∙ h.here; low = λ m f. h.low m (sym (skipped q x xs m e) ∙ f) }

fitted : (q : ℕ × List ℕ → Bool) (x : ℕ × List ℕ) (xs : List (ℕ × List ℕ)) → q x ≡ true → rises x.0 xs ≡ true → Least q (x ∷ xs) x.0
unfolding rises
fitted q x xs e r = record {
  here = ap₂ (λ a b. (a && b) || fits_by q xs x.0) (same x.0) e;
  low = λ m f. above q (x ∷ xs) x.0 m (ap₂ (λ a b. a && b) (le_is x.0) r) f;
}

first_is : (q : ℕ × List ℕ → Bool) (levels : List (ℕ × List ℕ)) (low : ℕ) → rises low levels ≡ true → IsFirst q levels (first_by q levels)
unfolding rises
first_is q [] low r = λ m. refl
first_is q (x ∷ xs) low r =
    let s = split (nat_le low x.0) (rises x.0 xs) r in by (q x) refl s.1 (first_is q xs x.0 s.1)
  where
    by : (b : Bool) → q x ≡ b → rises x.0 xs ≡ true → IsFirst q xs (first_by q xs) → IsFirst q (x ∷ xs) (option_map (λ l. l.0) (cond b (Some x) (find q xs)))
    by true e r ih = fitted q x xs e r
    by false e r ih = still q x xs (first_by q xs) e ih

levels_rise : rises 0 LEVELS ≡ true
unfolding rises
levels_rise = refl

-- of all levels
pub least_is : (n : Need) → IfSome (least_level n) (λ level. IsLeast level n)
unfolding first_level fits
least_is n = by (first_by (λ l. meets l.1 n) LEVELS) (first_is (λ l. meets l.1 n) LEVELS 0 levels_rise)
  where
    by : (o : Option ℕ) → IsFirst (λ l. meets l.1 n) LEVELS o → IfSome o (λ level. IsLeast level n)
    by None h = tt
    by (Some k) h = record { fits_it = h.here; least = h.low }

pub none_fits : (n : Need) → least_level n ≡ None → (level : ℕ) → fits level n ≡ false
unfolding first_level fits
none_fits n e = by (first_by (λ l. meets l.1 n) LEVELS) (first_is (λ l. meets l.1 n) LEVELS 0 levels_rise) e
  where
    by : (o : Option ℕ) → IsFirst (λ l. meets l.1 n) LEVELS o → o ≡ None → (level : ℕ) → fits_by (λ l. meets l.1 n) LEVELS level ≡ false
    by None h e = h
    by (Some k) h e = absurd cc
