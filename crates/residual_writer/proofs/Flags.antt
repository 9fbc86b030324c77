-- The flags of a block, place by place.
use Rattle.std.proofs.Common.{◌≡◌, ℕ, zero, suc, ◌+◌, ◌-◌, ◌<◌, ◌≤◌, Bool, true, false, List, [], ◌∷◌, ◌++◌, refl, ◌∙◌, arith, length, get_or, drop, map}
use Rattle.std.specs.Prelude.{ℤ, pos, negsuc}
use Rattle.std.proofs.lemmas.List.{drop_more, drop_all}
use Rattle.spec_syntax.specs.Syntax.{at}
use Rattle.spec_syntax.specs.Levels.{significant_at, last_at}
use Rattle.spec_syntax.specs.Blocks.{none, nonzero, significance_string}
use Rattle.residual_writer.specs.Parts.{IsLast, place_string}

pub none_zero : (l : ℤ) (ls : List ℤ) → nonzero l ≡ false → none (map nonzero (l ∷ ls)) ≡ none (map nonzero ls)
unfolding none
none_zero (pos zero) ls h = refl
none_zero (pos (suc n)) ls h = absurd cc
none_zero (negsuc n) ls h = absurd cc

pub none_some : (l : ℤ) (ls : List ℤ) → nonzero l ≡ true → none (map nonzero (l ∷ ls)) ≡ false
unfolding none
none_some (pos zero) ls h = absurd cc
none_some (pos (suc n)) ls h = refl
none_some (negsuc n) ls h = refl

-- from a place to the one before it
pub none_less : (ls : List ℤ) (i : ℕ) (d : ℤ) → 0 < i → i ≤ length ls → nonzero (get_or ls (i - 1) d) ≡ false → none (map nonzero (drop i ls)) ≡ true → none (map nonzero (drop (i - 1) ls)) ≡ true
none_less ls i d some within h k =
    let e : i - 1 + 1 ≡ i = omega arith in
    rw (drop_more ls (i - 1) d (omega arith), e) (none_zero (get_or ls (i - 1) d) (drop i ls) h ∙ k)

pub none_end : (ls : List ℤ) (i : ℕ) → length ls ≤ i → none (map nonzero (drop i ls)) ≡ true
unfolding none
none_end ls i h = rw (drop_all i ls h) refl

none_later : (l : ℤ) (ls : List ℤ) → none (map nonzero ls) ≡ false → none (map nonzero (l ∷ ls)) ≡ false
unfolding none
none_later (pos zero) ls h = h
none_later (pos (suc n)) ls h = refl
none_later (negsuc n) ls h = refl

-- before a level that isn't 0, and at its place
pub none_before : (n : ℕ) (ls : List ℤ) (i : ℕ) (d : ℤ) → i + n < length ls → nonzero (get_or ls (i + n) d) ≡ true → none (map nonzero (drop i ls)) ≡ false
none_before zero ls i d within h =
    let e : i + 0 ≡ i = omega arith in
    rw (drop_more ls i d (omega arith)) (none_some (get_or ls i d) (drop (i + 1) ls) (rw e at h))
none_before (suc n) ls i d within h =
    let e : i + suc n ≡ i + 1 + n = omega arith in
    rw (drop_more ls i d (omega arith)) (none_later (get_or ls i d) (drop (i + 1) ls) (none_before n ls (i + 1) d (omega arith) (rw e at h)))

place_then : (c i n : ℕ) (f : Bool) (fs : List Bool) → none fs ≡ false → significance_string c i (suc n) (f ∷ fs) ≡ place_string c i f ++ significance_string c (suc i) n fs
unfolding significance_string
place_then c i n false fs h = refl
place_then c i n true fs h = rw h refl

place_last : (c i n : ℕ) (f : Bool) (fs : List Bool) → f ≡ true → none fs ≡ true → significance_string c i (suc n) (f ∷ fs) ≡ at (significant_at c i) true ∷ at (last_at c i) true ∷ []
unfolding significance_string
place_last c i n false fs e h = absurd cc
place_last c i n true fs e h = rw h refl

-- one place more, before that of the last level
pub flags_more : (c i last : ℕ) (ls : List ℤ) (d : ℤ) → IsLast ls last → i < last
    → significance_string c i (length ls - 1 - i) (map nonzero (drop i ls)) ≡ place_string c i (nonzero (get_or ls i d)) ++ significance_string c (i + 1) (length ls - 1 - (i + 1)) (map nonzero (drop (i + 1) ls))
flags_more c i last ls d h lt =
    let within = h.within in
    let e : length ls - 1 - i ≡ suc (length ls - 1 - (i + 1)) = omega arith in
    let o : i + 1 ≡ suc i = omega arith in
    let p : i + 1 + (last - (i + 1)) ≡ last = omega arith in
    let n : none (map nonzero (drop (i + 1) ls)) ≡ false = none_before (last - (i + 1)) ls (i + 1) (pos 0) (rw p within) (rw p h.some) in
    let k = drop_more ls i d (omega arith) in
    rw (e, k, o) (place_then c i (length ls - 1 - suc i) (nonzero (get_or ls i d)) (map nonzero (drop (suc i) ls)) (rw o at n))

-- the last level's place, where others follow, and where it is the block's last
pub flags_last : (c last : ℕ) (ls : List ℤ) → IsLast ls last → last + 1 < length ls
    → significance_string c last (length ls - 1 - last) (map nonzero (drop last ls)) ≡ (at (significant_at c last) true ∷ []) ++ (at (last_at c last) true ∷ [])
flags_last c last ls h lt =
    let e : length ls - 1 - last ≡ suc (length ls - 1 - (last + 1)) = omega arith in
    let k = drop_more ls last (pos 0) (omega arith) in
    rw (e, k) (place_last c last (length ls - 1 - (last + 1)) (nonzero (get_or ls last (pos 0))) (map nonzero (drop (last + 1) ls)) h.some h.others)

pub flags_end : (c i : ℕ) (ls : List ℤ) (fs : List Bool) → length ls ≤ i + 1 → significance_string c i (length ls - 1 - i) fs ≡ []
unfolding significance_string
flags_end c i ls fs h = let e : length ls - 1 - i ≡ 0 = omega arith in rw e refl

pub place_zero : (c i : ℕ) (f : Bool) → f ≡ false → place_string c i f ≡ at (significant_at c i) f ∷ []
place_zero c i f h = rw h refl

pub place_one : (c i : ℕ) (f : Bool) → f ≡ true → place_string c i f ≡ (at (significant_at c i) f ∷ []) ++ (at (last_at c i) false ∷ [])
place_one c i f h = rw h refl

pub last_some : (ls : List ℤ) (last : ℕ) → IsLast ls last → none (map nonzero ls) ≡ false
last_some ls last h = none_before last ls 0 (pos 0) (omega (arith, h.within)) (let e : 0 + last ≡ last = omega arith in rw e h.some)
