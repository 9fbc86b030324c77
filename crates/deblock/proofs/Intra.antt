-- The strengths of intra macroblocks.
use Rattle.std.proofs.Common.{◌≡◌, ◌<◌, ℕ, ◌/◌, ◌%◌, ◌==◌, ◌||◌, Bool, true, false, cond, List, get_or, map, refl, sym, ap, ◌∙◌, arith, ℤ}
use Rattle.std.specs.List.{range_with_len}
use Rattle.std.proofs.lemmas.List.FromFn.{get_or-map-range_with_len}
use Rattle.enc_tables.specs.declared.records.MbRecord.{MbRecord}
use Rattle.enc_tables.specs.Kinds.{is_intra}
use Rattle.spec_filter.specs.Strengths.{strength}
use Rattle.spec_filter.specs.Macroblocks.{vertical_strength, horizontal_strength, strengths}
use Rattle.deblock.specs.declared.strengths.TheConstants.{INTRA_STRENGTHS}
use Rattle.deblock.proofs.Folds.{strengths_are}

outer_first : ℕ → ℕ → ℕ
outer_first k g = cond (k == 0) 4 3

listed : INTRA_STRENGTHS ≡ map (λ i. outer_first (i / 4) (i % 4)) (range_with_len 0 16)
unfolding outer_first
listed = refl

at : (i : ℕ) → i < 16 → get_or INTRA_STRENGTHS i 0 ≡ outer_first (i / 4) (i % 4)
at i h = ap (λ (xs : List ℕ). get_or xs i 0) listed ∙ get_or-map-range_with_len (λ i. outer_first (i / 4) (i % 4)) 0 16 i i 0 h (omega arith)

either : (a b : Bool) → b ≡ true → (a || b) ≡ true
either a b e = rw e (by a)
  where
    by : (a : Bool) → (a || true) ≡ true
    by true = refl
    by false = refl

ladder : (a : Bool) (x y : ℕ) → a ≡ true → cond a x y ≡ x
ladder a x y e = rw e refl

of_intra : (pictures0 pictures1 : List ℤ) (outer : Bool) (p mb : MbRecord) (a b c d : ℕ) → is_intra mb.kind ≡ true → strength pictures0 pictures1 outer p a b mb c d ≡ cond outer 4 3
unfolding strength
of_intra pictures0 pictures1 outer p mb a b c d h = ladder (is_intra p.kind || is_intra mb.kind) (cond outer 4 3) _ (either (is_intra p.kind) (is_intra mb.kind) h)

pub intra_vertical : (pictures0 pictures1 : List ℤ) (before mb : MbRecord) → is_intra mb.kind ≡ true → INTRA_STRENGTHS ≡ strengths (vertical_strength pictures0 pictures1 before mb)
unfolding vertical_strength outer_first
intra_vertical pictures0 pictures1 before mb h =
    strengths_are (vertical_strength pictures0 pictures1 before mb) INTRA_STRENGTHS refl
    (λ i few. at i few ∙ sym (of_intra pictures0 pictures1 (i / 4 == 0) (cond (i / 4 == 0) before mb) mb _ _ _ _ h))

pub intra_horizontal : (pictures0 pictures1 : List ℤ) (before mb : MbRecord) → is_intra mb.kind ≡ true → INTRA_STRENGTHS ≡ strengths (horizontal_strength pictures0 pictures1 before mb)
unfolding horizontal_strength outer_first
intra_horizontal pictures0 pictures1 before mb h =
    strengths_are (horizontal_strength pictures0 pictures1 before mb) INTRA_STRENGTHS refl
    (λ i few. at i few ∙ sym (of_intra pictures0 pictures1 (i / 4 == 0) (cond (i / 4 == 0) before mb) mb _ _ _ _ h))
