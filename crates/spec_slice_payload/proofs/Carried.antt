-- What holds of each record of a slice, where it follows from those around it.
use Rattle.std.proofs.Common.{◌≡◌, ℕ, zero, suc, ◌+◌, ◌-◌, ◌%◌, ◌<◌, ◌≤◌, Bool, true, false, ◌||◌, List, [], ◌∷◌, ◌++◌, length, get_or, Option, Some, None, refl, subst, sym, ap, ◌∙◌, arith, append_assoc}
use Rattle.std.proofs.Common.{inl, inr}
use Rattle.std.specs.Prelude.{◌==◌, nat_lt, if◌then◌else◌}
use Rattle.std.proofs.lemmas.Bool.{cases_lt, ltb-false}
use Rattle.std.proofs.Math.ListN.{get_or-append}
use Rattle.std.proofs.Math.Seq.{get_or-append_seam}
use Rattle.std.proofs.lemmas.Bool.Decides.{nat_tests}
use Rattle.std.proofs.lemmas.List.{length-append, append-nil}
use Rattle.enc_tables.specs.declared.records.MbRecord.{MbRecord}
use Rattle.spec_headers.specs.declared.heads.SliceHead.{SliceHead}
use Rattle.spec_partitions.specs.Near.{near_in, back}
use Rattle.enc_tables.specs.Records.{no_record}
use Rattle.spec_slice_payload.specs.Layer.{Format, Colocated, view_of}
use Rattle.spec_slice_payload.specs.Slices.{IsNext, AreRecords}

-- of all of these records
pub record Each (P : MbRecord → Type 0) (records : List MbRecord) : Type 0 where
  pub at : (i : ℕ) → i < length records → P (get_or records i no_record)

-- of a macroblock that may not be available
unfoldable pub IfThere : (MbRecord → Type 0) → Option MbRecord → Type 0
IfThere P None = Unit {0}
IfThere P (Some n) = P n

-- of the macroblocks around the next one
pub record Around (P : MbRecord → Type 0) (f : Format) (c : Colocated) (h : SliceHead) (before : List MbRecord) : Type 0 where
  pub left : IfThere P (view_of f c h before).near.left
  pub above : IfThere P (view_of f c h before).near.above
  pub above_right : IfThere P (view_of f c h before).above_right
  pub above_left : IfThere P (view_of f c h before).above_left

back_has : (P : MbRecord → Type 0) (n : ℕ) (edge : Bool) (before : List MbRecord) → (edge ≡ false → 0 < n) → Each P before → IfThere P (back before n edge)
unfolding IfThere
back_has P n true before some h = tt
back_has P n false before some h = go (nat_lt (length before) n) refl
  where
    go : (t : Bool) → nat_lt (length before) n ≡ t → IfThere P (if t then None else Some (get_or before (length before - n) no_record))
    go true e = tt
    go false e =
        let le : n ≤ length before = ltb-false (length before) n e in
        let there : 0 < n = some refl in
        h.at (length before - n) (omega arith)

left_has : (P : MbRecord → Type 0) (edge : Bool) (before : List MbRecord) → Each P before → IfThere P (if length before == 0 || edge then None else Some (get_or before (length before - 1) no_record))
unfolding IfThere
left_has P edge before h = go (length before == 0) edge refl
  where
    go : (t edge : Bool) → (length before == 0) ≡ t → IfThere P (if t || edge then None else Some (get_or before (length before - 1) no_record))
    go true edge e = tt
    go false true e = tt
    go false false e = h.at (length before - 1) (grind (arith, nat_tests))

not_edge : (across x : ℕ) → 0 < across → (x % across == 0) ≡ false → 0 < across - 1
not_edge zero x h e = absurd (omega arith)
not_edge (suc zero) x h e = let whole : x % 1 ≡ 0 = omega arith in absurd (grind (arith, nat_tests))
not_edge (suc (suc n)) x h e = omega arith

pub around_has : (P : MbRecord → Type 0) (f : Format) (c : Colocated) (h : SliceHead) (before : List MbRecord) → 0 < f.across → Each P before → Around P f c h before
unfolding near_in
around_has P f c h before some e = record {
  left = left_has P ((h.first_mb + length before) % f.across == 0) before e;
  above = back_has P f.across false before (λ k. some) e;
  above_right = back_has P (f.across - 1) ((h.first_mb + length before + 1) % f.across == 0) before (not_edge f.across (h.first_mb + length before + 1) some) e;
  above_left = back_has P (f.across + 1) ((h.first_mb + length before) % f.across == 0) before (λ k. omega arith) e;
}

pub one_more : (P : MbRecord → Type 0) (before : List MbRecord) (mb : MbRecord) → Each P before → P mb → Each P (before ++ mb ∷ [])
one_more P before mb h k = record {
  at = λ i lt. elim (cases_lt i (length before)) [
    | inl less ↦ subst P (sym (get_or-append before (mb ∷ []) no_record i less)) (h.at i less)
    | inr more ↦
        let last : i ≡ length before = omega (arith, lt, length-append before (mb ∷ [])) in
        subst P (sym (ap (λ j. get_or (before ++ mb ∷ []) j no_record) last ∙ get_or-append_seam before mb [] no_record)) k
  ];
}

-- it holds of each, where it holds of one around which it holds, and which may have a property of its own
abbrev pub GoesOver : (MbRecord → Type 0) → (MbRecord → Type 0) → Format → Colocated → SliceHead → Type 0
GoesOver Own P f c h = (before : List MbRecord) (mb : MbRecord) → Around P f c h before → IsNext f c h before mb → Own mb → P mb

rest_has : (Own P : MbRecord → Type 0) (f : Format) (c : Colocated) (h : SliceHead) (before rest : List MbRecord) → 0 < f.across → GoesOver Own P f c h → Each P before → Each Own rest → AreRecords f c h before rest → Each P (before ++ rest)
rest_has Own P f c h before [] some step e own k = subst (λ (xs : List MbRecord). Each P xs) (sym (append-nil before)) e
rest_has Own P f c h before (mb ∷ rest) some step e own k =
    subst (λ (xs : List MbRecord). Each P xs) (append_assoc before (mb ∷ []) rest)
    (rest_has Own P f c h (before ++ mb ∷ []) rest some step (one_more P before mb e (step before mb (around_has P f c h before some e) k.0 (own.at 0 (omega arith)))) (record { at = λ i lt. own.at (suc i) (omega (arith, lt)) }) k.1)

pub all_have : (Own P : MbRecord → Type 0) (f : Format) (c : Colocated) (h : SliceHead) (records : List MbRecord) → 0 < f.across → GoesOver Own P f c h → Each Own records → AreRecords f c h [] records → Each P records
all_have Own P f c h records some step own k = rest_has Own P f c h [] records some step (record { at = λ i lt. absurd (omega arith) }) own k
