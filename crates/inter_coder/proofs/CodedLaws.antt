-- Macroblocks whose motion is known: what becomes of them.
use Rattle.std.proofs.Common.{◌≡◌, ℕ, pos, Bool, true, false, not, cond, List, replicate, Option, Some, None, refl, sym, ap, ap₂, subst, ◌∙◌, arith}
use Rattle.std.specs.Prelude.{nat_le, nat_lt}
use Rattle.std.proofs.lemmas.Bool.Decides.{nat_tests}
use Rattle.enc_tables.specs.declared.records.MbKind.{MbKind}
use Rattle.enc_tables.specs.declared.records.MbRecord.{MbRecord}
use Rattle.enc_tables.specs.declared.records.Motion.{Motion}
use Rattle.enc_tables.specs.Records.{blank_record}
use Rattle.spec_film.specs.Films.{Planes}
use Rattle.spec_reconstruction.specs.declared.Site.{Site}
use Rattle.spec_reconstruction.specs.Chroma.{chroma_qp}
use Rattle.spec_reconstruction.specs.Inter.{Sources, luma_predicted, chroma_predicted, inter_built}
use Rattle.spec_coded.specs.Levels.{levelled, with_levels, predicted_planes, is_blank}
use Rattle.spec_coded.specs.Planned.{moving}
use Rattle.residual_coder.proofs.BlockLaws.{item_of_zeros}
use Rattle.residual_coder.proofs.NoLevels.{zeros_quantised, zeros_chroma}
use Rattle.inter_coder.specs.declared.given.Pictures.{Pictures}
use Rattle.inter_coder.specs.Given.{wide_of, sources_in}
use Rattle.inter_coder.specs.Made.{IsCoded, made_by, built_by, if_blank, direct_or}

-- ---- records

pub moving_is : (kind : MbKind) (qp : ℕ) (b : MbRecord) (motion : List Motion) → b ≡ blank_record kind qp → (let mb : MbRecord = record b { motion = motion } in mb) ≡ moving kind qp motion
moving_is kind qp b motion e = ap (λ (r : MbRecord). let mb : MbRecord = record r { motion = motion } in mb) e

pub levelled_moves : (wide : ℕ) (site : Site) (t8x8 : Bool) (source q : Planes) (mb : MbRecord) → (levelled wide site t8x8 source q mb).motion ≡ mb.motion
unfolding levelled with_levels
levelled_moves wide site t8x8 source q mb = refl

pub made_same : (p : Pictures) (t8x8 : Bool) (site : Site) (a b c : MbRecord) → a ≡ made_by p t8x8 site b → b ≡ c → a ≡ made_by p t8x8 site c
made_same p t8x8 site a b c e h = e ∙ ap (λ (r : MbRecord). made_by p t8x8 site r) h

-- a skipped macroblock's samples are those of the direct one
pub skipped_predicted : (wide : ℕ) (s : Sources) (site : Site) (a b : MbRecord) → (let skipped : MbRecord = record b { kind = MbKind.BSkip } in a ≡ skipped) → predicted_planes wide s site b ≡ predicted_planes wide s site a
unfolding luma_predicted chroma_predicted
skipped_predicted wide s site a b e = ap (λ (r : MbRecord). predicted_planes wide s site r) (sym e)

pub skipped_coded : (qp : ℕ) (a b : MbRecord) → (let skipped : MbRecord = record b { kind = MbKind.BSkip } in a ≡ skipped) → IsCoded qp b → IsCoded qp a
skipped_coded qp a b e h = subst (λ (r : MbRecord). IsCoded qp r) (sym e) (record { luma = h.luma; cb = h.cb; cr = h.cr })

pub blank_coded : (qp : ℕ) (kind : MbKind) (q : ℕ) (motion : List Motion) (mb : MbRecord) → mb ≡ moving kind q motion → IsCoded qp mb
unfolding blank_record
blank_coded qp kind q motion mb e = subst (λ (r : MbRecord). IsCoded qp r) (sym e) (record {
  luma = zeros_quantised qp (replicate 256 (pos 0)) (λ k. item_of_zeros 256 k);
  cb = zeros_chroma (chroma_qp qp) (replicate 4 (pos 0)) (replicate 60 (pos 0)) (λ k. item_of_zeros 4 k) (λ k. item_of_zeros 60 k);
  cr = zeros_chroma (chroma_qp qp) (replicate 4 (pos 0)) (replicate 60 (pos 0)) (λ k. item_of_zeros 4 k) (λ k. item_of_zeros 60 k);
})

pub blank_motion : (kind : MbKind) (q : ℕ) (motion : List Motion) (mb : MbRecord) → mb ≡ moving kind q motion → mb.motion ≡ motion
blank_motion kind q motion mb e = ap (λ (r : MbRecord). r.motion) e

-- ---- samples

pub built_is : (p : Pictures) (site : Site) (mb : MbRecord) (wide : ℕ) (q new old : Planes) → wide ≡ wide_of p → ((s : Sources) → q ≡ predicted_planes wide s site mb → new ≡ inter_built wide s site mb old)
    → q ≡ predicted_planes (wide_of p) (sources_in p) site mb → new ≡ built_by p site mb old
built_is p site mb wide q new old alike built e =
    built (sources_in p) (e ∙ ap (λ (n : ℕ). predicted_planes n (sources_in p) site mb) (sym alike)) ∙ ap (λ (n : ℕ). inter_built n (sources_in p) site mb old) alike

-- ---- what is taken

pub if_blank_some : (m x : MbRecord) → m ≡ x → is_blank m ≡ true → Some m ≡ if_blank x
if_blank_some m x e h = by (is_blank m) h ∙ ap (λ (r : MbRecord). if_blank r) e
  where
    by : (b : Bool) → b ≡ true → Some m ≡ cond b (Some m) None
    by true h = refl
    by false h = absurd cc

pub if_blank_none : (m x : MbRecord) → m ≡ x → is_blank m ≡ false → None ≡ if_blank x
if_blank_none m x e h = by (is_blank m) h ∙ ap (λ (r : MbRecord). if_blank r) e
  where
    by : (b : Bool) → b ≡ false → None ≡ cond b (Some m) None
    by true h = absurd cc
    by false h = refl

le_is : (a b : ℕ) (t : Bool) → nat_lt b a ≡ t → nat_le a b ≡ not t
le_is a b true h = grind (arith, nat_tests)
le_is a b false h = grind (arith, nat_tests)

abbrev choose : Bool → Bool → MbRecord → Option MbRecord
choose blank cheap mb = cond blank (Some (let skipped : MbRecord = record mb { kind = MbKind.BSkip } in skipped)) (cond cheap (Some mb) None)

chosen : (blank cheap b c : Bool) (mb : MbRecord) → blank ≡ b → cheap ≡ c → choose b c mb ≡ choose blank cheap mb
chosen blank cheap b c mb e f = ap₂ (λ (x y : Bool). choose x y mb) (sym e) (sym f)

skipped_first : (cheap : Bool) (mb : MbRecord) → (let skipped : MbRecord = record mb { kind = MbKind.BSkip } in Some skipped) ≡ choose true cheap mb
skipped_first true mb = refl
skipped_first false mb = refl

module _ (d cost e : ℕ) (m x : MbRecord) where
  pub direct_skipped : (s : MbRecord) → m ≡ x → is_blank m ≡ true → (let skipped : MbRecord = record m { kind = MbKind.BSkip } in s ≡ skipped) → Some s ≡ direct_or d cost x
  direct_skipped s same blank is =
      ap (λ (r : MbRecord). Some r) is ∙ skipped_first (nat_le d cost) m ∙ chosen (is_blank m) (nat_le d cost) true (nat_le d cost) m blank refl
      ∙ ap (λ (r : MbRecord). direct_or d cost r) same

  pub direct_taken : m ≡ x → is_blank m ≡ false → e ≡ d → nat_lt cost e ≡ false → Some m ≡ direct_or d cost x
  direct_taken same blank is cheap =
      chosen (is_blank m) (nat_le d cost) false true m blank (ap (λ (n : ℕ). nat_le n cost) (sym is) ∙ le_is e cost false cheap) ∙ ap (λ (r : MbRecord). direct_or d cost r) same

  pub direct_left : m ≡ x → is_blank m ≡ false → e ≡ d → nat_lt cost e ≡ true → None ≡ direct_or d cost x
  direct_left same blank is dear =
      chosen (is_blank m) (nat_le d cost) false false m blank (ap (λ (n : ℕ). nat_le n cost) (sym is) ∙ le_is e cost true dear) ∙ ap (λ (r : MbRecord). direct_or d cost r) same
