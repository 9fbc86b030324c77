-- Whole intra macroblocks, part by part.
use Rattle.std.proofs.Common.{◌≡◌, ◌+◌, ◌/◌, ◌∷◌, ◌++◌, ℕ, ℤ, pos, true, false, List, take, drop, replicate, sym, ap, ap₂, ◌∙◌, arith}
use Rattle.enc_tables.specs.declared.records.MbKind.TheVariants as kinds
use Rattle.enc_tables.specs.declared.records.MbRecord.{MbRecord}
use Rattle.spec_contexts.specs.Increments.{some_level}
use Rattle.spec_film.specs.Films.{Planes}
use Rattle.spec_reconstruction.specs.declared.Site.{Site}
use Rattle.spec_reconstruction.specs.Luma.{luma4_built, luma4_levels, luma8_built, luma8_levels, luma16_built, luma16_dc, luma16_levels}
use Rattle.spec_reconstruction.specs.Chroma.{chroma_built, chroma_dc, chroma_ac}
use Rattle.spec_reconstruction.specs.Records.{luma_built, intra_built, luma_pattern, bit_if, intra_record, both_dc, both_ac, intra4_record, intra8_record, intra16_record}

abbrev three : List ℕ → List ℕ → List ℕ → Planes
three l b r = record { luma = l; cb = b; cr = r }

-- what was coded of the two chroma components
pub record Components (wide : ℕ) (site : Site) (mode : ℕ) (source planes : Planes) (dc ac : List ℤ) (cb cr : List ℕ) : Type 0 where
  pub dc_is : dc ≡ both_dc wide site mode source planes
  pub ac_is : ac ≡ both_ac wide site mode source planes
  pub cb_is : cb ≡ chroma_built (wide / 2) site mode (take 4 dc) (take 60 ac) planes.cb
  pub cr_is : cr ≡ chroma_built (wide / 2) site mode (drop 4 dc) (drop 60 ac) planes.cr

module _ (wide : ℕ) (site : Site) (mode : ℕ) (source planes : Planes) where
  -- at the widths of the planes of the components
  pub components_at : (wide_cb wide_cr : ℕ) (dc ac : List ℤ) (cb cr : List ℕ) → wide_cb + wide_cb ≡ wide → wide_cr + wide_cr ≡ wide
      → dc ≡ chroma_dc wide_cb site mode source.cb planes.cb ++ chroma_dc wide_cr site mode source.cr planes.cr
      → ac ≡ chroma_ac wide_cb site mode source.cb planes.cb ++ chroma_ac wide_cr site mode source.cr planes.cr
      → cb ≡ chroma_built wide_cb site mode (take 4 dc) (take 60 ac) planes.cb → cr ≡ chroma_built wide_cr site mode (drop 4 dc) (drop 60 ac) planes.cr
      → Components wide site mode source planes dc ac cb cr
  unfolding both_dc both_ac
  components_at wide_cb wide_cr dc ac cb cr h k e f b r =
      let w : wide_cb ≡ wide / 2 = omega arith in
      let v : wide_cr ≡ wide / 2 = omega arith in
      record {
        dc_is = e ∙ ap₂ (λ (m n : ℕ). chroma_dc m site mode source.cb planes.cb ++ chroma_dc n site mode source.cr planes.cr) w v;
        ac_is = f ∙ ap₂ (λ (m n : ℕ). chroma_ac m site mode source.cb planes.cb ++ chroma_ac n site mode source.cr planes.cr) w v;
        cb_is = b ∙ ap (λ (n : ℕ). chroma_built n site mode (take 4 dc) (take 60 ac) planes.cb) w;
        cr_is = r ∙ ap (λ (n : ℕ). chroma_built n site mode (drop 4 dc) (drop 60 ac) planes.cr) v;
      }

  pub intra4_is : (modes : List ℕ) (luma dc ac : List ℤ) (pattern : ℕ) (cb cr : List ℕ) (mb : MbRecord) → luma ≡ luma4_levels wide site modes source.luma planes.luma → pattern ≡ luma_pattern luma → Components wide site mode source planes dc ac cb cr
      → mb ≡ intra_record kinds.Intra4 false modes mode site.qp pattern (replicate 16 (pos 0)) luma dc ac → mb ≡ intra4_record wide site modes mode source planes
  unfolding intra4_record
  intra4_is modes luma dc ac pattern cb cr mb l p both e =
      e ∙ ap (λ (n : ℕ). intra_record kinds.Intra4 false modes mode site.qp n (replicate 16 (pos 0)) luma dc ac) p
      ∙ ap₂ (λ (d a : List ℤ). intra_record kinds.Intra4 false modes mode site.qp (luma_pattern luma) (replicate 16 (pos 0)) luma d a) both.dc_is both.ac_is
      ∙ ap (λ (luma : List ℤ). intra_record kinds.Intra4 false modes mode site.qp (luma_pattern luma) (replicate 16 (pos 0)) luma (both_dc wide site mode source planes) (both_ac wide site mode source planes)) l

  pub planes4_are : (modes : List ℕ) (luma dc ac : List ℤ) (pattern : ℕ) (y cb cr : List ℕ) (mb : MbRecord) → y ≡ luma4_built wide site modes luma planes.luma → Components wide site mode source planes dc ac cb cr
      → mb ≡ intra_record kinds.Intra4 false modes mode site.qp pattern (replicate 16 (pos 0)) luma dc ac → three y cb cr ≡ intra_built wide site mb planes
  unfolding intra_built luma_built intra_record
  planes4_are modes luma dc ac pattern y cb cr mb l both e =
      ap (λ (a : List ℕ). three a cb cr) l
      ∙ ap₂ (λ (b r : List ℕ). three (luma4_built wide site modes luma planes.luma) b r) both.cb_is both.cr_is
      ∙ ap (λ (m : MbRecord). intra_built wide site m planes) (sym e)

  pub intra8_is : (modes : List ℕ) (luma dc ac : List ℤ) (pattern : ℕ) (cb cr : List ℕ) (mb : MbRecord) → luma ≡ luma8_levels wide site modes source.luma planes.luma → pattern ≡ luma_pattern luma → Components wide site mode source planes dc ac cb cr
      → mb ≡ intra_record kinds.Intra8 true modes mode site.qp pattern (replicate 16 (pos 0)) luma dc ac → mb ≡ intra8_record wide site modes mode source planes
  unfolding intra8_record
  intra8_is modes luma dc ac pattern cb cr mb l p both e =
      e ∙ ap (λ (n : ℕ). intra_record kinds.Intra8 true modes mode site.qp n (replicate 16 (pos 0)) luma dc ac) p
      ∙ ap₂ (λ (d a : List ℤ). intra_record kinds.Intra8 true modes mode site.qp (luma_pattern luma) (replicate 16 (pos 0)) luma d a) both.dc_is both.ac_is
      ∙ ap (λ (luma : List ℤ). intra_record kinds.Intra8 true modes mode site.qp (luma_pattern luma) (replicate 16 (pos 0)) luma (both_dc wide site mode source planes) (both_ac wide site mode source planes)) l

  pub planes8_are : (modes : List ℕ) (luma dc ac : List ℤ) (pattern : ℕ) (y cb cr : List ℕ) (mb : MbRecord) → y ≡ luma8_built wide site modes luma planes.luma → Components wide site mode source planes dc ac cb cr
      → mb ≡ intra_record kinds.Intra8 true modes mode site.qp pattern (replicate 16 (pos 0)) luma dc ac → three y cb cr ≡ intra_built wide site mb planes
  unfolding intra_built luma_built intra_record
  planes8_are modes luma dc ac pattern y cb cr mb l both e =
      ap (λ (a : List ℕ). three a cb cr) l
      ∙ ap₂ (λ (b r : List ℕ). three (luma8_built wide site modes luma planes.luma) b r) both.cb_is both.cr_is
      ∙ ap (λ (m : MbRecord). intra_built wide site m planes) (sym e)

  pub intra16_is : (mode16 : ℕ) (luma_dc : List ℤ) (luma dc ac : List ℤ) (pattern : ℕ) (cb cr : List ℕ) (mb : MbRecord) → luma ≡ luma16_levels wide site mode16 source.luma planes.luma → luma_dc ≡ luma16_dc wide site mode16 source.luma planes.luma → pattern ≡ bit_if (some_level luma) 15 → Components wide site mode source planes dc ac cb cr
      → mb ≡ intra_record kinds.Intra16 false (mode16 ∷ replicate 15 0) mode site.qp pattern luma_dc luma dc ac → mb ≡ intra16_record wide site mode16 mode source planes
  unfolding intra16_record
  intra16_is mode16 luma_dc luma dc ac pattern cb cr mb l g p both e =
      e ∙ ap (λ (n : ℕ). intra_record kinds.Intra16 false (mode16 ∷ replicate 15 0) mode site.qp n luma_dc luma dc ac) p
      ∙ ap (λ (l : List ℤ). intra_record kinds.Intra16 false (mode16 ∷ replicate 15 0) mode site.qp (bit_if (some_level luma) 15) l luma dc ac) g ∙ ap₂ (λ (d a : List ℤ). intra_record kinds.Intra16 false (mode16 ∷ replicate 15 0) mode site.qp (bit_if (some_level luma) 15) (luma16_dc wide site mode16 source.luma planes.luma) luma d a) both.dc_is both.ac_is
      ∙ ap (λ (luma : List ℤ). intra_record kinds.Intra16 false (mode16 ∷ replicate 15 0) mode site.qp (bit_if (some_level luma) 15) (luma16_dc wide site mode16 source.luma planes.luma) luma (both_dc wide site mode source planes) (both_ac wide site mode source planes)) l

  pub planes16_are : (mode16 : ℕ) (luma_dc : List ℤ) (luma dc ac : List ℤ) (pattern : ℕ) (y cb cr : List ℕ) (mb : MbRecord) → y ≡ luma16_built wide site mode16 luma_dc luma planes.luma → Components wide site mode source planes dc ac cb cr
      → mb ≡ intra_record kinds.Intra16 false (mode16 ∷ replicate 15 0) mode site.qp pattern luma_dc luma dc ac → three y cb cr ≡ intra_built wide site mb planes
  unfolding intra_built luma_built intra_record
  planes16_are mode16 luma_dc luma dc ac pattern y cb cr mb l both e =
      ap (λ (a : List ℕ). three a cb cr) l
      ∙ ap₂ (λ (b r : List ℕ). three (luma16_built wide site mode16 luma_dc luma planes.luma) b r) both.cb_is both.cr_is
      ∙ ap (λ (m : MbRecord). intra_built wide site m planes) (sym e)
