-- Intra_16x16 macroblocks without levels.
use Rattle.std.proofs.Common.{◌≡◌, ◌+◌, ◌/◌, ◌∷◌, ℕ, pos, List, replicate, sym, ap, ap₂, ◌∙◌, arith}
use Rattle.enc_tables.specs.declared.records.MbKind.{MbKind}
use Rattle.enc_tables.specs.declared.records.MbRecord.{MbRecord}
use Rattle.enc_tables.specs.Records.{blank_record}
use Rattle.spec_film.specs.Films.{Planes}
use Rattle.spec_reconstruction.specs.declared.Site.{Site}
use Rattle.spec_reconstruction.specs.Luma.{luma16_built}
use Rattle.spec_reconstruction.specs.Chroma.{chroma_built}
use Rattle.spec_reconstruction.specs.Records.{luma_built, intra_built}

abbrev pub flat : ℕ → MbRecord
flat qp = record (blank_record MbKind.Intra16 qp) { modes = 2 ∷ replicate 15 0 }

pub flat_is : (qp : ℕ) (b : MbRecord) (modes : List ℕ) → b ≡ blank_record MbKind.Intra16 qp → modes ≡ 2 ∷ replicate 15 0 → (let mb : MbRecord = record b { modes = modes } in mb) ≡ flat qp
flat_is qp b modes e h = ap₂ (λ (r : MbRecord) (m : List ℕ). let mb : MbRecord = record r { modes = m } in mb) e h

abbrev three : List ℕ → List ℕ → List ℕ → Planes
three l b r = record { luma = l; cb = b; cr = r }

pub flat_built : (wide wide_cb wide_cr : ℕ) (site : Site) (qp : ℕ) (mb : MbRecord) (planes : Planes) (y cb cr : List ℕ) → wide_cb + wide_cb ≡ wide → wide_cr + wide_cr ≡ wide → mb ≡ flat qp
    → y ≡ luma16_built wide site 2 (replicate 16 (pos 0)) (replicate 256 (pos 0)) planes.luma → cb ≡ chroma_built wide_cb site 0 (replicate 4 (pos 0)) (replicate 60 (pos 0)) planes.cb → cr ≡ chroma_built wide_cr site 0 (replicate 4 (pos 0)) (replicate 60 (pos 0)) planes.cr
    → three y cb cr ≡ intra_built wide site mb planes
unfolding blank_record intra_built luma_built
flat_built wide wide_cb wide_cr site qp mb planes y cb cr h k e l b r =
    let w : wide_cb ≡ wide / 2 = omega arith in
    let v : wide_cr ≡ wide / 2 = omega arith in
    ap (λ (a : List ℕ). three a cb cr) l
    ∙ ap₂ (λ (p q : List ℕ). three (luma16_built wide site 2 (replicate 16 (pos 0)) (replicate 256 (pos 0)) planes.luma) p q)
    (b ∙ ap (λ (n : ℕ). chroma_built n site 0 (replicate 4 (pos 0)) (replicate 60 (pos 0)) planes.cb) w) (r ∙ ap (λ (n : ℕ). chroma_built n site 0 (replicate 4 (pos 0)) (replicate 60 (pos 0)) planes.cr) v)
    ∙ ap (λ (m : MbRecord). intra_built wide site m planes) (sym e)
