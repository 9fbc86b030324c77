-- The records that the encoder makes of a slice of intra macroblocks. `width` is how many macroblocks a picture is wide, and `first` the
-- address of the slice's first macroblock.
use Rattle.std.specs.Prelude.{ℕ, zero, suc, Bool, true, false, List, [], ◌∷◌, ◌++◌, ◌+◌, ◌*◌, replicate, if◌then◌else◌}
use Rattle.enc_tables.specs.declared.records.MbKind.{MbKind}
use Rattle.enc_tables.specs.declared.records.MbPlan.{MbPlan}
use Rattle.enc_tables.specs.declared.records.MbRecord.{MbRecord}
use Rattle.enc_tables.specs.Kinds.{is_16x16}
use Rattle.spec_film.specs.Films.{Planes}
use Rattle.spec_reconstruction.specs.declared.Site.{Site}
use Rattle.spec_reconstruction.specs.Inter.{Sources}
use Rattle.spec_reconstruction.specs.Records.{site_of, slice_built, intra4_record, intra8_record, intra16_record}

abbrev pub is_8x8 : MbKind → Bool
is_8x8 MbKind.Intra8 = true
is_8x8 _ = false

-- the record of a macroblock of this kind, coded by its plan from the source, over what was built before
unfoldable pub coded_record : ℕ → Site → MbKind → MbPlan → Planes → Planes → MbRecord
coded_record width site kind plan source p =
    if is_16x16 kind then intra16_record (16 * width) site plan.mode16 plan.chroma_mode source p
    else if is_8x8 kind then intra8_record (16 * width) site (plan.modes8 ++ replicate 12 0) plan.chroma_mode source p
    else intra4_record (16 * width) site plan.modes4 plan.chroma_mode source p

-- the first n records of a slice of an I picture, with the kind and the plan of each macroblock by its address
unfoldable pub coded_slice : ℕ → Sources → ℕ → ℕ → (ℕ → MbKind) → (ℕ → MbPlan) → Planes → Planes → ℕ → List MbRecord
coded_slice width s first qp kinds plans source p zero = []
coded_slice width s first qp kinds plans source p (suc n) =
    let before = coded_slice width s first qp kinds plans source p n in
    before ++ coded_record width (site_of width first (first + n) qp) (kinds (first + n)) (plans (first + n)) source (slice_built width s first before p) ∷ []
