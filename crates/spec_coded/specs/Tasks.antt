-- The record that the encoder makes of a macroblock, behind those before it in its slice: of the kind of least cost by its plan, or skipped, or
-- direct.
use Rattle.std.specs.Prelude.{ℕ, zero, suc, ◌+◌, ◌*◌, nat_le, if◌then◌else◌, List, [], ◌∷◌, ◌++◌, length, Option}
use Rattle.enc_tables.specs.declared.records.MbKind.{MbKind}
use Rattle.enc_tables.specs.declared.records.MbPlan.{MbPlan}
use Rattle.enc_tables.specs.declared.records.MbRecord.{MbRecord}
use Rattle.enc_tables.specs.declared.records.Motion.{Motion}
use Rattle.enc_tables.specs.declared.records.SliceKind.{SliceKind}
use Rattle.enc_tables.specs.Choice.{choice}
use Rattle.enc_tables.specs.Kinds.{is_intra}
use Rattle.spec_film.specs.Films.{Planes}
use Rattle.spec_basics.specs.Sums.{sad}
use Rattle.spec_partitions.specs.Near.{View, SliceFacts, view_in, has_residual}
use Rattle.spec_partitions.specs.Derived.{skip_motion, direct_motion}
use Rattle.spec_reconstruction.specs.declared.Site.{Site}
use Rattle.spec_reconstruction.specs.Parts.{block_at}
use Rattle.spec_reconstruction.specs.Inter.{Sources, luma_predicted}
use Rattle.spec_reconstruction.specs.Records.{site_of, slice_built}
use Rattle.spec_reconstruction.specs.Slices.{coded_record}
use Rattle.spec_coded.specs.Planned.{moving, planned}
use Rattle.spec_coded.specs.Levels.{levelled, predicted_planes, is_blank}

-- What a slice is coded from: what it says to its macroblocks; the co-located motion, the plan and the target QP of a macroblock by its
-- address; the pictures of its lists; and the source
pub record Task : Type 0 where
  pub facts : SliceFacts
  pub colocated : ℕ → List (Option Motion)
  pub sources : Sources
  pub source : Planes
  pub plan : ℕ → MbPlan
  pub target : ℕ → ℕ

abbrev pub wide : Task → ℕ
wide t = 16 * t.facts.width

-- a macroblock whose motion is known, with the levels of the source over what the motion predicts
unfoldable pub by_motion : Task → Site → MbRecord → MbRecord
by_motion t site mb = levelled (wide t) site t.facts.t8x8 t.source (predicted_planes (wide t) t.sources site mb) mb

-- of the kind of least cost
unfoldable pub by_choice : Task → Site → View → MbPlan → MbKind → Planes → MbRecord
by_choice t site view plan kind p =
    if is_intra kind then coded_record t.facts.width site kind plan t.source p else by_motion t site (planned view plan kind site.qp)

-- the sum of absolute differences of the source's luma and what a macroblock's motion predicts of it
abbrev pub difference_from : Task → Site → MbRecord → ℕ
difference_from t site mb = sad (block_at (wide t) site.x site.y 16 t.source.luma) (luma_predicted (wide t) t.sources site mb)

-- P_Skip, where the motion of skipping leaves no level
unfoldable pub in_p : Task → Site → View → MbRecord → MbRecord
in_p t site view chosen =
    let skipped = by_motion t site (moving MbKind.PSkip site.qp (skip_motion view)) in if is_blank skipped then skipped else chosen

-- B_Skip, where direct motion leaves no level; B_Direct_16x16, where its prediction is no worse than the least cost
unfoldable pub in_b : Task → Site → View → ℕ → MbRecord → MbRecord
in_b t site view cost chosen =
    let direct = by_motion t site (moving MbKind.BDirect site.qp (direct_motion view)) in
    if is_blank direct then record direct { kind = MbKind.BSkip }
    else if nat_le (difference_from t site direct) cost then direct
    else chosen

abbrev pub in_slice : SliceKind → Task → Site → View → ℕ → MbRecord → MbRecord
in_slice SliceKind.I t site view cost chosen = chosen
in_slice SliceKind.P t site view cost chosen = in_p t site view chosen
in_slice SliceKind.B t site view cost chosen = in_b t site view cost chosen

-- a record without mb_qp_delta has the QP before it
abbrev pub reached : ℕ → MbRecord → MbRecord
reached before mb = if has_residual mb then mb else record mb { qp = before }

-- the record of a macroblock at a site, by its plan and what is around it, over what was built before
unfoldable pub record_at : Task → Site → View → MbPlan → Planes → MbRecord
record_at t site view plan p =
    let least = choice t.facts.kind plan site.qp t.facts.t8x8 in
    reached view.near.qp (in_slice t.facts.kind t site view least.1 (by_choice t site view plan least.0 p))

-- the address of the macroblock behind these
abbrev pub address_after : Task → List MbRecord → ℕ
address_after t before = t.facts.first + length before

-- the record of the macroblock behind these, over what they built
unfoldable pub record_after : Task → List MbRecord → Planes → MbRecord
record_after t before p =
    let address = address_after t before in
    record_at t (site_of t.facts.width t.facts.first address (t.target address)) (view_in t.facts t.colocated before) (t.plan address) p

-- ---- slices

-- The first n items of a slice: `next before built` is the item behind those before, and `built before` is what they built. A rule that
-- replaces a record by another is a `next` too, and an item may be more than a record
unfoldable pub records_in_order : {A : Type 0} → (List A → Planes → A) → (List A → Planes) → ℕ → List A
records_in_order next built zero = []
records_in_order next built (suc n) =
    let before = records_in_order next built n in before ++ next before (built before) ∷ []

-- what these records of a slice build over planes
abbrev pub built_by : Task → Planes → List MbRecord → Planes
built_by t p before = slice_built t.facts.width t.sources t.facts.first before p

-- the records of a slice of n macroblocks, where these planes were built before
unfoldable pub task_records : Task → Planes → ℕ → List MbRecord
task_records t p n = records_in_order (record_after t) (built_by t p) n
