-- The records of a coded slice are records of the syntax.
use Rattle.std.proofs.Common.{◌≡◌, ◌≤◌, ◌<◌, ◌+◌, ℕ, zero, suc, List, [], ◌∷◌, length, get_or, refl, sym, ap, subst, ◌∙◌, arith, length-append, ◌⊎◌, inl, inr}
use Rattle.std.specs.List.{All}
use Rattle.std.proofs.lemmas.Bool.{cases_lt}
use Rattle.std.proofs.lemmas.List.{get_or_past}
use Rattle.std.proofs.lemmas.List.Elements.{All-get_or}
use Rattle.enc_tables.specs.declared.records.MbKind.{MbKind}
use Rattle.enc_tables.specs.declared.records.MbPlan.{MbPlan}
use Rattle.enc_tables.specs.declared.records.MbRecord.{MbRecord}
use Rattle.spec_bits.specs.Bits.{IsByte}
use Rattle.spec_headers.specs.declared.heads.SliceHead.{SliceHead}
use Rattle.spec_film.specs.declared.FilmHead.{FilmHead}
use Rattle.spec_film.specs.Films.{Planes}
use Rattle.spec_stream.specs.Pictures.{IsPicture}
use Rattle.spec_partitions.specs.Near.{last_qp, near_in}
use Rattle.spec_macroblock.proofs.Following.{qp_follows}
use Rattle.spec_slice_payload.specs.Layer.{Format, Colocated, Slice, near_of, view_of}
use Rattle.spec_slice_payload.specs.Slices.{IsNext, AreRecords, NeighboursHaveModes}
use Rattle.spec_slice_payload.proofs.Growing.{one_more, neighbours}
use Rattle.spec_reconstruction.specs.declared.Site.{Site}
use Rattle.spec_reconstruction.specs.Records.{site_of, slice_built}
use Rattle.spec_reconstruction.specs.Slices.{coded_record, coded_slice}
use Rattle.spec_intra.specs.Near.{macroblock_avail}
use Rattle.spec_record_laws.proofs.AllowedModes.{coded_allowed}
use Rattle.spec_record_laws.specs.Coded.{AreBytes, PlanesFit, ModesFit, ModesAllowed, IsCodedKind, Stands}
use Rattle.spec_record_laws.proofs.Bytes.{zeros_bytes}
use Rattle.spec_record_laws.proofs.Built.{slice_bytes}
use Rattle.spec_record_laws.proofs.Whole.{records_are_coded, record_qp, coded_moves}
use Rattle.spec_decoder.specs.Frames.{blank_planes, sources_by, slices_made}
use Rattle.spec_decoder.proofs.OfRecords.{built_first}
use Rattle.spec_encoding.specs.Frames.{slices_built}
use Rattle.spec_lists.specs.References.{Reference}
use Rattle.spec_reconstruction.specs.Inter.{Sources}

-- ---- samples

bytes_at : (xs : List ℕ) → All IsByte xs → (k : ℕ) → (k < length xs) ⊎ (length xs ≤ k) → get_or xs k 0 ≤ 255
bytes_at xs h k (inl l) = let e : get_or xs k 0 < 256 = All-get_or IsByte xs k 0 l h in omega arith
bytes_at xs h k (inr g) = let e : get_or xs k 0 ≡ 0 = get_or_past xs k 0 g in omega arith

are_bytes : (xs : List ℕ) → All IsByte xs → AreBytes xs
are_bytes xs h = record { at = λ k. bytes_at xs h k (cases_lt k (length xs)) }

pub picture_fits : (h : FilmHead) (p : Planes) → IsPicture h p → PlanesFit p
picture_fits h p is = record { luma = are_bytes p.luma is.luma_bytes; cb = are_bytes p.cb is.cb_bytes; cr = are_bytes p.cr is.cr_bytes }

pub blank_fits : (across down : ℕ) → PlanesFit (blank_planes across down)
unfolding blank_planes
blank_fits across down = record { luma = zeros_bytes _; cb = zeros_bytes _; cr = zeros_bytes _ }

pub built_fits : (across : ℕ) (held : List Reference) (slices : List Slice) (p : Planes) → PlanesFit p → PlanesFit (slices_built across held slices p)
unfolding slices_made
built_fits across held [] p h = h
built_fits across held (s ∷ ss) p h =
    subst (λ (q : Planes). PlanesFit q) (sym (built_first across held s ss p))
    (built_fits across held ss (slice_built across (sources_by s.head held) s.head.first_mb s.records p) (slice_bytes across (sources_by s.head held) s.head.first_mb s.records p h))

-- ---- records

pub length-coded : (width : ℕ) (s : Sources) (first qp : ℕ) (kinds : ℕ → MbKind) (plans : ℕ → MbPlan) (source p : Planes) (n : ℕ) → length (coded_slice width s first qp kinds plans source p n) ≡ n
unfolding coded_slice
length-coded width s first qp kinds plans source p zero = refl
length-coded width s first qp kinds plans source p (suc n) =
    let e = length-coded width s first qp kinds plans source p n in
    length-append (coded_slice width s first qp kinds plans source p n) _ ∙ ap (λ (m : ℕ). m + 1) e ∙ omega arith

-- what is settled before a slice is coded
pub record Settles (f : Format) (h : SliceHead) (kinds : ℕ → MbKind) (plans : ℕ → MbPlan) (source p : Planes) : Type 0 where
  pub qp : h.qp ≤ 51
  pub kinds_fit : (a : ℕ) → IsCodedKind f.t8x8 (kinds a)
  pub plans_fit : (a : ℕ) → ModesFit (plans a)
  pub plans_allowed : (a : ℕ) → ModesAllowed f.t8x8 (macroblock_avail f.across h.first_mb a) (plans a)
  pub source_fits : PlanesFit source
  pub built : PlanesFit p

stands : (f : Format) (c : Colocated) (h : SliceHead) (before : List MbRecord) (site : Site) → h.qp ≤ 51 → last_qp h.qp before ≡ h.qp → site.qp ≡ h.qp → AreRecords f c h [] before → Stands (near_of f h before) site
unfolding near_in
stands f c h before site small last same are =
    let modes : NeighboursHaveModes (near_of f h before) = neighbours f c h before are in
    record { left_modes = modes.left; above_modes = modes.above; same_qp = last ∙ sym same; qp_fits = omega arith }

one_coded : (f : Format) (c : Colocated) (h : SliceHead) (before : List MbRecord) (site : Site) (kind : MbKind) (plan : MbPlan) (source p : Planes) → Stands (near_of f h before) site → IsCodedKind f.t8x8 kind → ModesFit plan
    → ModesAllowed f.t8x8 (macroblock_avail f.across h.first_mb (h.first_mb + length before)) plan → PlanesFit source → PlanesFit p → IsNext f c h before (coded_record f.across site kind plan source p)
unfolding near_in
one_coded f c h before site kind plan source p s k m a g b = record {
  written = records_are_coded (near_of f h before) f.across site kind plan source p s k m g b;
  motion = coded_moves (view_of f c h before) f.across site kind plan source p;
  allowed = coded_allowed f.t8x8 (macroblock_avail f.across h.first_mb (h.first_mb + length before)) f.across site kind plan source p k m a;
}

pub are_coded : (f : Format) (c : Colocated) (h : SliceHead) (o : Sources) (kinds : ℕ → MbKind) (plans : ℕ → MbPlan) (source p : Planes) (n : ℕ) → Settles f h kinds plans source p
    → AreRecords f c h [] (coded_slice f.across o h.first_mb h.qp kinds plans source p n) × (last_qp h.qp (coded_slice f.across o h.first_mb h.qp kinds plans source p n) ≡ h.qp)
unfolding coded_slice last_qp
are_coded f c h o kinds plans source p zero s = (tt, refl)
are_coded f c h o kinds plans source p (suc n) s =
    let before : List MbRecord = coded_slice f.across o h.first_mb h.qp kinds plans source p n in
    let a : ℕ = h.first_mb + n in
    let site : Site = site_of f.across h.first_mb a h.qp in
    let now : Planes = slice_built f.across o h.first_mb before p in
    let mb : MbRecord = coded_record f.across site (kinds a) (plans a) source now in
    let done : AreRecords f c h [] before × (last_qp h.qp before ≡ h.qp) = are_coded f c h o kinds plans source p n s in
    let fits : PlanesFit now = slice_bytes f.across o h.first_mb before p s.built in
    let allowed : ModesAllowed f.t8x8 (macroblock_avail f.across h.first_mb (h.first_mb + length before)) (plans a) =
    subst (λ (k : ℕ). ModesAllowed f.t8x8 (macroblock_avail f.across h.first_mb (h.first_mb + k)) (plans a)) (sym (length-coded f.across o h.first_mb h.qp kinds plans source p n)) (s.plans_allowed a) in (
      one_more f c h before mb done.0 (one_coded f c h before site (kinds a) (plans a) source now (stands f c h before site s.qp done.1 refl done.0) (s.kinds_fit a) (s.plans_fit a) allowed s.source_fits fits),
      qp_follows h.qp before mb ∙ record_qp f.across site (kinds a) (plans a) source now,
    )
