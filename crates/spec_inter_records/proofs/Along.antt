-- Along a slice: each record is one that the syntax can give behind those before it, and all vectors stay small.
use Rattle.std.proofs.Common.{◌≡◌, ◌+◌, ◌<◌, ◌≤◌, ◌++◌, ℕ, zero, suc, List, [], ◌∷◌, length, get_or, refl, sym, subst, ◌∙◌, arith}
use Rattle.enc_tables.specs.declared.records.MbRecord.{MbRecord}
use Rattle.spec_headers.specs.declared.heads.SliceHead.{SliceHead}
use Rattle.spec_film.specs.Films.{Planes}
use Rattle.spec_intra.specs.declared.Avail.{Avail}
use Rattle.spec_intra.specs.Near.{macroblock_avail}
use Rattle.spec_partitions.specs.Near.{SliceFacts, near_in, last_qp}
use Rattle.enc_tables.specs.Records.{no_record}
use Rattle.spec_partitions.specs.Small.{AllSmall, ViewSmall}
use Rattle.spec_macroblock.proofs.Following.{qp_follows}
use Rattle.spec_slice_payload.specs.Layer.{Format, Colocated, facts_of, near_of, view_of}
use Rattle.spec_slice_payload.specs.Slices.{IsNext, AreRecords, NeighboursHaveModes}
use Rattle.spec_slice_payload.proofs.Growing.{one_more, neighbours}
use Rattle.spec_slice_payload.proofs.Carried.{Each, around_has, one_more as each_more}
use Rattle.spec_slice_payload.proofs.InRange.{IsSmall, WritesSmall, view_small, all_small}
use Rattle.spec_reconstruction.specs.declared.Site.{Site}
use Rattle.spec_reconstruction.specs.Records.{site_of}
use Rattle.spec_coded.specs.Tasks.{Task, record_after, built_by, records_in_order, task_records}
use Rattle.spec_coded.specs.Coarsest.{coarsest_after, coarsest_records}
use Rattle.spec_record_laws.specs.Coded.{PlanesFit, Stands}
use Rattle.spec_record_laws.proofs.Built.{slice_bytes}
use Rattle.spec_inter_records.specs.Fits.{TaskFits}
use Rattle.spec_inter_records.proofs.Carried.{Follows}
use Rattle.spec_inter_records.proofs.Picked.{next_follows}
use Rattle.spec_inter_records.proofs.Coarsest.{greatest, coarsest_follows}

-- ---- whatever makes the records, where each follows

-- the next macroblock's neighbours
abbrev avail_after : Format → SliceHead → List MbRecord → Avail
avail_after f h before = macroblock_avail f.across h.first_mb (h.first_mb + length before)

-- a rule that makes the record behind others over what they built
pub record Makes (f : Format) (c : Colocated) (h : SliceHead) (next : List MbRecord → Planes → MbRecord) : Type 0 where
  pub step : (before : List MbRecord) (p : Planes) → PlanesFit p → ViewSmall 131 (view_of f c h before) → ((site : Site) → site.qp ≡ h.qp → Stands (near_of f h before) site) → Follows (avail_after f h before) (view_of f c h before) h.qp (next before p)

-- what is carried: the records of the slice so far
pub record Made (f : Format) (c : Colocated) (h : SliceHead) (records : List MbRecord) : Type 0 where
  pub are : AreRecords f c h [] records
  pub last : last_qp h.qp records ≡ h.qp
  pub small : Each (WritesSmall 131) records

none_made : (f : Format) (c : Colocated) (h : SliceHead) → Made f c h []
unfolding last_qp
none_made f c h = record { are = tt; last = refl; small = record { at = λ i lt. absurd (omega arith) } }

view_here : (f : Format) (c : Colocated) (h : SliceHead) (before : List MbRecord) → 0 < f.across → Made f c h before → ViewSmall 131 (view_of f c h before)
view_here f c h before some m =
    let all : Each (IsSmall 131) before = record { at = all_small 131 f c h before some m.are m.small.at } in
    view_small 131 f c h before (around_has (IsSmall 131) f c h before some all)

stands_here : (f : Format) (c : Colocated) (h : SliceHead) (before : List MbRecord) → h.qp ≤ 51 → Made f c h before → (site : Site) → site.qp ≡ h.qp → Stands (near_of f h before) site
unfolding near_in
stands_here f c h before few m site same =
    let modes : NeighboursHaveModes (near_of f h before) = neighbours f c h before m.are in
    record { left_modes = modes.left; above_modes = modes.above; same_qp = m.last ∙ sym same; qp_fits = omega arith }

more_made : (f : Format) (c : Colocated) (h : SliceHead) (next : List MbRecord → Planes → MbRecord) (before : List MbRecord) (p : Planes) → 0 < f.across → h.qp ≤ 51 → Makes f c h next → PlanesFit p → Made f c h before → Made f c h (before ++ next before p ∷ [])
more_made f c h next before p some few makes fits m =
    let mb : MbRecord = next before p in
    let n = makes.step before p fits (view_here f c h before some m) (stands_here f c h before few m) in
    let is : IsNext f c h before mb = record { written = n.belongs.written; motion = n.belongs.motion; allowed = n.allowed } in
    record {
      are = one_more f c h before mb m.are is;
      last = qp_follows h.qp before mb ∙ n.same;
      small = each_more (WritesSmall 131) before mb m.small n.small;
    }

pub all_made : (f : Format) (c : Colocated) (h : SliceHead) (next : List MbRecord → Planes → MbRecord) (built : List MbRecord → Planes) (n : ℕ) → 0 < f.across → h.qp ≤ 51 → Makes f c h next
    → ((before : List MbRecord) → PlanesFit (built before)) → Made f c h (records_in_order next built n)
unfolding records_in_order
all_made f c h next built zero some few makes fits = none_made f c h
all_made f c h next built (suc n) some few makes fits =
    let before : List MbRecord = records_in_order next built n in
    more_made f c h next before (built before) some few makes (fits before) (all_made f c h next built n some few makes fits)

-- ---- by the choice

-- a task with the facts of a header
abbrev told : Format → SliceHead → Task → Task
told f h t = record t { facts = facts_of f h }

task_makes : (f : Format) (h : SliceHead) (t : Task) → TaskFits (told f h t) → Makes f t.colocated h (record_after (told f h t))
task_makes f h t fits = record {
  step = λ before p g v s.
      let address : ℕ = h.first_mb + length before in
      let site : Site = site_of f.across h.first_mb address (t.target address) in
      subst (λ (qp : ℕ). Follows (avail_after f h before) (view_of f t.colocated h before) qp (record_after (told f h t) before p)) (fits.target address)
      (next_follows (told f h t) before p fits g v (s site (fits.target address)));
}

told_made : (f : Format) (h : SliceHead) (t : Task) (p : Planes) (n : ℕ) → TaskFits (told f h t) → PlanesFit p → Made f t.colocated h (task_records (told f h t) p n)
unfolding task_records
told_made f h t p n fits g =
    all_made f t.colocated h (record_after (told f h t)) (built_by (told f h t) p) n fits.some fits.qp (task_makes f h t fits) (λ before. slice_bytes f.across t.sources h.first_mb before p g)

-- any task whose facts are those of the header
pub records_made : (f : Format) (h : SliceHead) (t : Task) (p : Planes) (n : ℕ) → t.facts ≡ facts_of f h → TaskFits t → PlanesFit p → Made f t.colocated h (task_records t p n)
records_made f h t p n e fits g =
    subst (λ (facts : SliceFacts). Made f t.colocated h (task_records (record t { facts = facts }) p n)) (sym e)
    (told_made f h t p n (subst (λ (facts : SliceFacts). TaskFits (record t { facts = facts })) e fits) g)

pub records_are : (f : Format) (h : SliceHead) (t : Task) (p : Planes) (n : ℕ) → t.facts ≡ facts_of f h → TaskFits t → PlanesFit p → AreRecords f t.colocated h [] (task_records t p n)
records_are f h t p n e fits g = (records_made f h t p n e fits g).are

pub vectors_are : (f : Format) (h : SliceHead) (t : Task) (p : Planes) (n : ℕ) → t.facts ≡ facts_of f h → TaskFits t → PlanesFit p → (i : ℕ) → i < length (task_records t p n) → AllSmall 131 (get_or (task_records t p n) i no_record).motion
vectors_are f h t p n e fits g =
    let m = records_made f h t p n e fits g in
    let some : 0 < f.across = subst (λ (s : SliceFacts). 0 < s.width) e fits.some in
    all_small 131 f t.colocated h (task_records t p n) some m.are m.small.at

-- ---- the coarsest

coarsest_makes : (f : Format) (h : SliceHead) (t : Task) → h.qp ≡ 51 → Makes f t.colocated h (coarsest_after (told f h t))
unfolding coarsest_after near_in
coarsest_makes f h t e = record {
  step = λ before p g v s.
      subst (λ (qp : ℕ). Follows (avail_after f h before) (view_of f t.colocated h before) qp (coarsest_after (told f h t) before p)) (sym e)
      (coarsest_follows (avail_after f h before) (view_of f t.colocated h before) h.kind refl (s (greatest (avail_after f h before)) (sym e)));
}

told_coarsest : (f : Format) (h : SliceHead) (t : Task) (p : Planes) (n : ℕ) → 0 < f.across → h.qp ≡ 51 → PlanesFit p → Made f t.colocated h (coarsest_records (told f h t) p n)
unfolding coarsest_records
told_coarsest f h t p n some e g =
    all_made f t.colocated h (coarsest_after (told f h t)) (built_by (told f h t) p) n some (omega arith) (coarsest_makes f h t e) (λ before. slice_bytes f.across t.sources h.first_mb before p g)

pub coarsest_made : (f : Format) (h : SliceHead) (t : Task) (p : Planes) (n : ℕ) → t.facts ≡ facts_of f h → 0 < f.across → h.qp ≡ 51 → PlanesFit p → Made f t.colocated h (coarsest_records t p n)
coarsest_made f h t p n e some q g = subst (λ (facts : SliceFacts). Made f t.colocated h (coarsest_records (record t { facts = facts }) p n)) (sym e) (told_coarsest f h t p n some q g)

pub coarsest_are : (f : Format) (h : SliceHead) (t : Task) (p : Planes) (n : ℕ) → t.facts ≡ facts_of f h → 0 < f.across → h.qp ≡ 51 → PlanesFit p → AreRecords f t.colocated h [] (coarsest_records t p n)
coarsest_are f h t p n e some q g = (coarsest_made f h t p n e some q g).are
