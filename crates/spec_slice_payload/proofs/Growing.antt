-- Records that are added to a slice.
use Rattle.std.proofs.Common.{ℕ, zero, suc, ◌+◌, ◌-◌, ◌%◌, Bool, true, false, ◌||◌, List, [], ◌∷◌, ◌++◌, length, get_or, replicate, Some, None, subst, sym, arith, append_assoc}
use Rattle.std.proofs.Common.{inl, inr}
use Rattle.std.specs.Prelude.{◌==◌, nat_lt, if◌then◌else◌}
use Rattle.std.proofs.lemmas.Bool.{cases_lt}
use Rattle.std.proofs.lemmas.List.{get_or-replicate, get_or_past, append-nil}
use Rattle.enc_tables.specs.declared.records.MbRecord.{MbRecord}
use Rattle.enc_tables.specs.Records.{blank_record, no_record}
use Rattle.spec_headers.specs.declared.heads.SliceHead.{SliceHead}
use Rattle.spec_partitions.specs.Near.{near_in}
use Rattle.spec_macroblock.specs.Records.{AreModes, NearModes}
use Rattle.spec_slice_payload.specs.Layer.{Format, Colocated, near_of}
use Rattle.spec_slice_payload.specs.Slices.{IsNext, AreRecords, NeighboursHaveModes}

-- one record more
push : (f : Format) (c : Colocated) (h : SliceHead) (before rest : List MbRecord) (mb : MbRecord) → AreRecords f c h before rest → IsNext f c h (before ++ rest) mb → AreRecords f c h before (rest ++ mb ∷ [])
push f c h before [] mb k r = (subst (λ (xs : List MbRecord). IsNext f c h xs mb) (append-nil before) r, tt)
push f c h before (x ∷ rest) mb k r = (k.0, push f c h (before ++ x ∷ []) rest mb k.1 (subst (λ (xs : List MbRecord). IsNext f c h xs mb) (sym (append_assoc before (x ∷ []) rest)) r))

pub one_more : (f : Format) (c : Colocated) (h : SliceHead) (records : List MbRecord) (mb : MbRecord) → AreRecords f c h [] records → IsNext f c h records mb → AreRecords f c h [] (records ++ mb ∷ [])
one_more f c h records mb k r = push f c h [] records mb k r

-- the modes of each record
blank_modes : AreModes (replicate 16 0)
blank_modes i = elim (cases_lt i 16) [
  | inl lt ↦ let e = get_or-replicate {A = ℕ} 16 i 0 0 lt in omega (arith, e)
  | inr le ↦ let e = get_or_past {X = ℕ} (replicate 16 0) i 0 le in omega (arith, e)
]

known : (f : Format) (c : Colocated) (h : SliceHead) (before rest : List MbRecord) → AreRecords f c h before rest → (i : ℕ) → AreModes (get_or rest i no_record).modes
unfolding blank_record
known f c h before [] k i = blank_modes
known f c h before (x ∷ rest) k zero = k.0.written.modes_known
known f c h before (x ∷ rest) k (suc i) = known f c h (before ++ x ∷ []) rest k.1 i

near_known : (b : Bool) (mb : MbRecord) → AreModes mb.modes → NearModes (if b then None else Some mb)
near_known true mb h = tt
near_known false mb h = h

pub neighbours : (f : Format) (c : Colocated) (h : SliceHead) (records : List MbRecord) → AreRecords f c h [] records → NeighboursHaveModes (near_of f h records)
unfolding near_in
neighbours f c h records k = record {
  left = near_known (length records == 0 || (h.first_mb + length records) % f.across == 0) (get_or records (length records - 1) no_record) (known f c h [] records k (length records - 1));
  above = near_known (nat_lt (length records) f.across) (get_or records (length records - f.across) no_record) (known f c h [] records k (length records - f.across));
}
