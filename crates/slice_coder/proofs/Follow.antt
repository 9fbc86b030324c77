-- What is around a macroblock, as the code finds it.
use Rattle.std.proofs.Common.{◌≡◌, ◌+◌, ◌-◌, ◌%◌, ◌==◌, ◌||◌, nat_lt, false, List, length, get_or, Option, Some, None, if◌then◌else◌, refl}
use Rattle.enc_tables.specs.declared.records.MbRecord.{MbRecord}
use Rattle.spec_headers.specs.declared.heads.SliceHead.{SliceHead}
use Rattle.spec_partitions.specs.Near.{Near, near_in}
use Rattle.enc_tables.specs.Records.{no_record}
use Rattle.slice_coder.specs.declared.place.Place.{Place}
use Rattle.slice_coder.specs.Strings.{near_at, Follows}

pub near_is : (place : Place) (h : SliceHead) (before : List MbRecord) (mb : MbRecord) (left above : Option MbRecord)
    → left ≡ (if length before == 0 || (h.first_mb + length before) % place.across == 0 then None else Some (get_or before (length before - 1) no_record))
    → above ≡ (if nat_lt (length before) place.across then None else Some (get_or before (length before - place.across) no_record))
    → Follows h before mb
    → (let near : Near = record { kind = h.kind; left = left; above = above; last_delta = false; qp = mb.qp; t8x8 = place.t8x8; refs0 = h.refs0; refs1 = h.refs1 } in near ≡ near_at place h before)
unfolding near_in
near_is place h before mb left above l a f = rw (l, a, ← f.qp, f.no_delta) refl
