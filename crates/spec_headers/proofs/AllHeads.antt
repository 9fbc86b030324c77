-- The header of every slice of a stream is read back.
use Rattle.std.proofs.Common.{ℕ, ◌≡◌, ◌-◌, ◌^◌, ◌<◌, ◌≤◌, Bool, true, false, Option, Some, None, sym, subst, arith}
use Rattle.std.specs.Prelude.{IfSome}
use Rattle.enc_tables.specs.declared.records.SliceKind.{SliceKind}
use Rattle.enc_tables.specs.declared.records.SliceKind.TheVariants.{I, P, B}
use Rattle.spec_headers.specs.declared.heads.SliceHead.{SliceHead}
use Rattle.spec_bits.specs.Fields.{fields_bits}
use Rattle.spec_headers.specs.HeadFields.{slice_fields}
use Rattle.spec_headers.specs.Allowed.{FitsKind, IsStreamHead}
use Rattle.spec_reading.specs.Reader.{Reads}
use Rattle.spec_headers.specs.HeadReaders.{slice_head}
use Rattle.spec_headers.specs.Heads.{idr_head, other_head, MovedFits}
use Rattle.spec_headers.proofs.HeadLaws.{reads_idr_slice}
use Rattle.spec_headers.proofs.OtherHeads.{reads_p, reads_b}

moved_fits : (moved : Option ℕ) → IfSome moved (λ difference. difference < 2 ^ 16) → MovedFits moved
moved_fits None h = tt
moved_fits (Some n) h = omega (arith, h)

-- a header that is the one of the syntax is read as it
read_as : (h g : SliceHead) → h ≡ g → Reads (slice_head g.idr g.cabac) (fields_bits (slice_fields g)) g → Reads (slice_head h.idr h.cabac) (fields_bits (slice_fields h)) h
read_as h g e r = subst (λ (x : SliceHead). Reads (slice_head x.idr x.cabac) (fields_bits (slice_fields x)) x) (sym e) r

abbrev Read : SliceHead → Type 0
Read h = Reads (slice_head h.idr h.cabac) (fields_bits (slice_fields h)) h

make : ℕ → SliceKind → Bool → ℕ → ℕ → ℕ → ℕ → ℕ → Option ℕ → ℕ → Bool → SliceHead
make first_mb kind idr frame_num idr_id poc refs0 refs1 moved qp cabac =
    record { first_mb = first_mb; kind = kind; idr = idr; frame_num = frame_num; idr_id = idr_id; poc = poc; refs0 = refs0; refs1 = refs1; moved = moved; qp = qp; cabac = cabac }

by_kind : (kind : SliceKind) (first_mb : ℕ) (idr : Bool) (frame_num idr_id poc refs0 refs1 : ℕ) (moved : Option ℕ) (qp : ℕ) (cabac : Bool)
    → first_mb < 2 ^ 32 - 1 → frame_num < 2 ^ 16 → poc < 2 ^ 16 → IfSome moved (λ difference. difference < 2 ^ 16) → FitsKind kind (make first_mb kind idr frame_num idr_id poc refs0 refs1 moved qp cabac) → qp ≤ 51
    → Read (make first_mb kind idr frame_num idr_id poc refs0 refs1 moved qp cabac)
unfolding make idr_head other_head
by_kind I first_mb idr frame_num idr_id poc refs0 refs1 moved qp cabac a b c m f q =
    subst (λ i. Read (make first_mb I i frame_num idr_id poc refs0 refs1 moved qp cabac)) (sym f.0)
    (subst (λ n. Read (make first_mb I true frame_num idr_id poc n refs1 moved qp cabac)) (sym f.2)
    (subst (λ n. Read (make first_mb I true frame_num idr_id poc 0 n moved qp cabac)) (sym f.3)
    (subst (λ o. Read (make first_mb I true frame_num idr_id poc 0 0 o qp cabac)) (sym f.4)
    (reads_idr_slice first_mb frame_num idr_id poc qp cabac a b f.1 c q))))
by_kind P first_mb idr frame_num idr_id poc refs0 refs1 moved qp cabac a b c m f q =
    subst (λ i. Read (make first_mb P i frame_num idr_id poc refs0 refs1 moved qp cabac)) (sym f.0)
    (subst (λ n. Read (make first_mb P false frame_num n poc refs0 refs1 moved qp cabac)) (sym f.1)
    (subst (λ n. Read (make first_mb P false frame_num 0 poc refs0 n moved qp cabac)) (sym f.4)
    (reads_p first_mb frame_num poc refs0 moved qp cabac (record { first_mb_fits = a; frame_num_fits = b; poc_fits = c; some = f.2; few = f.3; moved_fits = moved_fits moved m; qp_fits = q }))))
by_kind B first_mb idr frame_num idr_id poc refs0 refs1 moved qp cabac a b c m f q =
    subst (λ i. Read (make first_mb B i frame_num idr_id poc refs0 refs1 moved qp cabac)) (sym f.0)
    (subst (λ n. Read (make first_mb B false frame_num n poc refs0 refs1 moved qp cabac)) (sym f.1)
    (reads_b first_mb frame_num poc refs0 refs1 moved qp cabac (record { first_mb_fits = a; frame_num_fits = b; poc_fits = c; some = f.2; few = f.3; moved_fits = moved_fits moved m; qp_fits = q }) f.4 f.5))

pub reads_slice_head : (h : SliceHead) → IsStreamHead h → Reads (slice_head h.idr h.cabac) (fields_bits (slice_fields h)) h
unfolding make
reads_slice_head h k = by_kind h.kind h.first_mb h.idr h.frame_num h.idr_id h.poc h.refs0 h.refs1 h.moved h.qp h.cabac k.first_mb k.frame_num k.poc k.moved k.kind k.qp
