-- What headers of slices say.
use Rattle.std.proofs.Common.{◌≡◌, ℕ, ◌<◌, ◌≤◌, Bool, true, false, sym, ap, subst, arith}
use Rattle.enc_tables.specs.declared.records.SliceKind.{SliceKind}
use Rattle.enc_tables.specs.declared.records.SliceKind.TheVariants.{I, P, B}
use Rattle.spec_headers.specs.Allowed.{IsSliceHead, HasLists}
use Rattle.spec_headers.specs.declared.heads.SliceHead.{SliceHead}
use Rattle.spec_headers.specs.Heads.{idr_head, other_head}
use Rattle.spec_partitions.specs.InRange.{HasEntries}
use Rattle.spec_slice_payload.specs.Slices.{IsHead, IsIdrHead, IsOtherHead, KindFits}

-- what a slice's coding wants of its header
pub record Says (h : SliceHead) : Type 0 where
  pub qp : h.qp ≤ 51
  pub few0 : h.refs0 ≤ 4
  pub few1 : h.refs1 ≤ 4
  pub entries : HasEntries h.kind h.refs0 h.refs1
  pub allowed : IsSliceHead h

idr_says : (h : SliceHead) → IsIdrHead h → Says h
unfolding idr_head HasEntries
idr_says h is =
    let none0 : h.refs0 ≡ 0 = ap (λ (x : SliceHead). x.refs0) is.same in
    let none1 : h.refs1 ≡ 0 = ap (λ (x : SliceHead). x.refs1) is.same in
    record {
      qp = is.qp_fits;
      few0 = omega (arith, none0);
      few1 = omega (arith, none1);
      entries = subst (λ (x : SliceHead). HasEntries x.kind x.refs0 x.refs1) (sym is.same) tt;
      allowed = record {
        first_mb = is.first_mb_fits;
        idr_id = is.idr_id_fits;
        intra = λ e. ap (λ (x : SliceHead). x.kind) is.same;
        lists = subst (λ (x : SliceHead). HasLists x.kind x.refs0 x.refs1) (sym is.same) tt;
        qp = is.qp_fits;
      };
    }

few_of : (k : SliceKind) (refs1 : ℕ) → KindFits k refs1 → refs1 ≤ 4
few_of I refs1 h = absurd h
few_of P refs1 h = omega arith
few_of B refs1 h = h.1

entries_of : (k : SliceKind) (refs0 refs1 : ℕ) → 1 ≤ refs0 → KindFits k refs1 → HasEntries k refs0 refs1
unfolding HasEntries
entries_of I refs0 refs1 some h = tt
entries_of P refs0 refs1 some h = omega arith
entries_of B refs0 refs1 some h = (omega arith, (let l : 1 ≤ refs1 = h.0 in omega arith))

lists_of : (k : SliceKind) (refs0 refs1 : ℕ) → 1 ≤ refs0 → KindFits k refs1 → HasLists k refs0 refs1
lists_of I refs0 refs1 some h = tt
lists_of P refs0 refs1 some h = some
lists_of B refs0 refs1 some h = (some, h.0)

other_says : (h : SliceHead) → IsOtherHead h → Says h
unfolding other_head
other_says h is =
    let not_idr : h.idr ≡ false = ap (λ (x : SliceHead). x.idr) is.same in
    let no_id : h.idr_id ≡ 0 = ap (λ (x : SliceHead). x.idr_id) is.same in
    record {
      qp = is.fits.qp_fits;
      few0 = is.fits.few;
      few1 = few_of h.kind h.refs1 is.kind_fits;
      entries = entries_of h.kind h.refs0 h.refs1 is.fits.some is.kind_fits;
      allowed = record {
        first_mb = is.fits.first_mb_fits;
        idr_id = omega (arith, no_id);
        intra = λ e. absurd cc;
        lists = lists_of h.kind h.refs0 h.refs1 is.fits.some is.kind_fits;
        qp = is.fits.qp_fits;
      };
    }

pub head_says : (idr : Bool) (h : SliceHead) → IsHead idr h → Says h
head_says true h is = idr_says h is
head_says false h is = other_says h is

-- P slices have an entry of list 0, and B slices one of each list
pub some_first : (k : SliceKind) (m n : ℕ) → k ≡ SliceKind.P → HasEntries k m n → 0 < m
unfolding HasEntries
some_first k m n e h = subst (λ (s : SliceKind). HasEntries s m n) e h

pub some_both : (k : SliceKind) (m n : ℕ) → k ≡ SliceKind.B → HasEntries k m n → (0 < m) × (0 < n)
unfolding HasEntries
some_both k m n e h = subst (λ (s : SliceKind). HasEntries s m n) e h
