-- The coded slice as a slice of the syntax, and its bits.
use Rattle.std.proofs.Common.{◌≡◌, ℕ, ◌-◌, ◌*◌, ◌/◌, ◌<◌, ◌≤◌, Bool, List, ◌++◌, refl, arith}
use Rattle.enc_tables.specs.declared.records.CtxState.{CtxState}
use Rattle.enc_tables.specs.declared.plans.RowPlan.{RowPlan}
use Rattle.spec_headers.specs.HeadFields.{slice_head_bits}
use Rattle.spec_headers.specs.declared.heads.SliceHead.{SliceHead}
use Rattle.spec_cabac.specs.Code.{arith_code}
use Rattle.spec_film.specs.Films.{Planes}
use Rattle.spec_syntax.specs.declared.Bin.{Bin}
use Rattle.spec_slice_data.specs.Coding.{asked, slice_string}
use Rattle.spec_lists.specs.Colocated.{colocated_at}
use Rattle.spec_slice_payload.specs.Layer.{Format, Slice, states_of}
use Rattle.spec_slice_payload.specs.Slices.{IsSlice}
use Rattle.spec_slice_payload.specs.Writing.{layer_bits, string_after}
use Rattle.spec_record_laws.specs.Coded.{PlanesFit}
use Rattle.ref_lists.specs.Named.{named}
use Rattle.inter_coder.specs.declared.given.Pictures.{Pictures}
use Rattle.slice_coder.specs.declared.place.Place.{Place}
use Rattle.slice_coder.specs.Records.{coded}
use Rattle.slice_coder.specs.Given.{format_in, task_in, IsPlaced, CanBe, SamplesFit}
use Rattle.slice_coder.proofs.Along.{records_long}
use Rattle.slice_coder.proofs.Made.{made}
use Rattle.slice_coder.proofs.Shapes.{slice_ends, some_macroblocks}

pub is_slice : (coarsest : Bool) (place : Place) (h : SliceHead) (p : Pictures) (plans : List RowPlan) (base : Planes) (count : ℕ) → IsPlaced place h p → CanBe coarsest place h p plans → SamplesFit p → PlanesFit base → count ≡ (place.end - place.row) * place.across
    → IsSlice (format_in place p) (colocated_at (named p.lists.now)) h.idr (coded coarsest h (task_in place h p plans) base count)
is_slice coarsest place h p plans base count is can fits built long =
    let rows : place.row < place.end = is.rows in
    let high : 16 * place.end ≤ p.source.now.y.height = is.high in
    let all = records_long coarsest (task_in place h p plans) base count in
    let some : 0 < count = some_macroblocks count place.row place.end place.across long rows is.wide in
    let ends = slice_ends h.first_mb count place.row place.end place.across (p.source.now.y.height / 16) is.first long (omega arith) (omega arith) in
    record {
      head_fits = is.head;
      some = omega arith;
      fits = omega arith;
      each = (made coarsest place h p plans base count is can fits built (omega arith)).are;
    }

-- the header's bits, and the code behind them
pub layer_is : (f : Format) (s : Slice) (text : List Bool) (states : List CtxState) (bins : List Bin) → text ≡ slice_head_bits s.head → states ≡ states_of s.head → bins ≡ slice_string (string_after f s.head) s.records
    → text ++ arith_code (asked states bins) ≡ layer_bits f s
unfolding layer_bits
layer_is f s text states bins e h k = rw (e, h, k) refl
