-- A slice's records, planes and bins with one macroblock more.
use Rattle.std.proofs.Common.{◌≡◌, ℕ, ◌+◌, ◌-◌, ◌*◌, ◌/◌, ◌<◌, ◌≤◌, ◌++◌, Bool, List, [], ◌∷◌, length, take, set, sym, ap, subst, ◌∙◌, arith}
use Rattle.std.proofs.lemmas.List.{take_more_set}
use Rattle.enc_tables.specs.declared.records.MbRecord.{MbRecord}
use Rattle.enc_tables.specs.declared.plans.RowPlan.{RowPlan}
use Rattle.picture_planes.specs.declared.picture.Picture.{Picture}
use Rattle.spec_film.specs.Films.{Planes}
use Rattle.spec_headers.specs.declared.heads.SliceHead.{SliceHead}
use Rattle.spec_macroblock.specs.Records.{IsRecord}
use Rattle.spec_reconstruction.specs.Records.{slice_built, macroblock_built}
use Rattle.spec_coded.specs.Tasks.{built_by}
use Rattle.spec_record_laws.specs.Coded.{PlanesFit}
use Rattle.cabac_coder.specs.State.{CoderState}
use Rattle.bin_writer.specs.Coding.{Coding, coding, IsReady, Codes, CodesPlain}
use Rattle.inter_coder.specs.declared.given.Pictures.{Pictures}
use Rattle.inter_coder.specs.Given.{sources_in}
use Rattle.slice_coder.specs.declared.place.Place.{Place}
use Rattle.slice_coder.specs.Records.{records_by, next_by}
use Rattle.slice_coder.specs.Given.{task_in, IsPlaced, CanBe, SamplesFit}
use Rattle.slice_coder.specs.Strings.{near_at, string_at, flag_before, Follows, Opened}
use Rattle.slice_coder.proofs.Along.{records_next, records_none, records_long}
use Rattle.slice_coder.proofs.Building.{built_push, built_none}
use Rattle.slice_coder.proofs.Made.{next_fits, next_follows}
use Rattle.slice_coder.proofs.Going.{opened_none, opened_more}
use Rattle.slice_coder.proofs.Shapes.{few, rows_end}

-- a picture has few macroblocks
pub few_macroblocks : (p : Picture) (across : ℕ) → p.y.width ≡ 16 * across → across * (p.y.height / 16) ≤ 36864
few_macroblocks p across w =
    let wide : p.y.width ≤ 4096 = p.y.size.1 in
    let high : p.y.height ≤ 2304 = p.y.size.3 in
    few across (p.y.height / 16) (omega arith) (omega arith)

-- and so has a slice; its numbers are small
pub few_of_slice : (place : Place) (h : SliceHead) (p : Pictures) → IsPlaced place h p → (place.end - place.row) * place.across ≤ 36864
few_of_slice place h p is =
    let rows : place.row < place.end = is.rows in
    let high : 16 * place.end ≤ p.source.now.y.height = is.high in
    let most = few_macroblocks p.source.now place.across is.across in
    let ends = rows_end place.row place.end place.across (p.source.now.y.height / 16) (omega arith) (omega arith) in
    omega arith

pub first_fits : (place : Place) (h : SliceHead) (p : Pictures) → IsPlaced place h p → h.first_mb < 65536
first_fits place h p is =
    let rows : place.row < place.end = is.rows in
    let high : 16 * place.end ≤ p.source.now.y.height = is.high in
    let most = few_macroblocks p.source.now place.across is.across in
    let ends = rows_end place.row place.end place.across (p.source.now.y.height / 16) (omega arith) (omega arith) in
    omega (arith, is.first)

module _ (coarsest : Bool) (place : Place) (h : SliceHead) (p : Pictures) (plans : List RowPlan) (base : Planes) where
  -- nothing is coded yet
  pub built_start : base ≡ slice_built place.across (sources_in p) h.first_mb (records_by coarsest (task_in place h p plans) base 0) base
  built_start =
      sym (ap (λ (rs : List MbRecord). slice_built place.across (sources_in p) h.first_mb rs base) (records_none coarsest (task_in place h p plans) base) ∙ built_none place.across (sources_in p) h.first_mb base)

  pub opened_start : (count : ℕ) (start : Coding) → IsReady start → Opened (string_at place h) count (records_by coarsest (task_in place h p plans) base 0) start start
  opened_start count start ready =
      subst (λ (rs : List MbRecord). Opened (string_at place h) count rs start start) (sym (records_none coarsest (task_in place h p plans) base)) (opened_none (string_at place h) count start ready)

module _ (coarsest : Bool) (place : Place) (h : SliceHead) (p : Pictures) (plans : List RowPlan) (base : Planes) (n : ℕ) (mb : MbRecord) where
  -- the record of macroblock n
  unfoldable pub its_own : MbRecord
  its_own = next_by coarsest (task_in place h p plans) (records_by coarsest (task_in place h p plans) base n) (built_by (task_in place h p plans) base (records_by coarsest (task_in place h p plans) base n))

  -- the record that was made behind these, over what was built
  pub next_is : (before : List MbRecord) (now : Planes) → before ≡ records_by coarsest (task_in place h p plans) base n → now ≡ slice_built place.across (sources_in p) h.first_mb (records_by coarsest (task_in place h p plans) base n) base → mb ≡ next_by coarsest (task_in place h p plans) before now → mb ≡ its_own
  unfolding its_own
  next_is before now e k is =
      is
      ∙ ap (λ (xs : List MbRecord). next_by coarsest (task_in place h p plans) xs now) e
      ∙ ap (λ (q : Planes). next_by coarsest (task_in place h p plans) (records_by coarsest (task_in place h p plans) base n) q) k

  pub fits_next : (before : List MbRecord) → IsPlaced place h p → CanBe coarsest place h p plans → SamplesFit p → PlanesFit base → n < (place.end - place.row) * place.across → before ≡ records_by coarsest (task_in place h p plans) base n → mb ≡ its_own → IsRecord (near_at place h before) mb
  unfolding its_own
  fits_next before is can fits built inside e k =
      subst (λ (xs : List MbRecord). IsRecord (near_at place h xs) mb) (sym e)
      (subst (λ (r : MbRecord). IsRecord (near_at place h (records_by coarsest (task_in place h p plans) base n)) r) (sym k) (next_fits coarsest place h p plans base is can fits built n inside))

  pub follows_next : (before : List MbRecord) → IsPlaced place h p → CanBe coarsest place h p plans → SamplesFit p → PlanesFit base → n < (place.end - place.row) * place.across → before ≡ records_by coarsest (task_in place h p plans) base n → mb ≡ its_own → Follows h before mb
  unfolding its_own
  follows_next before is can fits built inside e k =
      subst (λ (xs : List MbRecord). Follows h xs mb) (sym e)
      (subst (λ (r : MbRecord). Follows h (records_by coarsest (task_in place h p plans) base n) r) (sym k) (next_follows coarsest place h p plans base is can fits built n inside))

  -- the records with this one
  grown : mb ≡ its_own → records_by coarsest (task_in place h p plans) base n ++ mb ∷ [] ≡ records_by coarsest (task_in place h p plans) base (n + 1)
  unfolding its_own
  grown k = ap (λ (r : MbRecord). records_by coarsest (task_in place h p plans) base n ++ r ∷ []) k ∙ sym (records_next coarsest (task_in place h p plans) base n)

  pub records_more : (records : List MbRecord) → n < length records → take n records ≡ records_by coarsest (task_in place h p plans) base n → mb ≡ its_own → take (n + 1) (set records n mb) ≡ records_by coarsest (task_in place h p plans) base (n + 1)
  records_more records inside e k = take_more_set records n mb inside ∙ ap (λ (xs : List MbRecord). xs ++ mb ∷ []) e ∙ grown k

  pub built_more : (before : List MbRecord) (old new : Planes) → before ≡ records_by coarsest (task_in place h p plans) base n → old ≡ slice_built place.across (sources_in p) h.first_mb (records_by coarsest (task_in place h p plans) base n) base → mb ≡ its_own
      → new ≡ macroblock_built place.across (sources_in p) h.first_mb (h.first_mb + length before) mb old → new ≡ slice_built place.across (sources_in p) h.first_mb (records_by coarsest (task_in place h p plans) base (n + 1)) base
  built_more before old new b e k is =
      is
      ∙ ap (λ (xs : List MbRecord). macroblock_built place.across (sources_in p) h.first_mb (h.first_mb + length xs) mb old) b
      ∙ ap (λ (q : Planes). macroblock_built place.across (sources_in p) h.first_mb (h.first_mb + length (records_by coarsest (task_in place h p plans) base n)) mb q) e
      ∙ sym (built_push place.across (sources_in p) h.first_mb (records_by coarsest (task_in place h p plans) base n) mb base)
      ∙ ap (λ (rs : List MbRecord). slice_built place.across (sources_in p) h.first_mb rs base) (grown k)

  pub bins_more : (count : ℕ) (before : List MbRecord) (start now next : Coding) (coder : CoderState) → before ≡ records_by coarsest (task_in place h p plans) base n → mb ≡ its_own
      → Opened (string_at place h) count (records_by coarsest (task_in place h p plans) base n) start now → n < count → CodesPlain now.coder (flag_before n) coder → Codes (coding coder now.states) (string_at place h before mb) next
      → Opened (string_at place h) count (records_by coarsest (task_in place h p plans) base (n + 1)) start next
  bins_more count before start now next coder e k opened inside flag coded =
      subst (λ (rs : List MbRecord). Opened (string_at place h) count rs start next) (grown k)
      (opened_more (string_at place h) count n (records_by coarsest (task_in place h p plans) base n) mb start now next coder opened (records_long coarsest (task_in place h p plans) base n) inside flag
      (subst (λ (xs : List MbRecord). Codes (coding coder now.states) (string_at place h xs mb) next) e coded))
