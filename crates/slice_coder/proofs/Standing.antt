-- A macroblock of a slice stands in the pictures and in the slice's stripe.
use Rattle.std.proofs.Common.{◌≡◌, ℕ, ◌+◌, ◌-◌, ◌*◌, ◌/◌, ◌%◌, ◌<◌, ◌≤◌, Bool, List, length, sym, ap, subst, ◌∙◌, arith}
use Rattle.std.specs.Borrow.{Bor}
use Rattle.enc_tables.specs.declared.records.MbRecord.{MbRecord}
use Rattle.picture_planes.specs.declared.plane.Plane.{Plane}
use Rattle.picture_planes.specs.declared.picture.Picture.{Picture}
use Rattle.picture_planes.specs.declared.stripe.Stripe.{Stripe}
use Rattle.picture_planes.specs.Pictures.{SameShapes}
use Rattle.spec_headers.specs.declared.heads.SliceHead.{SliceHead}
use Rattle.spec_partitions.specs.InRange.{HasEntries}
use Rattle.spec_slice_payload.specs.Layer.{Colocated, view_of}
use Rattle.spec_slice_payload.specs.Slices.{IsHead}
use Rattle.spec_reconstruction.specs.declared.Site.{Site}
use Rattle.spec_reconstruction.specs.Records.{site_of}
use Rattle.residual_coder.specs.Inside.{IsSource}
use Rattle.intra_coder.specs.Reach.{Stands}
use Rattle.ref_lists.specs.declared.naming.Lists.{Lists}
use Rattle.inter_coder.specs.declared.given.Pictures.{Pictures}
use Rattle.inter_coder.specs.declared.given.Beside.{Beside}
use Rattle.inter_coder.specs.Given.{wide_of, tall_of, count0, count1, AreLent, IsBeside}
use Rattle.inter_coder.specs.Beside.{BesideFits, Stands as StandsInter}
use Rattle.slice_coder.specs.declared.place.Place.{Place}
use Rattle.slice_coder.specs.Plans.{HasLists, HoldsRows, IsWhole, place_of}
use Rattle.slice_coder.specs.Given.{format_in, IsPlaced, MovesFit, CanStand}
use Rattle.slice_coder.proofs.CodedMb.{stands_at, source_at, more_rows}
use Rattle.slice_coder.proofs.Heads.{head_says}
use Rattle.slice_coder.proofs.Made.{beside_fits, beside_small}
use Rattle.slice_coder.proofs.Shapes.{row_inside, rows_end, some_across}

-- the pictures that a slice is coded from
abbrev pub pictures_of : Bor Lists → Bor Picture → Pictures
pictures_of lists source = record { lists = lists; source = source }

-- a slice of a picture, by the numbers of its rows
pub placed : (p : Pictures) (h : SliceHead) (a b : ℕ) (t8x8 : Bool) → IsWhole p.source.now → a < b → 16 * b ≤ p.source.now.y.height → IsHead h.idr h → h.first_mb ≡ a * (p.source.now.y.width / 16) → HasLists h p.source.now p.lists.now
    → IsPlaced (place_of p.source.now a b t8x8) h p
placed p h a b t8x8 whole rows high head first lists =
    let columns : p.source.now.y.width % 16 ≡ 0 = whole.columns in
    record { wide = some_across p.source.now whole; across = omega arith; rows = rows; high = high; whole = whole.rows; first = first; head = head; lists = lists }

pub lent : (place : Place) (h : SliceHead) (p : Pictures) → IsPlaced place h p → AreLent p
lent place h p is = record { held = is.lists.held; first = is.lists.first; second = is.lists.second }

pub entries : (place : Place) (h : SliceHead) (p : Pictures) → IsPlaced place h p → HasEntries h.kind (count0 p) (count1 p)
entries place h p is =
    subst (λ (n : ℕ). HasEntries h.kind n (count1 p)) (sym is.lists.count0)
    (subst (λ (n : ℕ). HasEntries h.kind h.refs0 n) (sym is.lists.count1) (head_says h.idr h is.head).entries)

-- its address
pub address_inside : (place : Place) (h : SliceHead) (p : Pictures) (n : ℕ) → IsPlaced place h p → n < (place.end - place.row) * place.across → h.first_mb + n < place.across * (tall_of p / 16)
address_inside place h p n is inside =
    let rows : place.row < place.end = is.rows in
    let high : 16 * place.end ≤ p.source.now.y.height = is.high in
    let ends = rows_end place.row place.end place.across (p.source.now.y.height / 16) (omega arith) (omega arith) in
    omega (arith, is.first)

pub address_there : (place : Place) (h : SliceHead) (p : Pictures) (n : ℕ) → IsPlaced place h p → n < (place.end - place.row) * place.across → h.first_mb + n < wide_of p / 16 * (tall_of p / 16)
address_there place h p n is inside =
    let wide : p.source.now.y.width ≡ 16 * place.across = is.across in
    let across : wide_of p / 16 ≡ place.across = omega arith in
    subst (λ (w : ℕ). h.first_mb + n < w * (tall_of p / 16)) (sym across) (address_inside place h p n is inside)

-- what sites_stand tells
abbrev pub SitesStand : Type 0
SitesStand = (width rows row top address qp : ℕ) (plane : Plane) → 0 < width → top ≤ row → row * width ≤ address → address < width * (top + rows) → plane.width ≡ 16 * width → plane.height ≡ 16 * rows → Stands (site_of width (row * width) address qp) (16 * top) plane

module _ (place : Place) (h : SliceHead) (p : Pictures) (before : List MbRecord) (s : Stripe) (site : Site) (is : IsPlaced place h p) (w : s.picture.now.y.width ≡ wide_of p) (holds : HoldsRows s place.row place.end)
    (inside : length before < (place.end - place.row) * place.across) (at : site ≡ site_of place.across h.first_mb (h.first_mb + length before) h.qp) (stand : SitesStand) where
  in_row : length before / place.across < place.end - place.row
  in_row = row_inside (length before) (place.end - place.row) place.across is.wide inside

  stands_intra : Stands site (16 * s.first) s.picture.now.y
  stands_intra =
      let rows : place.row < place.end = is.rows in
      let high : 16 * place.end ≤ p.source.now.y.height = is.high in
      let down : ℕ = p.source.now.y.height / 16 in
      let begins : s.first ≤ place.row = holds.begins in
      let whole : p.source.now.y.height % 16 ≡ 0 = is.whole in
      let all : place.end ≡ place.row + (place.end - place.row) = omega arith in
      let address : place.row * place.across + length before < place.across * down = subst (λ (f : ℕ). f + length before < place.across * down) is.first (address_inside place h p (length before) is inside) in
      stands_at s p.source.now.y place.row (place.end - place.row) place.across (length before) h.qp site
      (at ∙ ap (λ (f : ℕ). site_of place.across f (f + length before) h.qp) is.first) is.wide in_row (subst (λ (to : ℕ). HoldsRows s place.row to) all holds) w
      (stand place.across down place.row s.first (place.row * place.across + length before) h.qp p.source.now.y is.wide begins (omega arith) (more_rows place.across s.first down (place.row * place.across + length before) address) is.across (omega arith))

  of_source : IsSource 16 site.y s.picture.now.y p.source.now.y
  of_source = source_at p.source.now.y s.picture.now.y place.across h.first_mb (h.first_mb + length before) h.qp site at is.wide (address_inside place h p (length before) is inside) w

  stands_inter : StandsInter site p s
  stands_inter =
      let i = stands_intra in
      let columns : site.x + 16 ≤ s.picture.now.y.width = i.columns in
      record {
        lent = lent place h p is;
        inside = record { columns = omega arith; rows = of_source.rows };
        alike = w;
        rows = record { columns = i.columns; begins = i.begins; rows = i.rows };
      }

  pub can_stand : (c : Colocated) (b : Beside) → MovesFit h before → IsBeside (view_of (format_in place p) c h before) b → CanStand site p s b
  can_stand c b m around =
      let says = head_says h.idr h is.head in
      let few : h.qp ≤ 51 = says.qp in
      let same : site.qp ≡ h.qp = ap (λ (t : Site). t.qp) at in
      record {
        qp = omega arith;
        intra = stands_intra;
        source = of_source;
        inter = stands_inter;
        fits = subst (λ (n : ℕ). BesideFits n (count1 p) b) (sym is.lists.count0) (subst (λ (n : ℕ). BesideFits h.refs0 n b) (sym is.lists.count1) (beside_fits (format_in place p) c h before b is.wide m around));
        short = beside_small (format_in place p) c h before b is.wide m around;
      }

-- it still stands where nothing was changed but samples
pub still_stands : (site : Site) (p : Pictures) (s t : Stripe) (b : Beside) → t.first ≡ s.first → SameShapes s.picture.now t.picture.now → CanStand site p s b → CanStand site p t b
still_stands site p s t b f ((w, h, pad), q, r) c =
    let i = c.intra in
    let columns : site.x + 16 ≤ s.picture.now.y.width = i.columns in
    let begins : 16 * s.first ≤ site.y = i.begins in
    let rows : site.y + 16 ≤ 16 * s.first + s.picture.now.y.height = i.rows in
    record {
      qp = c.qp;
      intra = record {
        columns = omega arith;
        begins = omega arith;
        rows = omega arith;
        left = i.left;
        above = λ e. (let k = i.above e in omega arith);
        corner_left = i.corner_left;
        corner_above = λ e. (let k = i.corner_above e in omega arith);
        beyond = λ e. (let k = i.beyond e in omega arith);
        beyond_above = λ e. (let k = i.beyond_above e in omega arith);
      };
      source = record { wide = c.source.wide ∙ sym w; rows = c.source.rows };
      inter = record {
        lent = c.inter.lent;
        inside = c.inter.inside;
        alike = w ∙ c.inter.alike;
        rows = record { columns = omega arith; begins = omega arith; rows = omega arith };
      };
      fits = c.fits;
      short = c.short;
    }
