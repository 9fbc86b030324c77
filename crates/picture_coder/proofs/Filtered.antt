-- The coded picture, filtered and kept.
use Rattle.std.proofs.Common.{◌≡◌, ◌≤◌, ◌<◌, ◌+◌, ◌-◌, ◌*◌, ◌++◌, ℕ, zero, suc, Bool, pos, List, [], ◌∷◌, length, map, sym, ap, ap₂, subst, ◌∙◌, arith}
use Rattle.std.specs.List.{All}
use Rattle.std.proofs.lemmas.List.{take_all}
use Rattle.enc_tables.specs.declared.records.MbRecord.{MbRecord}
use Rattle.enc_tables.specs.declared.records.Motion.{Motion}
use Rattle.picture_planes.specs.declared.picture.Picture.{Picture}
use Rattle.picture_planes.specs.Pictures.{planes_of, SameShapes}
use Rattle.spec_film.specs.Films.{Planes}
use Rattle.spec_lists.specs.References.{Reference as Shown}
use Rattle.spec_lists.specs.Lists.{Lists as ShownLists, pictures_of}
use Rattle.spec_slice_payload.specs.Layer.{Slice}
use Rattle.spec_filter.specs.Pictures.{picture_filtered}
use Rattle.spec_decoder.specs.Frames.{picture_made, motion_of, lists_by}
use Rattle.spec_encoding.specs.Frames.{all_records, first_lists, picture_of}
use Rattle.spec_encoding.proofs.Numbers.{row_last}
use Rattle.spec_film_coder.specs.Pictures.{first_of}
use Rattle.ref_lists.specs.declared.held.Reference.{Reference}
use Rattle.ref_lists.specs.Held.{natural, IsMade}
use Rattle.ref_lists.specs.Named.{named}
use Rattle.picture_coder.specs.declared.coding.Coding.{Coding}
use Rattle.picture_coder.specs.declared.job.Job.{Job}
use Rattle.picture_coder.specs.Jobs.{IsJob, held_in}
use Rattle.picture_coder.specs.Kept.{IsKept}
use Rattle.picture_coder.specs.Pictures.{shape_of, slice_at, first_slices, built_to, IsQuantised, SlicesCoded, picture_at}
use Rattle.picture_coder.proofs.JobHeads.{head_lists}
use Rattle.picture_coder.proofs.Written.{more_slices, no_slices}

-- the records are those of all slices
all_of : (c : Coding) (j : Job) (built : Planes) (records : List MbRecord) → 0 < c.slices → length records ≡ c.down * c.across → SlicesCoded c j c.slices built records → records ≡ all_records (first_slices c j c.slices)
all_of c j built records some long coded =
    let end : first_of (shape_of c j) c.slices ≡ c.down * c.across = ap (λ (n : ℕ). n * c.across) (row_last c.down c.slices some) in
    sym (take_all (first_of (shape_of c j) c.slices) records (omega arith)) ∙ coded.records_are

pub all_quantised : (c : Coding) (j : Job) (built : Planes) (records : List MbRecord) → 0 < c.slices → length records ≡ c.down * c.across → SlicesCoded c j c.slices built records → All (λ (r : MbRecord). r.qp ≤ 51) records
all_quantised c j built records some long coded = subst (λ (rs : List MbRecord). All IsQuantised rs) (sym (all_of c j built records some long coded)) coded.quantised

-- ---- the lists of a picture are those of its slices

one_more : (held : List Shown) (lists : ShownLists) (ss : List Slice) (s : Slice) → first_lists held ss ≡ lists → lists_by s.head held ≡ lists → first_lists held (ss ++ s ∷ []) ≡ lists
one_more held lists [] s h g = g
one_more held lists (x ∷ ss) s h g = h

lists_so_far : (c : Coding) (j : Job) (k : ℕ) → IsJob c.across c.down j → first_lists (held_in j) (first_slices c j (k + 1)) ≡ named j.lists.now
lists_so_far c j zero is =
    ap (λ (ss : List Slice). first_lists (held_in j) ss) (more_slices c j 0 ∙ ap (λ (ss : List Slice). ss ++ slice_at c j 0 (built_to c j 0) ∷ []) (no_slices c j))
    ∙ head_lists c.across c.down j c.qp (first_of (shape_of c j) 0) is
lists_so_far c j (suc k) is =
    let n : ℕ = k + 1 in
    let e : suc k ≡ n = omega arith in
    ap (λ (m : ℕ). first_lists (held_in j) (first_slices c j (m + 1))) e
    ∙ ap (λ (ss : List Slice). first_lists (held_in j) ss) (more_slices c j n)
    ∙ one_more (held_in j) (named j.lists.now) (first_slices c j n) (slice_at c j n (built_to c j n)) (lists_so_far c j k is) (head_lists c.across c.down j c.qp (first_of (shape_of c j) n) is)

lists_are : (c : Coding) (j : Job) → 0 < c.slices → IsJob c.across c.down j → first_lists (held_in j) (first_slices c j c.slices) ≡ named j.lists.now
lists_are c j some is =
    let e : c.slices ≡ c.slices - 1 + 1 = omega (arith, some) in
    ap (λ (n : ℕ). first_lists (held_in j) (first_slices c j n)) e ∙ lists_so_far c j (c.slices - 1) is

-- ---- the picture

pub filtered : (c : Coding) (j : Job) (built : Planes) (records : List MbRecord) (width : ℕ) → 0 < c.slices → IsJob c.across c.down j → length records ≡ c.down * c.across → width ≡ 16 * c.across → SlicesCoded c j c.slices built records
    → picture_filtered (pictures_of (named j.lists.now).list0) (pictures_of (named j.lists.now).list1) records width built ≡ picture_of c.across c.down (held_in j) (first_slices c j c.slices)
unfolding picture_made
filtered c j built records width some is long wide coded =
    let l : ShownLists = named j.lists.now in
    ap (λ (rs : List MbRecord). picture_filtered (pictures_of l.list0) (pictures_of l.list1) rs width built) (all_of c j built records some long coded)
    ∙ ap (λ (w : ℕ). picture_filtered (pictures_of l.list0) (pictures_of l.list1) (all_records (first_slices c j c.slices)) w built) wide
    ∙ ap (λ (p : Planes). picture_filtered (pictures_of l.list0) (pictures_of l.list1) (all_records (first_slices c j c.slices)) (16 * c.across) p) coded.planes
    ∙ ap (λ (lists : ShownLists). picture_filtered (pictures_of lists.list0) (pictures_of lists.list1) (all_records (first_slices c j c.slices)) (16 * c.across) (built_to c j c.slices)) (sym (lists_are c j some is))

shown : Planes → List (Bool × List Motion) → ℕ → ℕ → Shown
shown planes motion poc frame_num = record { planes = planes; motion = motion; poc = poc; frame_num = frame_num }

pub kept_is : (c : Coding) (j : Job) (built : Planes) (records : List MbRecord) (r : Reference) → 0 < c.slices → length records ≡ c.down * c.across → SlicesCoded c j c.slices built records
    → planes_of r.picture ≡ picture_of c.across c.down (held_in j) (first_slices c j c.slices) → r.records.items ≡ map motion_of records → r.poc ≡ pos j.step.poc → r.frame_num ≡ j.step.frame_num → IsKept r (picture_at c j)
unfolding shown
kept_is c j built records r some long coded planes motion poc number = record {
  seen_is =
      ap (λ (p : Planes). shown p r.records.items (natural r.poc) r.frame_num) planes
      ∙ ap (λ (ms : List (Bool × List Motion)). shown (picture_of c.across c.down (held_in j) (first_slices c j c.slices)) ms (natural r.poc) r.frame_num)
      (motion ∙ ap (λ (rs : List MbRecord). map motion_of rs) (all_of c j built records some long coded))
      ∙ ap₂ (λ (q n : ℕ). shown (picture_of c.across c.down (held_in j) (first_slices c j c.slices)) (map motion_of (all_records (first_slices c j c.slices))) q n) (ap natural poc) number;
  poc_is = poc;
}

-- ---- sizes of references

-- a picture of the same shapes keeps a reference as it is made
pub made_still : (width height : ℕ) (r : Reference) (p : Picture) → SameShapes r.picture p → IsMade width height r → IsMade width height (record r { picture = p })
made_still width height r p shape made = record {
  luma = (shape.0.0 ∙ made.luma.0, shape.0.1 ∙ made.luma.1, shape.0.2 ∙ made.luma.2);
  cb = (shape.1.0 ∙ made.cb.0, shape.1.1 ∙ made.cb.1, shape.1.2 ∙ made.cb.2);
  cr = (shape.2.0 ∙ made.cr.0, shape.2.1 ∙ made.cr.1, shape.2.2 ∙ made.cr.2);
  sums = record { width = made.sums.width ∙ sym shape.0.0; height = made.sums.height ∙ sym shape.0.1; pad = made.sums.pad ∙ sym shape.0.2 };
  halves = record {
    b = (made.halves.b.0 ∙ sym shape.0.0, made.halves.b.1 ∙ sym shape.0.1, made.halves.b.2 ∙ sym shape.0.2);
    h = (made.halves.h.0 ∙ sym shape.0.0, made.halves.h.1 ∙ sym shape.0.1, made.halves.h.2 ∙ sym shape.0.2);
    j = (made.halves.j.0 ∙ sym shape.0.0, made.halves.j.1 ∙ sym shape.0.1, made.halves.j.2 ∙ sym shape.0.2);
  };
  records = made.records;
}
