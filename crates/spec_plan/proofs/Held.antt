-- What is held while a plan goes on has the marks of the plan, and so each step's lists are there.
use Rattle.std.proofs.Common.{ℕ, zero, suc, ◌≡◌, ◌≤◌, ◌<◌, List, [], ◌∷◌, map, take, length, Bool, true, false, cond, Some, None, refl, ap, ◌∙◌, arith}
use Rattle.std.specs.List.{AllByRecursion}
use Rattle.enc_tables.specs.declared.records.SliceKind.TheVariants.{P, B}
use Rattle.spec_headers.specs.declared.heads.SeqHead.{SeqHead}
use Rattle.spec_headers.specs.declared.heads.SliceHead.{SliceHead}
use Rattle.spec_lists.specs.References.{Reference, kept, slid}
use Rattle.spec_lists.specs.Heads.{is_referred}
use Rattle.spec_lists.specs.Lists.{lists_of}
use Rattle.spec_lists.specs.Orders.{Falling}
use Rattle.spec_lists.proofs.Sorted.{p_lists, b_lists}
use Rattle.spec_decoder.specs.Pictures.{Reading, held_behind, made}
use Rattle.spec_pictures.specs.Accesses.{Access, picture_of, held_after}
use Rattle.spec_plan.specs.Marks.{mark, marks_kept, marks_slid, marks_after, Falls, KindFits}

marks_taken : (n : ℕ) (rs : List Reference) → map mark (take n rs) ≡ take n (map mark rs)
marks_taken zero rs = refl
marks_taken (suc n) [] = refl
marks_taken (suc n) (r ∷ rs) = ap (λ (ms : List (ℕ × ℕ)). mark r ∷ ms) (marks_taken n rs)

kept_marks : (idr : Bool) (held : List Reference) → map mark (kept idr held) ≡ marks_kept idr (map mark held)
kept_marks true held = refl
kept_marks false held = refl

by_kind : (s : SeqHead) (referred : Bool) (new : Reference) (held : List Reference) → map mark (held_behind s referred new held) ≡ cond referred (marks_slid s.refs (mark new) (map mark held)) (map mark held)
unfolding slid marks_slid
by_kind s true new held = marks_taken s.refs (new ∷ held)
by_kind s false new held = refl

-- the marks go on as the plan says
pub marks_go_on : {S : Type 0} (r : Reading S) (s : SeqHead) (held : List Reference) (a : Access S) → map mark (held_after r s held a) ≡ marks_after s.refs a.step (map mark held)
unfolding held_after made
marks_go_on r s held a =
    by_kind s (is_referred a.step.kind) (picture_of r s held a) (kept a.step.idr held)
    ∙ ap (λ (ms : List (ℕ × ℕ)). cond (is_referred a.step.kind) (marks_slid s.refs (a.step.poc, a.step.frame_num) ms) ms) (kept_marks a.step.idr held)

-- ---- the lists

pub all_marked : (F : ℕ × ℕ → Type 0) (rs : List Reference) → AllByRecursion F (map mark rs) → AllByRecursion (λ r. F (mark r)) rs
all_marked F [] h = tt
all_marked F (r ∷ rs) h = (h.0, all_marked F rs h.1)

pub weaker : (F G : Reference → Type 0) (rs : List Reference) → ((r : Reference) → F r → G r) → AllByRecursion F rs → AllByRecursion G rs
weaker F G [] f h = tt
weaker F G (r ∷ rs) f h = (f r h.0, weaker F G rs f h.1)

falls_poc : (rs : List Reference) → Falls (map mark rs) → Falling (λ r. r.poc) rs
falls_poc [] h = tt
falls_poc (r ∷ rs) h =
    (weaker (λ q. (q.poc < r.poc) × (q.frame_num < r.frame_num)) (λ q. q.poc < r.poc) rs (λ q k. k.0) (all_marked (λ k. (k.0 < r.poc) × (k.1 < r.frame_num)) rs h.0), falls_poc rs h.1)

pub falls_number : (rs : List Reference) → Falls (map mark rs) → Falling (λ r. r.frame_num) rs
falls_number [] h = tt
falls_number (r ∷ rs) h =
    (weaker (λ q. (q.poc < r.poc) × (q.frame_num < r.frame_num)) (λ q. q.frame_num < r.frame_num) rs (λ q k. k.1) (all_marked (λ k. (k.0 < r.poc) × (k.1 < r.frame_num)) rs h.0), falls_number rs h.1)

pub p_have : (h : SliceHead) (held : List Reference) → KindFits P h.poc h.frame_num (map mark held) → Falls (map mark held) → h.kind ≡ P → h.refs0 ≡ length held → h.refs1 ≡ 0 → h.moved ≡ None → h.frame_num < 65536
    → lists_of h held ≡ Some (record { list0 = held; list1 = [] })
p_have h held fits falls kind some none unmoved small =
    p_lists h held kind some none unmoved small
    (weaker (λ r. (r.poc < h.poc) × (r.frame_num < h.frame_num)) (λ r. r.frame_num < h.frame_num) held (λ r k. k.1) (all_marked (λ m. (m.0 < h.poc) × (m.1 < h.frame_num)) held fits.1))
    (falls_number held falls)

pub b_have : (h : SliceHead) (new : Reference) (rs : List Reference) → KindFits B h.poc h.frame_num (map mark (new ∷ rs)) → Falls (map mark (new ∷ rs)) → h.kind ≡ B → h.refs0 ≡ length rs → h.refs1 ≡ 1 → h.moved ≡ None
    → lists_of h (new ∷ rs) ≡ Some (record { list0 = rs; list1 = new ∷ [] })
b_have h new rs fits falls kind some one unmoved =
    b_lists h new rs kind some one unmoved (long rs fits.0) fits.1 (all_marked (λ m. m.0 < h.poc) rs fits.2) (falls_poc rs falls.1)
  where
    long : (rs : List Reference) → 1 ≤ length (map mark rs) → 1 ≤ length rs
    long [] h = h
    long (r ∷ rs) h = omega arith
