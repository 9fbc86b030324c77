-- The headers of a picture's slices: the syntax has room for them, they say what the step does, and their lists are there.
use Rattle.std.proofs.Common.{◌≡◌, ◌≤◌, ◌<◌, ◌+◌, ◌-◌, ◌%◌, ◌^◌, ℕ, Bool, true, false, List, [], ◌∷◌, length, map, Option, Some, None, refl, sym, ap, subst, ◌∙◌, arith, lit<, lit≤}
use Rattle.std.specs.Prelude.{if◌then◌else◌}
use Rattle.std.specs.List.{AllByRecursion}
use Rattle.enc_tables.specs.declared.records.PlanStep.{PlanStep}
use Rattle.enc_tables.specs.declared.records.SliceKind.{SliceKind}
use Rattle.enc_tables.specs.declared.records.SliceKind.TheVariants.{I, P, B}
use Rattle.spec_film.specs.Films.{Planes}
use Rattle.spec_headers.specs.declared.heads.SliceHead.{SliceHead}
use Rattle.spec_headers.specs.Heads.{idr_head, other_head, MovedFits}
use Rattle.spec_lists.specs.References.{Reference}
use Rattle.spec_lists.specs.Heads.{common, idr_id_of}
use Rattle.spec_lists.specs.Lists.{Lists, is_so_far, in_front, lists_of}
use Rattle.spec_lists.specs.Orders.{Falling}
use Rattle.spec_lists.specs.Reordering.{moved_for}
use Rattle.spec_lists.proofs.Sorted.{p_list}
use Rattle.spec_lists.proofs.Moved.{Found, moved_lists, command_found}
use Rattle.spec_partitions.specs.InRange.{HasEntries}
use Rattle.spec_slice_payload.specs.Slices.{IsHead}
use Rattle.spec_record_laws.specs.Coded.{PlanesFit}
use Rattle.spec_decoder.specs.Frames.{lists_by, or_none}
use Rattle.spec_pictures.specs.Accesses.{HasHead}
use Rattle.spec_plan.specs.Marks.{mark, KindFits, Falls}
use Rattle.spec_plan.proofs.Held.{all_marked, weaker, falls_number, p_have, b_have}
use Rattle.spec_tasks.specs.Entries.{entries0, entries1, command_of}
use Rattle.spec_tasks.specs.Given.{PicturesFit}
use Rattle.spec_film_coder.specs.Sound.{StepFits}
use Rattle.spec_film_coder.proofs.Moved.{in_front_long, in_front_has, command_small}

-- ---- what is shown of headers

-- lists with as many pictures of eight bits as the header says
pub record AreListed (h : SliceHead) (lists : Lists) : Type 0 where
  pub pictures0 : PicturesFit lists.list0
  pub pictures1 : PicturesFit lists.list1
  pub length0 : length lists.list0 ≡ h.refs0
  pub length1 : length lists.list1 ≡ h.refs1
  pub few0 : h.refs0 ≤ 4
  pub few1 : h.refs1 ≤ 4
  pub entries : HasEntries h.kind h.refs0 h.refs1

pub record IsListed (held : List Reference) (h : SliceHead) : Type 0 where
  pub there : lists_of h held ≡ Some (lists_by h held)
  pub listed : AreListed h (lists_by h held)

-- the header of a slice by its first macroblock
pub record HeadsFit (st : PlanStep) (held : List Reference) (number qp : ℕ) (head : ℕ → SliceHead) : Type 0 where
  pub fits : (n : ℕ) → n ≤ 36864 → IsHead st.idr (head n)
  pub says : (n : ℕ) → HasHead (head 0) st (head n)
  pub first : (n : ℕ) → (head n).first_mb ≡ n
  pub own_qp : (n : ℕ) → (head n).qp ≡ qp
  pub lists : (n : ℕ) → IsListed held (head n)
  pub id : idr_id_of st.idr (head 0).idr_id ≡ idr_id_of st.idr (number % 2)

known : (h : SliceHead) (held : List Reference) (lists : Lists) → lists_of h held ≡ Some lists → AreListed h lists → IsListed held h
known h held lists e a =
    let same : lists_by h held ≡ lists = ap or_none e in
    record {
      there = e ∙ ap (λ (l : Lists). Some l) (sym same);
      listed = subst (λ (l : Lists). AreListed h l) (sym same) a;
    }

below : (n : ℕ) → n ≤ 65536 → n < 2 ^ 32 - 1
below n h = omega arith

two : (n : ℕ) → n % 2 ≤ 1
two n = omega arith

-- ---- IDR pictures

idr_lists : (first number qp : ℕ) (held : List Reference) → IsListed held (idr_head first 0 number 0 qp true)
unfolding idr_head lists_of HasEntries
idr_lists first number qp held = record {
  there = refl;
  listed = record { pictures0 = tt; pictures1 = tt; length0 = refl; length1 = refl; few0 = lit≤ tt; few1 = lit≤ tt; entries = tt };
}

idr_heads : (st : PlanStep) (held : List Reference) (number qp : ℕ) → st.idr ≡ true → st.kind ≡ I → st.frame_num ≡ 0 → st.poc ≡ 0 → qp ≤ 51 → HeadsFit st held number qp (λ n. idr_head n 0 (number % 2) 0 qp true)
unfolding idr_head common
idr_heads st held number qp idr kind num poc small = record {
  fits = λ n lt. subst (λ b. IsHead b (idr_head n 0 (number % 2) 0 qp true)) (sym idr)
      (record { same = refl; first_mb_fits = below n (omega (arith, lt)); frame_num_fits = lit< tt; idr_id_fits = two number; poc_fits = lit< tt; qp_fits = small });
  says = λ n. record { agrees = refl; kind = sym kind; idr = sym idr; frame_num = sym num; poc = sym poc };
  first = λ n. refl;
  own_qp = λ n. refl;
  lists = λ n. idr_lists n (number % 2) qp held;
  id = refl;
}

-- ---- P pictures

-- a command, where there is one, names a held picture
pub CommandNames : ℕ → List Reference → Option ℕ → Type 0
CommandNames n held None = Unit {0}
CommandNames n held (Some d) = Found (is_so_far n (d + 1)) held

-- what is given of the references of a picture
pub record Ready (kind : SliceKind) (st : PlanStep) (held : List Reference) : Type 0 where
  pub marks : KindFits kind st.poc st.frame_num (map mark held)
  pub falls : Falls (map mark held)
  pub few : length held ≤ 4
  pub fit : PicturesFit held

abbrev p_head : PlanStep → List Reference → Option ℕ → ℕ → ℕ → SliceHead
p_head st held moved qp n = other_head n P st.frame_num st.poc (length held) 0 moved qp true

numbers_low : (st : PlanStep) (held : List Reference) → Ready P st held → AllByRecursion (λ r. r.frame_num < st.frame_num) held
numbers_low st held g =
    weaker (λ r. (r.poc < st.poc) × (r.frame_num < st.frame_num)) (λ r. r.frame_num < st.frame_num) held (λ r k. k.1) (all_marked (λ m. (m.0 < st.poc) × (m.1 < st.frame_num)) held g.marks.1)

some_held : (rs : List Reference) → 1 ≤ length (map mark rs) → 1 ≤ length rs
some_held [] h = h
some_held (r ∷ rs) h = omega arith

p_listed : (st : PlanStep) (held : List Reference) (moved : Option ℕ) (qp n : ℕ) → st.frame_num < 65536 → Ready P st held → CommandNames st.frame_num held moved → IsListed held (p_head st held moved qp n)
unfolding other_head HasEntries CommandNames
p_listed st held None qp n small g named =
    known (p_head st held None qp n) held (record { list0 = held; list1 = [] }) (p_have (p_head st held None qp n) held g.marks g.falls refl refl refl refl small)
    (record { pictures0 = g.fit; pictures1 = tt; length0 = refl; length1 = refl; few0 = g.few; few1 = lit≤ tt; entries = some_held held g.marks.0 })
p_listed st held (Some d) qp n small g named =
    let is : Reference → Bool = is_so_far st.frame_num (d + 1) in
    let low : AllByRecursion (λ r. r.frame_num < st.frame_num) held = numbers_low st held g in
    let falls : Falling (λ r. r.frame_num) held = falls_number held g.falls in
    known (p_head st held (Some d) qp n) held (record { list0 = in_front (length held) is held named.one; list1 = [] })
    (moved_lists (p_head st held (Some d) qp n) held d refl refl refl refl small low falls named)
    (record {
      pictures0 = in_front_has (λ r. PlanesFit r.planes) (length held) is held named.one g.fit named.first;
      pictures1 = tt;
      length0 = in_front_long st.frame_num (d + 1) held named.one small low falls;
      length1 = refl;
      few0 = g.few;
      few1 = lit≤ tt;
      entries = some_held held g.marks.0;
    })

moved_small : (n : ℕ) (held : List Reference) (moved : Option ℕ) → CommandNames n held moved → MovedFits moved
unfolding CommandNames
moved_small n held None named = tt
moved_small n held (Some d) named = below d (omega (arith, command_small n d held named.one named.first))

p_heads : (st : PlanStep) (held : List Reference) (number : ℕ) (moved : Option ℕ) (qp : ℕ) → st.idr ≡ false → st.kind ≡ P → st.frame_num < 65536 → st.poc < 65536 → qp ≤ 51 → Ready P st held → CommandNames st.frame_num held moved
    → HeadsFit st held number qp (λ n. p_head st held moved qp n)
unfolding other_head common
p_heads st held number moved qp idr kind num poc small g named = record {
  fits = λ n lt. subst (λ b. IsHead b (p_head st held moved qp n)) (sym idr)
      (record {
        same = refl;
        kind_fits = refl;
        fits = record { first_mb_fits = below n (omega (arith, lt)); frame_num_fits = num; poc_fits = poc; some = some_held held g.marks.0; few = g.few; moved_fits = moved_small st.frame_num held moved named; qp_fits = small };
      });
  says = λ n. record { agrees = refl; kind = sym kind; idr = sym idr; frame_num = refl; poc = refl };
  first = λ n. refl;
  own_qp = λ n. refl;
  lists = λ n. p_listed st held moved qp n num g named;
  id = ap (λ b. idr_id_of b 0) idr ∙ sym (ap (λ b. idr_id_of b (number % 2)) idr);
}

-- ---- B pictures

abbrev b_head : PlanStep → ℕ → ℕ → ℕ → SliceHead
b_head st refs0 qp n = other_head n B st.frame_num st.poc refs0 1 None qp true

b_listed : (st : PlanStep) (new : Reference) (rs : List Reference) (qp n refs0 : ℕ) → refs0 ≡ length rs → Ready B st (new ∷ rs) → IsListed (new ∷ rs) (b_head st refs0 qp n)
unfolding other_head HasEntries
b_listed st new rs qp n refs0 e g =
    let some : 1 ≤ length rs = some_held rs g.marks.0 in
    let few : length (new ∷ rs) ≤ 4 = g.few in
    known (b_head st refs0 qp n) (new ∷ rs) (record { list0 = rs; list1 = new ∷ [] }) (b_have (b_head st refs0 qp n) new rs g.marks g.falls refl e refl refl)
    (record {
      pictures0 = g.fit.1;
      pictures1 = (g.fit.0, tt);
      length0 = sym e;
      length1 = refl;
      few0 = omega (arith, e, few);
      few1 = lit≤ tt;
      entries = (omega (arith, e, some), lit< tt);
    })

b_heads : (st : PlanStep) (held : List Reference) (number qp : ℕ) → st.idr ≡ false → st.kind ≡ B → st.frame_num < 65536 → st.poc < 65536 → qp ≤ 51 → Ready B st held → HeadsFit st held number qp (λ n. b_head st (length held - 1) qp n)
unfolding other_head common
b_heads st [] number qp idr kind num poc small g = absurd g.marks
b_heads st (new ∷ rs) number qp idr kind num poc small g =
    let e : length (new ∷ rs) - 1 ≡ length rs = omega arith in
    let some : 1 ≤ length rs = some_held rs g.marks.0 in
    let few : length (new ∷ rs) ≤ 4 = g.few in
    record {
      fits = λ n lt. subst (λ b. IsHead b (b_head st (length (new ∷ rs) - 1) qp n)) (sym idr)
          (record {
            same = refl;
            kind_fits = (lit≤ tt, lit≤ tt);
            fits = record { first_mb_fits = below n (omega (arith, lt)); frame_num_fits = num; poc_fits = poc; some = omega (arith, e, some); few = omega (arith, e, few); moved_fits = tt; qp_fits = small };
          });
      says = λ n. record { agrees = refl; kind = sym kind; idr = sym idr; frame_num = refl; poc = refl };
      first = λ n. refl;
      own_qp = λ n. refl;
      lists = λ n. b_listed st new rs qp n (length (new ∷ rs) - 1) e g;
      id = ap (λ b. idr_id_of b 0) idr ∙ sym (ap (λ b. idr_id_of b (number % 2)) idr);
    }

-- ---- all kinds

head_with : Bool → SliceKind → PlanStep → List Reference → ℕ → Option ℕ → ℕ → ℕ → SliceHead
head_with idr kind st held number moved qp first =
    if idr then idr_head first 0 (number % 2) 0 qp true else other_head first kind st.frame_num st.poc (entries0 kind held) (entries1 kind) moved qp true

-- the command of a picture of this kind
pub MayMove : SliceKind → ℕ → List Reference → Option ℕ → Type 0
MayMove I n held moved = Unit {0}
MayMove P n held moved = CommandNames n held moved
MayMove B n held moved = moved ≡ None

pub heads_fit : (idr : Bool) (kind : SliceKind) (st : PlanStep) (held : List Reference) (number : ℕ) (moved : Option ℕ) (qp : ℕ) → st.idr ≡ idr → st.kind ≡ kind → StepFits idr kind st → qp ≤ 51 → Ready kind st held → MayMove kind st.frame_num held moved
    → HeadsFit st held number qp (λ n. if idr then idr_head n 0 (number % 2) 0 qp true else other_head n kind st.frame_num st.poc (entries0 kind held) (entries1 kind) moved qp true)
unfolding MayMove
heads_fit true kind st held number moved qp i k fits small g may = idr_heads st held number qp i (k ∙ fits.0) fits.1 fits.2 small
heads_fit false I st held number moved qp i k fits small g may = absurd fits.0
heads_fit false P st held number moved qp i k fits small g may = p_heads st held number moved qp i k fits.1 fits.2 small g may
heads_fit false B st held number moved qp i k fits small g may =
    subst (λ (o : Option ℕ). HeadsFit st held number qp (λ n. other_head n B st.frame_num st.poc (length held - 1) 1 o qp true)) (sym may) (b_heads st held number qp i k fits.1 fits.2 small g)

-- no command
pub none_moves : (kind : SliceKind) (n : ℕ) (held : List Reference) → MayMove kind n held None
unfolding MayMove CommandNames
none_moves I n held = tt
none_moves P n held = tt
none_moves B n held = refl

-- the command of the written choice
names_by : (n : ℕ) (held : List Reference) (source : Planes) (o : Option ℕ) → n < 65536 → AllByRecursion (λ r. r.frame_num < n) held → moved_for n source.luma held ≡ o → CommandNames n held o
unfolding CommandNames
names_by n held source None small low e = tt
names_by n held source (Some d) small low e = command_found n d source.luma held small low e

pub command_moves : (idr : Bool) (kind : SliceKind) (st : PlanStep) (held : List Reference) (source : Planes) → StepFits idr kind st → Ready kind st held → MayMove kind st.frame_num held (command_of kind st.frame_num source held)
unfolding MayMove
command_moves idr I st held source fits g = tt
command_moves true P st held source fits g = absurd cc
command_moves false P st held source fits g =
    let low : AllByRecursion (λ r. r.frame_num < st.frame_num) held = numbers_low st held g in
    subst (λ (l : List Reference). CommandNames st.frame_num held (moved_for st.frame_num source.luma l)) (sym (p_list st.frame_num held fits.1 low (falls_number held g.falls)))
    (names_by st.frame_num held source (moved_for st.frame_num source.luma held) fits.1 low refl)
command_moves idr B st held source fits g = refl
