-- Jobs by what the store holds.
use Rattle.std.proofs.Common.{ℕ, ℤ, pos, negsuc, ◌-◌, ◌*◌, ◌%◌, ◌≡◌, ◌≤◌, ◌<◌, ◌≤ℤ◌, ◌<ℤ◌, Bool, true, false, List, [], ◌∷◌, length, map, take, Option, Some, None, refl, ap, ap₂, sym, subst, ◌∙◌, arith, lit<}
use Rattle.std.specs.Prelude.{if◌then◌else◌}
use Rattle.std.specs.List.{AllByRecursion}
use Rattle.std.proofs.lemmas.Int.{ints}
use Rattle.enc_tables.specs.declared.records.PlanStep.{PlanStep}
use Rattle.enc_tables.specs.declared.records.SliceKind.{SliceKind}
use Rattle.enc_tables.specs.declared.records.SliceKind.TheVariants.{I, P, B}
use Rattle.spec_film.specs.Films.{Planes}
use Rattle.spec_words.specs.declared.command.Settings.{Settings}
use Rattle.spec_headers.specs.Heads.{idr_head, other_head}
use Rattle.spec_lists.specs.References.{Reference as Shown}
use Rattle.spec_lists.specs.Orders.{Falling}
use Rattle.spec_lists.specs.Lists.{Lists as ShownLists, no_lists, lists_of}
use Rattle.spec_lists.proofs.Sorted.{b_before, b_behind, b_lists}
use Rattle.spec_partitions.specs.InRange.{HasEntries}
use Rattle.spec_plan.specs.Marks.{mark, KindFits}
use Rattle.spec_plan.proofs.Held.{all_marked}
use Rattle.spec_tasks.specs.Entries.{entries0, entries1}
use Rattle.spec_tasks.specs.Choosing.{head_by}
use Rattle.spec_film_coder.specs.Pictures.{head_at}
use Rattle.spec_film_coder.specs.Sound.{StepFits, InterFits}
use Rattle.ref_lists.specs.declared.held.Reference.{Reference}
use Rattle.ref_lists.specs.declared.naming.Lists.{Lists}
use Rattle.ref_lists.specs.declared.store.RefStore.{RefStore}
use Rattle.ref_lists.specs.Held.{all_seen, natural, AreHeld, IsOrigin}
use Rattle.ref_lists.specs.Entries.{next_number, ArePlaces, AreShownInTurn, AreInOrder}
use Rattle.ref_lists.specs.Named.{named, lists_at, AreOfP}
use Rattle.ref_lists.specs.Stored.{references_of, held_of, width_of, height_of}
use Rattle.picture_coder.specs.declared.coder.PictureCoder.{PictureCoder}
use Rattle.picture_coder.specs.declared.job.Job.{Job}
use Rattle.picture_coder.specs.Jobs.{held_in}
use Rattle.picture_coder.specs.Coders.{IsFor}
use Rattle.enc_session.specs.Asking.{GoesWith, MayFollow, IsSource}
use Rattle.enc_session.specs.Listing.{MovedLeft}
use Rattle.enc_session.proofs.Listed.{count_by, plain_told}

-- ---- order counts

natural_is : (z : ℤ) → pos 0 ≤ℤ z → pos (natural z) ≡ z
natural_is (pos n) h = refl
natural_is (negsuc n) h = absurd (omega (arith, ints, h))

natural_less : (a b : ℤ) → pos 0 ≤ℤ a → a <ℤ b → natural a < natural b
natural_less a b h k =
    let x = natural_is a h in
    let y = natural_is b (omega (arith, ints, h, k)) in
    omega (arith, ints, x, y, k)

below_seen : (r : Reference) (rs : List Reference) → AllByRecursion (λ q. pos 0 ≤ℤ q.poc) rs → AllByRecursion (λ q. q.poc <ℤ r.poc) rs → AllByRecursion (λ (q : Shown). q.poc < natural r.poc) (all_seen rs)
below_seen r [] o h = tt
below_seen r (q ∷ qs) o h = (natural_less q.poc r.poc o.0 h.0, below_seen r qs o.1 h.1)

pub falls_seen : (rs : List Reference) → AllByRecursion (λ q. pos 0 ≤ℤ q.poc) rs → AreShownInTurn rs → Falling (λ r. r.poc) (all_seen rs)
falls_seen [] o h = tt
falls_seen (r ∷ rs) o h = (below_seen r rs o.1 h.0, falls_seen rs o.1 h.1)

-- ---- steps

idr_kind : (b : Bool) (kind : SliceKind) (st : PlanStep) → b ≡ true → StepFits b kind st → kind ≡ I
idr_kind true kind st e f = f.0
idr_kind false kind st e f = absurd cc

inter_kind : (b : Bool) (kind : SliceKind) (st : PlanStep) → b ≡ false → StepFits b kind st → InterFits kind
inter_kind true kind st e f = absurd cc
inter_kind false kind st e f = f.0

frame_small : (b : Bool) (k : SliceKind) (st : PlanStep) → b ≡ false → InterFits k → StepFits b st.kind st → st.frame_num < 65536
frame_small true k st e inter f = absurd cc
frame_small false k st e inter f = f.1

-- ---- lists

-- the lists and the command are those of a step's headers
pub record ListsFit (store : RefStore) (st : PlanStep) (l : Lists) (moved : Option ℕ) : Type 0 where
  pub held : l.held.now ≡ references_of store
  pub first : ArePlaces (length l.held.now) l.list0.items
  pub second : ArePlaces (length l.held.now) l.list1.items
  pub count0 : length l.list0.items ≡ entries0 st.kind (held_of store)
  pub count1 : length l.list1.items ≡ entries1 st.kind
  pub told : (n : ℕ) → lists_of (head_at st (held_of store) n moved 0 0) (held_of store) ≡ Some (named l)

idr_told : (st : PlanStep) (held : List Shown) (l : ShownLists) (n : ℕ) (moved : Option ℕ) → st.idr ≡ true → l ≡ no_lists → lists_of (head_at st held n moved 0 0) held ≡ Some l
unfolding idr_head lists_of
idr_told st held l n moved i e =
    ap (λ (b : Bool). lists_of (if b then idr_head 0 0 (n % 2) 0 0 true else head_by st held moved 0 0) held) i ∙ ap (λ (x : ShownLists). Some x) (sym e)

other_told : (st : PlanStep) (held : List Shown) (l : ShownLists) (n : ℕ) (moved : Option ℕ) → st.idr ≡ false → lists_of (head_by st held moved 0 0) held ≡ Some l → lists_of (head_at st held n moved 0 0) held ≡ Some l
other_told st held l n moved i e = ap (λ (b : Bool). lists_of (if b then idr_head 0 0 (n % 2) 0 0 true else head_by st held moved 0 0) held) i ∙ e

some_marked : (rs : List Shown) → 1 ≤ length (map mark rs) → 1 ≤ length rs
some_marked [] h = h
some_marked (r ∷ rs) h = omega arith

b_told : (st : PlanStep) (held : List Shown) → st.kind ≡ B → KindFits B st.poc st.frame_num (map mark held) → Falling (λ r. r.poc) held → lists_of (head_by st held None 0 0) held ≡ Some (lists_at B st.poc held)
unfolding other_head
b_told st [] k f falls = absurd f
b_told st (new ∷ rs) k f falls =
    let low = all_marked (λ m. m.0 < st.poc) rs f.2 in
    let many : entries0 st.kind (new ∷ rs) ≡ length rs = ap (λ (x : SliceKind). entries0 x (new ∷ rs)) k ∙ (let e : length (new ∷ rs) - 1 ≡ length rs = omega arith in e) in
    b_lists (head_by st (new ∷ rs) None 0 0) new rs k many (ap entries1 k) refl (some_marked rs f.0) f.1 low falls.1
    ∙ ap₂ (λ (xs ys : List Shown). let x : ShownLists = record { list0 = xs; list1 = take 1 ys } in Some x) (sym (b_before st.poc new rs f.1 low falls.1)) (sym (b_behind st.poc new rs f.1 low))

-- by the kind of the step
abbrev ByKind : SliceKind → RefStore → PlanStep → Lists → Type 0
ByKind k store st l = KindFits k st.poc st.frame_num (map mark (held_of store)) → InterFits k → named l ≡ lists_at k st.poc (held_of store) → (k ≡ P → AreOfP l) → lists_of (head_by st (held_of store) None 0 0) (held_of store) ≡ Some (named l)

flat_by : (k : SliceKind) (store : RefStore) (st : PlanStep) (l : Lists) → st.kind ≡ k → st.idr ≡ false → MayFollow store st → l.held.now ≡ references_of store → AreInOrder (references_of store) → ByKind k store st l
unfolding other_head
flat_by I store st l e i m h o fits inter is p = absurd inter
flat_by P store st l e i m h o fits inter is p =
    subst (λ (rs : List Reference). lists_of (head_by st (all_seen rs) None 0 0) (all_seen rs) ≡ Some (named l)) h
    (plain_told l (p refl) (head_by st (all_seen l.held.now) None 0 0) e
    (subst (λ (rs : List Reference). st.frame_num ≡ next_number (all_seen rs)) (sym h) (m.number i))
    (ap (λ (x : SliceKind). entries0 x (all_seen l.held.now)) e) (ap entries1 e) refl (frame_small st.idr P st i inter m.step))
flat_by B store st l e i m h o fits inter is p = b_told st (held_of store) e fits (falls_seen (references_of store) m.origin o.1) ∙ ap (λ (x : ShownLists). Some x) (sym is)

-- how many entries there are
record AreCounted (k : SliceKind) (held : List Shown) (l : Lists) : Type 0 where
  pub count0 : length l.list0.items ≡ entries0 k held
  pub count1 : length l.list1.items ≡ entries1 k

b_lists_at : (st : PlanStep) (held : List Shown) → KindFits B st.poc st.frame_num (map mark held) → Falling (λ r. r.poc) held → (length (lists_at B st.poc held).list0 ≡ entries0 B held) × (length (lists_at B st.poc held).list1 ≡ 1)
b_lists_at st [] f falls = absurd f
b_lists_at st (new ∷ rs) f falls =
    let low = all_marked (λ m. m.0 < st.poc) rs f.2 in
    let one : length rs ≡ length (new ∷ rs) - 1 = omega arith in (
      ap (λ (xs : List Shown). length xs) (b_before st.poc new rs f.1 low falls.1) ∙ one,
      ap (λ (xs : List Shown). length (take 1 xs)) (b_behind st.poc new rs f.1 low),
    )

counted_by : (k : SliceKind) (store : RefStore) (st : PlanStep) (l : Lists) → MayFollow store st → KindFits k st.poc st.frame_num (map mark (held_of store)) → l.held.now ≡ references_of store → AreInOrder (references_of store) → named l ≡ lists_at k st.poc (held_of store) → (k ≡ P → AreOfP l)
    → ArePlaces (length l.held.now) l.list0.items → ArePlaces (length l.held.now) l.list1.items → AreCounted k (held_of store) l
counted_by I store st l m fits h o is p first second = record {
  count0 = count_by l.held.now l.list0.items 0 first (ap (λ (x : ShownLists). length x.list0) is);
  count1 = count_by l.held.now l.list1.items 0 second (ap (λ (x : ShownLists). length x.list1) is);
}
counted_by P store st l m fits h o is p first second = record {
  count0 = count_by l.held.now l.list0.items (length (held_of store)) first (ap (λ (xs : List Shown). length xs) ((p refl).list0) ∙ ap (λ (rs : List Reference). length (all_seen rs)) h);
  count1 = ap (λ (ks : List ℕ). length ks) ((p refl).list1);
}
counted_by B store st l m fits h o is p first second =
    let c = b_lists_at st (held_of store) fits (falls_seen (references_of store) m.origin o.1) in
    record {
      count0 = count_by l.held.now l.list0.items (entries0 B (held_of store)) first (ap (λ (x : ShownLists). length x.list0) is ∙ c.0);
      count1 = count_by l.held.now l.list1.items 1 second (ap (λ (x : ShownLists). length x.list1) is ∙ c.1);
    }

-- the lists that the store makes, without a command
pub flat_fits : (store : RefStore) (st : PlanStep) (poc : ℤ) (l : Lists) → poc ≡ pos st.poc → MayFollow store st → l.held.now ≡ references_of store → AreInOrder l.held.now
    → (IsOrigin (pos 0) poc (references_of store) → named l ≡ lists_at st.kind (natural poc) (held_of store)) → (st.kind ≡ P → AreOfP l)
    → ArePlaces (length l.held.now) l.list0.items × ArePlaces (length l.held.now) l.list1.items → ListsFit store st l None
flat_fits store st poc l count m h o is p inside = record { held = h; first = inside.0; second = inside.1; count0 = counted.count0; count1 = counted.count1; told = λ n. by n st.idr refl }
  where
    are : named l ≡ lists_at st.kind st.poc (held_of store)
    are = subst (λ (z : ℤ). IsOrigin (pos 0) z (references_of store) → named l ≡ lists_at st.kind (natural z) (held_of store)) count is (omega (arith, ints), m.origin)

    counted : AreCounted st.kind (held_of store) l
    counted = counted_by st.kind store st l m m.marks h (subst AreInOrder h o) are p inside.0 inside.1

    by : (n : ℕ) (b : Bool) → st.idr ≡ b → lists_of (head_at st (held_of store) n None 0 0) (held_of store) ≡ Some (named l)
    by n true i = idr_told st (held_of store) (named l) n None i (are ∙ ap (λ (k : SliceKind). lists_at k st.poc (held_of store)) (idr_kind st.idr st.kind st i m.step))
    by n false i =
        other_told st (held_of store) (named l) n None i
        (flat_by st.kind store st l refl i m h (subst AreInOrder h o) m.marks (inter_kind st.idr st.kind st i m.step) are p)

-- with the command of the picture
moved_by : (k : SliceKind) (store : RefStore) (st : PlanStep) (source : Planes) (l n : Lists) (moved : Option ℕ) → st.kind ≡ k → MayFollow store st → ListsFit store st l None → MovedLeft k source l n moved → ListsFit store st n moved
unfolding other_head
moved_by I store st source l n moved e m f h = subst (λ (x : Lists). ListsFit store st x moved) (sym h.0) (subst (λ (o : Option ℕ). ListsFit store st l o) (sym h.1) f)
moved_by B store st source l n moved e m f h = subst (λ (x : Lists). ListsFit store st x moved) (sym h.0) (subst (λ (o : Option ℕ). ListsFit store st l o) (sym h.1) f)
moved_by P store st source l n moved e m f h = record {
  held = held;
  first = h.first;
  second = subst (λ (ks : List ℕ). ArePlaces (length n.held.now) ks) (sym h.second) tt;
  count0 = h.long ∙ ap (λ (rs : List Reference). length (all_seen rs)) f.held ∙ sym (ap (λ (x : SliceKind). entries0 x (held_of store)) e);
  count1 = ap (λ (ks : List ℕ). length ks) h.second ∙ sym (ap entries1 e);
  told = λ k. other_told st (held_of store) (named n) k moved idr
      (subst (λ (rs : List Reference). lists_of (head_by st (all_seen rs) moved 0 0) (all_seen rs) ≡ Some (named n)) f.held
      (h.lists (head_by st (all_seen l.held.now) moved 0 0) e
      (subst (λ (rs : List Reference). st.frame_num ≡ next_number (all_seen rs)) (sym f.held) (m.number idr))
      (ap (λ (x : SliceKind). entries0 x (all_seen l.held.now)) e) (ap entries1 e) refl));
}
  where
    held : n.held.now ≡ references_of store
    held = ap (λ r. r.now) h.held ∙ f.held

    not_i : P ≡ I → ⊥
    not_i e = absurd cc

    by : (b : Bool) → st.idr ≡ b → st.idr ≡ false
    by false i = i
    by true i = absurd (not_i (sym e ∙ idr_kind st.idr st.kind st i m.step))

    idr : st.idr ≡ false
    idr = by st.idr refl

pub moved_fits : (store : RefStore) (st : PlanStep) (source : Planes) (l n : Lists) (moved : Option ℕ) → MayFollow store st → ListsFit store st l None → MovedLeft st.kind source l n moved → ListsFit store st n moved
moved_fits store st source l n moved m f h = moved_by st.kind store st source l n moved refl m f h

-- ---- jobs

entries_by : (k : SliceKind) (poc number : ℕ) (held : List Shown) → KindFits k poc number (map mark held) → HasEntries k (entries0 k held) (entries1 k)
unfolding HasEntries
entries_by I poc number held f = tt
entries_by P poc number held f = some_marked held f.0
entries_by B poc number [] f = absurd f
entries_by B poc number (new ∷ rs) f = let s = some_marked rs f.0 in (omega (arith, s), lit< tt)

two : (n : ℕ) → n % 2 ≤ 1
two n = omega arith

pub is_for : (c : PictureCoder) (store : RefStore) (st : PlanStep) (l : Lists) (moved : Option ℕ) (s : Settings) (j : Job) (idrs : ℕ) → GoesWith c s store → MayFollow store st → ListsFit store st l moved → AreHeld (width_of store) (height_of store) (references_of store) → IsSource c j.source.now
    → j.lists.now ≡ l → j.step ≡ st → j.idr_id ≡ idrs % 2 → j.slices ≡ s.slices → j.workers ≡ s.workers → j.range ≡ s.range → j.moved ≡ moved → IsFor c j
is_for c store st l moved s j idrs g m f held source el es ei en ew er em = record {
  job = record {
    source = source.sizes;
    filled = source.filled;
    step = subst (λ (x : PlanStep). StepFits x.idr x.kind x) (sym es) m.step;
    idr_id = subst (λ (n : ℕ). n ≤ 1) (sym ei) (two idrs);
    range_some = subst (λ (n : ℕ). 1 ≤ n) (sym er) g.range_some;
    range_fits = subst (λ (n : ℕ). n ≤ 32) (sym er) g.range_fits;
    held = subst (λ (x : Lists). AreHeld (16 * c.across) (16 * c.down) x.held.now) (sym el)
        (subst (λ (w : ℕ). AreHeld w (16 * c.down) l.held.now) g.width (subst (λ (h : ℕ). AreHeld (width_of store) h l.held.now) g.height
        (subst (λ (rs : List Reference). AreHeld (width_of store) (height_of store) rs) (sym f.held) held)));
    origin = subst (λ (x : PlanStep). IsOrigin (pos 0) (pos x.poc) j.lists.now.held.now) (sym es)
        (subst (λ (x : Lists). IsOrigin (pos 0) (pos st.poc) x.held.now) (sym el) (omega (arith, ints), subst (λ (rs : List Reference). AllByRecursion (λ r. pos 0 ≤ℤ r.poc) rs) (sym f.held) m.origin));
    first = subst (λ (x : Lists). ArePlaces (length x.held.now) x.list0.items) (sym el) f.first;
    second = subst (λ (x : Lists). ArePlaces (length x.held.now) x.list1.items) (sym el) f.second;
    lists = subst (λ (o : Option ℕ). lists_of (head_at j.step (held_in j) j.idr_id o 0 0) (held_in j) ≡ Some (named j.lists.now)) (sym em)
        (subst (λ (x : PlanStep). lists_of (head_at x (held_in j) j.idr_id moved 0 0) (held_in j) ≡ Some (named j.lists.now)) (sym es)
        (subst (λ (x : Lists). lists_of (head_at st (all_seen x.held.now) j.idr_id moved 0 0) (all_seen x.held.now) ≡ Some (named x)) (sym el)
        (subst (λ (rs : List Reference). lists_of (head_at st (all_seen rs) j.idr_id moved 0 0) (all_seen rs) ≡ Some (named l)) (sym f.held) (f.told j.idr_id))));
    count0 = ap (λ (x : Lists). length x.list0.items) el ∙ f.count0 ∙ sym (ap (λ (x : PlanStep). entries0 x.kind (held_in j)) es ∙ ap (λ (x : Lists). entries0 st.kind (all_seen x.held.now)) el ∙ ap (λ (rs : List Reference). entries0 st.kind (all_seen rs)) f.held);
    count1 = ap (λ (x : Lists). length x.list1.items) el ∙ f.count1 ∙ sym (ap (λ (x : PlanStep). entries1 x.kind) es);
    entries = subst (λ (x : PlanStep). HasEntries x.kind (entries0 x.kind (held_in j)) (entries1 x.kind)) (sym es)
        (subst (λ (x : Lists). HasEntries st.kind (entries0 st.kind (all_seen x.held.now)) (entries1 st.kind)) (sym el)
        (subst (λ (rs : List Reference). HasEntries st.kind (entries0 st.kind (all_seen rs)) (entries1 st.kind)) (sym f.held) (entries_by st.kind st.poc st.frame_num (held_of store) m.marks)));
  };
  slices_are = en ∙ sym g.slices;
  workers_are = ew ∙ sym g.workers;
}

pub held_in_store : (store : RefStore) (l : Lists) → l.held.now ≡ references_of store → AreHeld (width_of store) (height_of store) l.held.now → AreHeld (width_of store) (height_of store) (references_of store)
held_in_store store l e h = subst (λ (rs : List Reference). AreHeld (width_of store) (height_of store) rs) e h
