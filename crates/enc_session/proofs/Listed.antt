-- The lists of a P picture with the command of its source.
use Rattle.std.proofs.Common.{ℕ, ◌+◌, ◌≡◌, ◌≤◌, ◌<◌, le_refl, List, [], ◌∷◌, length, find, IsSome, IfSome, Option, Some, None, refl, ap, ap₂, sym, subst, ◌∙◌, arith}
use Rattle.std.specs.List.{AllByRecursion}
use Rattle.enc_tables.specs.declared.records.SliceKind.TheVariants.{P}
use Rattle.spec_film.specs.Films.{Planes}
use Rattle.spec_headers.specs.declared.heads.SliceHead.{SliceHead}
use Rattle.spec_lists.specs.References.{Reference as Shown}
use Rattle.spec_lists.specs.Orders.{Falling}
use Rattle.spec_lists.specs.Lists.{Lists as ShownLists, is_so_far, in_front, lists_of}
use Rattle.spec_lists.specs.Reordering.{moved_for}
use Rattle.spec_lists.proofs.Sorted.{p_lists}
use Rattle.spec_lists.proofs.Moved.{Found, moved_lists, command_found}
use Rattle.spec_tasks.specs.Entries.{command_of}
use Rattle.ref_lists.specs.declared.naming.Lists.{Lists}
use Rattle.ref_lists.specs.Held.{all_seen, Counts}
use Rattle.ref_lists.specs.Entries.{entries, next_number, ArePlaces}
use Rattle.ref_lists.specs.Named.{named, AreOfP}
use Rattle.ref_lists.proofs.Sorting.{numbered}
use Rattle.ref_lists.specs.declared.held.Reference.{Reference}
use Rattle.ref_lists.proofs.Entering.{length-seen, length-entries}
use Rattle.spec_film_coder.proofs.Moved.{in_front_long}
use Rattle.ref_lists.specs.Held.{seen}
use Rattle.enc_session.specs.Listing.{IsReordered}

pub counts_low : (m n : ℕ) (rs : List Shown) → Counts n rs → n ≤ m → AllByRecursion (λ r. r.frame_num < m) rs
counts_low m n [] c h = tt
counts_low m n (r ∷ rs) c h = (omega (arith, c.0, h), counts_low m r.frame_num rs c.1 (omega (arith, c.0, h)))

pub counts_fall : (n : ℕ) (rs : List Shown) → Counts n rs → Falling (λ r. r.frame_num) rs
counts_fall n [] c = tt
counts_fall n (r ∷ rs) c = (counts_low r.frame_num r.frame_num rs c.1 (le_refl r.frame_num), counts_fall r.frame_num rs c.1)

-- how many entries places have
pub count_by : (held : List Reference) (ks : List ℕ) (n : ℕ) → ArePlaces (length held) ks → length (entries (all_seen held) ks) ≡ n → length ks ≡ n
count_by held ks n places e = sym (length-entries (all_seen held) ks (subst (λ (m : ℕ). ArePlaces m ks) (sym (length-seen seen held)) places)) ∙ e

-- the command is that of the held references
pub command_seen : (l : Lists) (source : Planes) (o : Option ℕ) → AreOfP l → o ≡ moved_for (next_number (named l).list0) source.luma (named l).list0
    → o ≡ command_of P (next_number (all_seen l.held.now)) source (all_seen l.held.now)
command_seen l source o p e =
    let shown : List Shown = all_seen l.held.now in
    e ∙ ap (λ (zs : List Shown). moved_for (next_number zs) source.luma zs) p.list0
    ∙ sym (ap (λ (zs : List Shown). moved_for (next_number shown) source.luma zs) (numbered shown p.order.0 (omega (arith, length-seen seen l.held.now, p.few))))

found_in : (l : Lists) (source : List ℕ) (d : ℕ) (o : Option ℕ) → AreOfP l → next_number (all_seen l.held.now) < 65536 → o ≡ moved_for (next_number (named l).list0) source (named l).list0 → o ≡ Some d
    → Found (is_so_far (next_number (all_seen l.held.now)) (d + 1)) (all_seen l.held.now)
found_in l source d o p small e s =
    let shown : List Shown = all_seen l.held.now in
    command_found (next_number shown) d source shown small (counts_low (next_number shown) (next_number shown) shown p.order.0 (le_refl (next_number shown)))
    (sym (ap (λ (zs : List Shown). moved_for (next_number zs) source zs) p.list0) ∙ sym e ∙ s)

some_is : (o : Option Shown) (r : Shown) → o ≡ Some r → IsSome o
some_is o r e = subst (λ (x : Option Shown). IsSome x) (sym e) refl

pub there : (l : Lists) (source : List ℕ) (d : ℕ) (o : Option ℕ) → AreOfP l → next_number (all_seen l.held.now) < 65536 → o ≡ moved_for (next_number (named l).list0) source (named l).list0 → o ≡ Some d
    → IsSome (find (is_so_far (next_number (named l).list0) (d + 1)) (named l).list0)
there l source d o p small e s =
    let f = found_in l source d o p small e s in
    subst (λ (zs : List Shown). IsSome (find (is_so_far (next_number zs) (d + 1)) zs)) (sym p.list0) (some_is (find (is_so_far (next_number (all_seen l.held.now)) (d + 1)) (all_seen l.held.now)) f.one f.first)

none_entered : (held : List Shown) (ks : List ℕ) → ks ≡ [] → entries held ks ≡ []
unfolding entries
none_entered held ks e = ap (entries held) e

-- without a command
pub plain_told : (l : Lists) → AreOfP l → (h : SliceHead) → h.kind ≡ P → h.frame_num ≡ next_number (all_seen l.held.now) → h.refs0 ≡ length (all_seen l.held.now) → h.refs1 ≡ 0 → h.moved ≡ None → h.frame_num < 65536
    → lists_of h (all_seen l.held.now) ≡ Some (named l)
plain_told l p h kind number refs0 refs1 moved small =
    let shown : List Shown = all_seen l.held.now in
    p_lists h shown kind refs0 refs1 moved small
    (subst (λ (n : ℕ). AllByRecursion (λ r. r.frame_num < n) shown) (sym number) (counts_low (next_number shown) (next_number shown) shown p.order.0 (le_refl (next_number shown))))
    (counts_fall (next_number shown) shown p.order.0)
    ∙ ap₂ (λ (xs ys : List Shown). let x : ShownLists = record { list0 = xs; list1 = ys } in Some x) (sym p.list0) (sym (none_entered shown l.list1.items p.list1))

pub stays : (source : Planes) (l : Lists) (o : Option ℕ) → AreOfP l → next_number (all_seen l.held.now) < 65536 → o ≡ moved_for (next_number (named l).list0) source.luma (named l).list0 → o ≡ None → IsReordered source l l None
stays source l o p small e s = record {
  held = refl;
  command_is = sym s ∙ command_seen l source o p e;
  lists = λ h kind number refs0 refs1 moved. plain_told l p h kind number refs0 refs1 moved (subst (λ (n : ℕ). n < 65536) (sym number) small);
  first = p.inside;
  second = p.list1;
  long = count_by l.held.now l.list0.items (length (all_seen l.held.now)) p.inside (ap (λ (zs : List Shown). length zs) p.list0);
}

-- what is found is what a lemma says of it
at_found : (F : Shown → Type 0) (o : Option Shown) (r : Shown) → o ≡ Some r → IfSome o F → F r
at_found F None r e h = absurd cc
at_found F (Some x) r e h = let same : x ≡ r = cc in subst F same h

-- behind the command
pub moves : (source : Planes) (l n : Lists) (d : ℕ) (o : Option ℕ) → AreOfP l → next_number (all_seen l.held.now) < 65536 → o ≡ moved_for (next_number (named l).list0) source.luma (named l).list0 → o ≡ Some d
    → n.held ≡ l.held → n.list1.items ≡ [] → ArePlaces (length n.held.now) n.list0.items
    → IfSome (find (is_so_far (next_number (named l).list0) (d + 1)) (named l).list0) (λ r. (named n).list0 ≡ in_front (length (named l).list0) (is_so_far (next_number (named l).list0) (d + 1)) (named l).list0 r)
    → IsReordered source l n (Some d)
moves source l n d o p small e s held none places front =
    let shown : List Shown = all_seen l.held.now in
    let f = found_in l source.luma d o p small e s in
    let at : (named n).list0 ≡ in_front (length shown) (is_so_far (next_number shown) (d + 1)) shown f.one =
    at_found (λ r. (named n).list0 ≡ in_front (length shown) (is_so_far (next_number shown) (d + 1)) shown r) (find (is_so_far (next_number shown) (d + 1)) shown) f.one f.first
    (subst (λ (zs : List Shown). IfSome (find (is_so_far (next_number zs) (d + 1)) zs) (λ r. (named n).list0 ≡ in_front (length zs) (is_so_far (next_number zs) (d + 1)) zs r)) p.list0 front) in
    record {
      held = held;
      command_is = sym s ∙ command_seen l source o p e;
      lists = λ h kind number refs0 refs1 moved.
          let low = subst (λ (k : ℕ). AllByRecursion (λ r. r.frame_num < k) shown) (sym number) (counts_low (next_number shown) (next_number shown) shown p.order.0 (le_refl (next_number shown))) in
          moved_lists h shown d kind refs0 refs1 moved (subst (λ (k : ℕ). k < 65536) (sym number) small) low (counts_fall (next_number shown) shown p.order.0) (record { one = f.one; first = ap (λ (k : ℕ). find (is_so_far k (d + 1)) shown) number ∙ f.first })
          ∙ ap₂ (λ (k m : ℕ). let x : ShownLists = record { list0 = in_front k (is_so_far m (d + 1)) shown f.one; list1 = [] } in Some x) refs0 number
          ∙ ap₂ (λ (xs ys : List Shown). let x : ShownLists = record { list0 = xs; list1 = ys } in Some x) (sym at) (sym (none_entered (all_seen n.held.now) n.list1.items none));
      first = places;
      second = none;
      long = count_by n.held.now n.list0.items (length shown) places (ap (λ (zs : List Shown). length zs) at
          ∙ in_front_long (next_number shown) (d + 1) shown f.one small (counts_low (next_number shown) (next_number shown) shown p.order.0 (le_refl (next_number shown))) (counts_fall (next_number shown) shown p.order.0));
    }
