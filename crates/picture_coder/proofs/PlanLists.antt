-- The lists that a picture's headers make have the entries that these tell, and the search of its plans goes over all of them.
use Rattle.std.proofs.Common.{◌≡◌, ◌≤◌, ◌<◌, ◌+◌, ◌%◌, ℕ, zero, suc, Bool, true, false, cond, List, [], ◌∷◌, length, take, Option, Some, None, refl, sym, ap, subst, ◌∙◌, arith, length-take-le}
use Rattle.std.specs.Prelude.{nat_le, option_and_then}
use Rattle.std.specs.Option.{option_map}
use Rattle.std.specs.List.{find}
use Rattle.std.proofs.lemmas.Bool.Decides.{nat_tests}
use Rattle.enc_tables.specs.declared.records.PlanStep.{PlanStep}
use Rattle.enc_tables.specs.declared.records.SliceKind.{SliceKind}
use Rattle.enc_tables.specs.declared.records.SliceKind.TheVariants.{I, P, B}
use Rattle.spec_film.specs.Films.{Planes}
use Rattle.spec_headers.specs.declared.heads.SliceHead.{SliceHead}
use Rattle.spec_headers.specs.Heads.{idr_head, other_head}
use Rattle.spec_lists.specs.References.{Reference}
use Rattle.spec_lists.specs.Lists.{Lists, no_lists, is_so_far, in_front, initial0, initial1, cut, modified, lists_of}
use Rattle.spec_partitions.specs.InRange.{HasEntries}
use Rattle.spec_reconstruction.specs.Inter.{Sources}
use Rattle.spec_inter_plans.specs.InterPlans.{Search, picture_compared}
use Rattle.spec_tasks.specs.Entries.{entries0, entries1, command_of}
use Rattle.spec_tasks.specs.Choosing.{head_by, sources_of, search_by}
use Rattle.spec_decoder.specs.Frames.{lists_by, or_none}
use Rattle.spec_film_coder.specs.Pictures.{Shape, format, head_at, lists_at, compared_at}
use Rattle.spec_film_coder.specs.Sound.{StepFits}
use Rattle.mode_choice.specs.Given.{used, used_lists}

-- ---- the lists of a header

nothing : {X : Type 0} {A : Type 0} (x : A) → None ≡ Some x → X
nothing x e = let no : None ≡ Some x = e in absurd cc

inner : {A : Type 0} (x y : A) → Some x ≡ Some y → x ≡ y
inner x y e = cc

cut_long : (n : ℕ) (xs l : List Reference) → cut n xs ≡ Some l → length l ≡ n
cut_long n xs l e = by (nat_le n (length xs)) refl e
  where
    by : (b : Bool) → nat_le n (length xs) ≡ b → cond b (Some (take n xs)) None ≡ Some l → length l ≡ n
    by true there h =
        let less : n ≤ length xs = grind (arith, nat_tests) in
        ap (λ (zs : List Reference). length zs) (sym (inner (take n xs) l h)) ∙ length-take-le n xs less
    by false there h = nothing l h

front_some : (n : ℕ) (is : Reference → Bool) (list : List Reference) (r : Reference) → 0 < n → 0 < length (in_front n is list r)
front_some zero is list r some = absurd (omega (arith, some))
front_some (suc n) is list r some = omega arith

moved_some : (h : SliceHead) (held : List Reference) (moved : Option ℕ) (list l : List Reference) → 0 < h.refs0 → length list ≡ h.refs0 → modified h held moved list ≡ Some l → 0 < length l
moved_some h held None list l some long e = let same = ap (λ (zs : List Reference). length zs) (inner list l e) in omega (arith, same, long, some)
moved_some h held (Some d) list l some long e = by (find (is_so_far h.frame_num (d + 1)) held) e
  where
    by : (o : Option Reference) → option_map (in_front h.refs0 (is_so_far h.frame_num (d + 1)) list) o ≡ Some l → 0 < length l
    by None e = nothing l e
    by (Some r) e = subst (λ (zs : List Reference). 0 < length zs) (inner (in_front h.refs0 (is_so_far h.frame_num (d + 1)) list r) l e) (front_some h.refs0 (is_so_far h.frame_num (d + 1)) list r some)

abbrev made : List Reference → List Reference → Lists
made list0 list1 = record { list0 = list0; list1 = list1 }

-- each list has the entries that the header tells; list 0 at least one, where it tells any
record AreTold (h : SliceHead) (lists : Lists) : Type 0 where
  first : 0 < h.refs0 → 0 < length lists.list0
  second : length lists.list1 ≡ h.refs1

told_by : (h : SliceHead) (held : List Reference) (lists : Lists) (c : Option (List Reference)) (d : Option (List Reference)) → ((l : List Reference) → c ≡ Some l → length l ≡ h.refs0) → ((l : List Reference) → d ≡ Some l → length l ≡ h.refs1)
    → option_and_then (λ list0. option_map (made list0) d) (option_and_then (modified h held h.moved) c) ≡ Some lists → AreTold h lists
told_by h held lists None d f g e = nothing lists e
told_by h held lists (Some list) d f g e = by (modified h held h.moved list) refl e
  where
    end : (l k : List Reference) → modified h held h.moved list ≡ Some l → d ≡ Some k → made l k ≡ lists → AreTold h lists
    end l k m n same = record {
      first = λ some. subst (λ (x : Lists). 0 < length x.list0) same (moved_some h held h.moved list l some (f list refl) m);
      second = ap (λ (x : Lists). length x.list1) (sym same) ∙ g k n;
    }

    last : (l : List Reference) (o : Option (List Reference)) → modified h held h.moved list ≡ Some l → d ≡ o → option_map (made l) o ≡ Some lists → AreTold h lists
    last l None m n e = nothing lists e
    last l (Some k) m n e = end l k m n (inner (made l k) lists e)

    by : (o : Option (List Reference)) → modified h held h.moved list ≡ o → option_and_then (λ list0. option_map (made list0) d) o ≡ Some lists → AreTold h lists
    by None m e = nothing lists e
    by (Some l) m e = last l d m refl e

told : (h : SliceHead) (held : List Reference) (lists : Lists) → lists_of h held ≡ Some lists → AreTold h lists
unfolding lists_of
told h held lists e =
    told_by h held lists (cut h.refs0 (initial0 h h.kind held)) (cut h.refs1 (initial1 h h.kind held))
    (λ l n. cut_long h.refs0 (initial0 h h.kind held) l n) (λ l n. cut_long h.refs1 (initial1 h h.kind held) l n) e

-- ---- by the step

abbrev head : Bool → PlanStep → List Reference → ℕ → Option ℕ → SliceHead
head idr st held number moved = cond idr (idr_head 0 0 (number % 2) 0 0 true) (head_by st held moved 0 0)

-- lists of an IDR picture
none_of : (st : PlanStep) (held : List Reference) (number : ℕ) (moved : Option ℕ) → lists_of (head true st held number moved) held ≡ Some no_lists
unfolding idr_head lists_of
none_of st held number moved = refl

first_told : (st : PlanStep) (held : List Reference) (number : ℕ) (moved : Option ℕ) (lists : Lists) → AreTold (head false st held number moved) lists → 0 < entries0 st.kind held → 0 < length lists.list0
unfolding other_head
first_told st held number moved lists t = t.first

second_told : (st : PlanStep) (held : List Reference) (number : ℕ) (moved : Option ℕ) (lists : Lists) → AreTold (head false st held number moved) lists → length lists.list1 ≡ entries1 st.kind
unfolding other_head
second_told st held number moved lists t = t.second

-- the lists have the entries that a picture of its kind needs
entries_by : (idr : Bool) (kind : SliceKind) (st : PlanStep) (held : List Reference) (number : ℕ) (moved : Option ℕ) (lists : Lists) → st.kind ≡ kind → StepFits idr kind st → lists_of (head idr st held number moved) held ≡ Some lists
    → HasEntries kind (entries0 kind held) (entries1 kind) → HasEntries kind (length lists.list0) (length lists.list1)
unfolding HasEntries
entries_by idr I st held number moved lists k fits e some = tt
entries_by true P st held number moved lists k fits e some = let no : P ≡ I = fits.0 in absurd cc
entries_by true B st held number moved lists k fits e some = let no : B ≡ I = fits.0 in absurd cc
entries_by false P st held number moved lists k fits e some =
    first_told st held number moved lists (told (head false st held number moved) held lists e) (subst (λ (x : SliceKind). 0 < entries0 x held) (sym k) some)
entries_by false B st held number moved lists k fits e some =
    let t = told (head false st held number moved) held lists e in
    let one = second_told st held number moved lists t ∙ ap entries1 k in
    (first_told st held number moved lists t (subst (λ (x : SliceKind). 0 < entries0 x held) (sym k) some.0), omega (arith, one))

pub has_entries : (st : PlanStep) (held : List Reference) (number : ℕ) (moved : Option ℕ) (lists : Lists) (m n : ℕ) → StepFits st.idr st.kind st → lists_of (head_at st held number moved 0 0) held ≡ Some lists
    → HasEntries st.kind (entries0 st.kind held) (entries1 st.kind) → length lists.list0 ≡ m → length lists.list1 ≡ n → HasEntries st.kind m n
has_entries st held number moved lists m n fits e some a b =
    subst (λ (k : ℕ). HasEntries st.kind m k) b (subst (λ (k : ℕ). HasEntries st.kind k (length lists.list1)) a
    (entries_by st.idr st.kind st held number moved lists refl fits e some))

-- ---- how many vectors are compared

no_more : (xs : List Reference) → length xs ≡ 0 → xs ≡ []
no_more [] e = refl
no_more (x ∷ xs) e = absurd (omega (arith, e))

-- a picture of its kind uses all pictures of its lists
used_by : (idr : Bool) (kind : SliceKind) (st : PlanStep) (held : List Reference) (number : ℕ) (moved : Option ℕ) (lists : Lists) → st.kind ≡ kind → StepFits idr kind st → lists_of (head idr st held number moved) held ≡ Some lists
    → used_lists kind (sources_of lists) ≡ sources_of lists
used_by true I st held number moved lists k fits e = ap sources_of (inner no_lists lists (sym (none_of st held number moved) ∙ e))
used_by false I st held number moved lists k fits e = absurd fits.0
used_by true P st held number moved lists k fits e = let no : P ≡ I = fits.0 in absurd cc
used_by true B st held number moved lists k fits e = let no : B ≡ I = fits.0 in absurd cc
used_by false P st held number moved lists k fits e =
    let t = told (head false st held number moved) held lists e in
    let none : lists.list1 ≡ [] = no_more lists.list1 (second_told st held number moved lists t ∙ ap entries1 k) in
    ap (λ (l : List Reference). sources_of (made lists.list0 l)) (sym none)
used_by false B st held number moved lists k fits e = refl

-- the number of IDR pictures before a picture doesn't change its lists
other_number : (idr : Bool) (st : PlanStep) (held : List Reference) (m n : ℕ) (moved : Option ℕ) → lists_of (head idr st held m moved) held ≡ lists_of (head idr st held n moved) held
unfolding idr_head lists_of
other_number true st held m n moved = refl
other_number false st held m n moved = refl

pub lists_are : (st : PlanStep) (held : List Reference) (number : ℕ) (moved : Option ℕ) (source : Planes) (lists : Lists) → moved ≡ command_of st.kind st.frame_num source held → lists_of (head_at st held number moved 0 0) held ≡ Some lists
    → lists ≡ lists_at st held source
lists_are st held number moved source lists m e =
    let command = command_of st.kind st.frame_num source held in
    ap or_none (sym e)
    ∙ ap (λ (c : Option ℕ). lists_by (head_at st held number c 0 0) held) m
    ∙ ap or_none (other_number st.idr st held number 0 command)

pub compared_is : (s : Shape) (st : PlanStep) (held : List Reference) (number : ℕ) (moved : Option ℕ) (source : Planes) (lists : Lists) → StepFits st.idr st.kind st → moved ≡ command_of st.kind st.frame_num source held
    → lists_of (head_at st held number moved 0 0) held ≡ Some lists → picture_compared (used st.kind (search_by (format s) lists source s.range)) s.down ≡ compared_at s held st source
unfolding compared_at
compared_is s st held number moved source lists fits m e =
    ap (λ (t : Sources). picture_compared (let x : Search = record { across = s.across; sources = t; source = source; range = s.range } in x) s.down) (used_by st.idr st.kind st held number moved lists refl fits e)
    ∙ ap (λ (l : Lists). picture_compared (search_by (format s) l source s.range) s.down) (lists_are st held number moved source lists m e)
