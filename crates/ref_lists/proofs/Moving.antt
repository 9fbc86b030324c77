-- Held references by their numbers: the one at place k is k + 1 below the picture that follows, so a command names it by k.
use Rattle.std.proofs.Common.{ℕ, zero, suc, ◌+◌, ◌-◌, ◌≡◌, ◌≤◌, ◌<◌, List, [], ◌∷◌, length, map, take, filter, find, get_or, remove, not, IsSome, IfSome, Bool, true, false, cond, Option, Some, None, refl, ap, sym, subst, ◌∙◌, arith}
use Rattle.std.specs.Prelude.{◌==◌, if◌then◌else◌}
use Rattle.std.specs.List.{slice_get}
use Rattle.std.proofs.lemmas.Bool.Decides.{nat_tests}
use Rattle.std.proofs.lemmas.Grind.{common_steps}
use Rattle.std.proofs.lemmas.List.{take_all}
use Rattle.spec_lists.specs.References.{Reference as Shown}
use Rattle.spec_lists.specs.Lists.{number_distance, is_so_far, in_front}
use Rattle.spec_lists.specs.Reordering.{difference, command_for, moved_for, first_least_place}
use Rattle.ref_lists.specs.Held.{Counts}
use Rattle.ref_lists.specs.Entries.{entries, ArePlaces, next_number}
use Rattle.ref_lists.proofs.Sorting.{distance_is}
use Rattle.ref_lists.proofs.Entering.{within, entry_before, entry_is, entries_removed, length-entries}

-- how far the reference at place k is below
pub distance_at : (m n k : ℕ) (rs : List Shown) (r : Shown) → Counts n rs → n ≤ m → m - n + k + 1 < 65536 → slice_get rs k ≡ Some r → number_distance m r ≡ m - n + k + 1
distance_at m n k [] r c l few e = let no : None ≡ Some r = e in absurd cc
distance_at m n zero (q ∷ qs) r c l few e =
    let same : q ≡ r = cc in
    let d = distance_is m n q.frame_num c.0 l (omega (arith, few)) in
    ap (number_distance m) (sym same) ∙ d ∙ omega arith
distance_at m n (suc k) (q ∷ qs) r c l few e =
    distance_at m q.frame_num k qs r c.1 (omega (arith, c.0, l)) (omega (arith, c.0, l, few)) e ∙ omega (arith, c.0, l)

-- the command for the first that differs least
pub commanded : (n place : ℕ) (source : List ℕ) (held : List Shown) (r : Shown) → Counts n held → place + 1 < 65536 → first_least_place (map (λ r. difference source r.planes.luma) held) ≡ place → slice_get held place ≡ Some r → (b : Bool) → (place == 0) ≡ b
    → moved_for n source held ≡ (if b then None else Some place)
unfolding moved_for
commanded n place source held r c few e at b t =
    let z : n - n ≡ 0 = omega arith in
    let d = distance_at n n place held r c (omega arith) (omega (arith, few, z)) at in
    let back : number_distance n r - 1 ≡ place = omega (arith, d, z) in
    ap (λ p. if p == 0 then None else command_for n (slice_get held p)) e
    ∙ ap (λ (o : Option Shown). if place == 0 then None else command_for n o) at
    ∙ ap (λ x. if place == 0 then None else Some x) back
    ∙ ap (λ t. if t then None else Some place) t

pub not_moved : (n place : ℕ) (source : List ℕ) (held : List Shown) → first_least_place (map (λ r. difference source r.planes.luma) held) ≡ place → (place == 0) ≡ true → moved_for n source held ≡ None
unfolding moved_for
not_moved n place source held e t =
    ap (λ p. if p == 0 then None else command_for n (slice_get held p)) e ∙ ap (λ t. if t then None else command_for n (slice_get held place)) t

-- ---- the one that a command names

-- none of those that are further
far_stay : (m n d : ℕ) (rs : List Shown) → Counts n rs → n ≤ m → m - n + length rs < 65536 → d ≤ m - n → filter (λ q. not (is_so_far m d q)) rs ≡ rs
far_stay m n d [] c l few h = refl
far_stay m n d (q ∷ qs) c l few h =
    let e = distance_is m n q.frame_num c.0 l (omega (arith, few)) in
    ap (λ b. cond (not b) (q ∷ filter (λ q. not (is_so_far m d q)) qs) (filter (λ q. not (is_so_far m d q)) qs)) (other (number_distance m q) d (omega (arith, e, h)))
    ∙ ap (λ (zs : List Shown). q ∷ zs) (far_stay m q.frame_num d qs c.1 (omega (arith, c.0, l)) (omega (arith, c.0, l, few)) (omega (arith, c.0, l, h)))
  where
    other : (a b : ℕ) → b < a → (a == b) ≡ false
    other a b h = grind (arith, nat_tests)

pub record IsNamed (m n d : ℕ) (rs : List Shown) (r : Shown) : Type 0 where
  pub place : ℕ
  pub at : slice_get rs place ≡ Some r
  pub far : d ≡ m - n + place + 1
  pub others : filter (λ q. not (is_so_far m d q)) rs ≡ remove rs place

pub named_one : (m n d : ℕ) (rs : List Shown) (r : Shown) → Counts n rs → n ≤ m → m - n + length rs < 65536 → find (is_so_far m d) rs ≡ Some r → IsNamed m n d rs r
named_one m n d [] r c l few e = let no : None ≡ Some r = e in absurd cc
named_one m n d (q ∷ qs) r c l few e =
    let k = distance_is m n q.frame_num c.0 l (omega (arith, few)) in
    by (is_so_far m d q) refl k e (named_one m q.frame_num d qs r c.1 (omega (arith, c.0, l)) (omega (arith, c.0, l, few)))
  where
    same : (a b : ℕ) → (a == b) ≡ true → a ≡ b
    same a b h = grind (arith, nat_tests)

    by : (b : Bool) → is_so_far m d q ≡ b → number_distance m q ≡ m - n + 1 → cond b (Some q) (find (is_so_far m d) qs) ≡ Some r → (find (is_so_far m d) qs ≡ Some r → IsNamed m q.frame_num d qs r) → IsNamed m n d (q ∷ qs) r
    by true t k e on = record {
      place = 0;
      at = e;
      far = let s = same (number_distance m q) d t in omega (arith, s, k);
      others =
          let s = same (number_distance m q) d t in
          ap (λ b. cond (not b) (q ∷ filter (λ q. not (is_so_far m d q)) qs) (filter (λ q. not (is_so_far m d q)) qs)) t
          ∙ far_stay m q.frame_num d qs c.1 (omega (arith, c.0, l)) (omega (arith, c.0, l, few)) (omega (arith, s, k, c.0, l));
    }
    by false t k e on =
        let f = on e in record {
          place = suc f.place;
          at = f.at;
          far = let g = f.far in omega (arith, g, c.0, l);
          others = ap (λ b. cond (not b) (q ∷ filter (λ q. not (is_so_far m d q)) qs) (filter (λ q. not (is_so_far m d q)) qs)) t ∙ ap (λ (zs : List Shown). q ∷ zs) f.others;
        }

-- a command in list 0 of a P picture
pub named_place : (d : ℕ) (rs : List Shown) → Counts (next_number rs) rs → length rs ≤ 4 → IsSome (find (is_so_far (next_number rs) (d + 1)) rs) → d < length rs
named_place d rs c few some = by (find (is_so_far (next_number rs) (d + 1)) rs) refl some
  where
    by : (o : Option Shown) → find (is_so_far (next_number rs) (d + 1)) rs ≡ o → IsSome o → d < length rs
    by None e none = absurd cc
    by (Some r) e some =
        let n = next_number rs in
        let z : n - n ≡ 0 = omega arith in
        let f = named_one n n (d + 1) rs r c (omega arith) (omega (arith, z, few)) e in
        let far = f.far in
        let in_list = within rs f.place r f.at in omega (arith, far, in_list, z)

-- the list behind the command, where it is entered by places
pub moved_front : (held : List Shown) (ks : List ℕ) (d : ℕ) → entries held ks ≡ held → ArePlaces (length held) ks → Counts (next_number held) held → length held ≤ 4 → (e : ℕ)
    → IfSome (find (is_so_far (next_number held) (d + 1)) held) (λ r. entries held (get_or ks d e ∷ remove ks d) ≡ in_front (length held) (is_so_far (next_number held) (d + 1)) held r)
moved_front held ks d all places c few e = by (find (is_so_far (next_number held) (d + 1)) held) refl
  where
    whole : (xs : List Shown) (n : ℕ) → length xs ≤ n → take n xs ≡ xs
    whole xs n h = take_all n xs h

    shorter : (xs : List Shown) (k : ℕ) → k < length xs → length (remove xs k) + 1 ≡ length xs
    shorter xs k h = grind (arith, common_steps)

    by : (o : Option Shown) → find (is_so_far (next_number held) (d + 1)) held ≡ o → IfSome o (λ r. entries held (get_or ks d e ∷ remove ks d) ≡ in_front (length held) (is_so_far (next_number held) (d + 1)) held r)
    by None h = tt
    by (Some r) h =
        let n = next_number held in
        let z : n - n ≡ 0 = omega arith in
        let f = named_one n n (d + 1) held r c (omega arith) (omega (arith, z, few)) h in
        let far = f.far in
        let same : f.place ≡ d = omega (arith, far, z) in
        let in_list : d < length held = subst (λ k. k < length held) same (within held f.place r f.at) in
        let long : length ks ≡ length held = sym (length-entries held ks places) ∙ ap (λ (zs : List Shown). length zs) all in
        let less : d < length ks = omega (arith, long, in_list) in
        let at : slice_get held d ≡ Some r = ap (slice_get held) (sym same) ∙ f.at in
        let here : slice_get held (get_or ks d e) ≡ Some r = sym (entry_is held ks d e places less) ∙ ap (λ (zs : List Shown). slice_get zs d) all ∙ at in
        let rest : filter (λ q. not (is_so_far n (d + 1) q)) held ≡ remove held d = f.others ∙ ap (remove held) same in
        let short = shorter held d in_list in
        entry_before held (get_or ks d e) (remove ks d) r here
        ∙ ap (λ (zs : List Shown). r ∷ zs) (entries_removed held ks d places less ∙ ap (λ (zs : List Shown). remove zs d) all ∙ sym rest)
        ∙ sym (whole (r ∷ filter (λ q. not (is_so_far n (d + 1) q)) held) (length held) (omega (arith, short, ap (λ (zs : List Shown). length zs) rest)))
