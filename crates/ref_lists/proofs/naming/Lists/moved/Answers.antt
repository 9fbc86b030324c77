use Rattle.std.proofs.Common.{◌≡◌, ◌<◌, ℕ, suc, List, [], ◌∷◌, length, map, false, true, refl, ap, sym, subst, ◌∙◌, arith}
use Rattle.std.specs.Prelude.{◌==◌}
use Rattle.std.proofs.lemmas.Bool.Decides.{nat_tests}
use Rattle.picture_planes.specs.Samples.{samples_of}
use Rattle.spec_lists.specs.References.{Reference as Shown}
use Rattle.spec_lists.specs.Reordering.{difference, first_least_place}
use Rattle.ref_lists.specs.Held.{seen, all_seen, Counts}
use Rattle.ref_lists.specs.Entries.{entries, next_number}
use Rattle.ref_lists.proofs.Entering.{there, length-seen}
use Rattle.ref_lists.proofs.Differing.{apart, first_then, then_first}
use Rattle.ref_lists.proofs.Moving.{not_moved, commanded}
use Rattle.ref_lists.proofs.naming.Lists.moved.Goals as goal

pub returns-then-best-eq0-clause-value : goal.returns-then-best-eq0-clause-value
returns-then-best-eq0-clause-value c =
    let list = entries (all_seen c.args.self.now.held.now) c.args.self.now.list0.items in
    let source = samples_of c.args.source.now.y in
    let best : first_least_place (map (λ r. difference source r.planes.luma) list) ≡ c.first_least-best.result = sym (c.first_least-best.ensures.value ∙ ap first_least_place (c.as_slice-2.ensures.value ∙ c.differences-numbers.ensures ∙ ap (λ (ks : List ℕ). map (λ (r : Shown). difference source r.planes.luma) (entries (all_seen c.args.self.now.held.now) ks)) c.as_slice.ensures.value)) in
    sym (not_moved (next_number list) c.first_least-best.result source list best (is_zero c.first_least-best.result c.if-best-eq0.true))
  where
    is_zero : (n : ℕ) → n ≡ 0 → (n == 0) ≡ true
    is_zero n e = grind (arith, nat_tests)

pub returns-else-best-eq0-clause-value : goal.returns-else-best-eq0-clause-value
returns-else-best-eq0-clause-value c =
    let held = all_seen c.args.self.now.held.now in
    let list = entries held c.args.self.now.list0.items in
    let source = samples_of c.args.source.now.y in
    let numbers : c.as_slice-2.result.now ≡ map (λ r. difference source r.planes.luma) list = c.as_slice-2.ensures.value ∙ c.differences-numbers.ensures ∙ ap (λ (ks : List ℕ). map (λ (r : Shown). difference source r.planes.luma) (entries held ks)) c.as_slice.ensures.value in
    let best : first_least_place (map (λ r. difference source r.planes.luma) list) ≡ c.first_least-best.result = sym (c.first_least-best.ensures.value ∙ ap first_least_place numbers) in
    let long : length c.as_slice-2.result.now ≡ length list = ap (λ (ns : List ℕ). length ns) numbers ∙ mapped list in
    let few : length list < 5 = let a = ap (λ (zs : List Shown). length zs) c.requires.lists.list0 in let b = length-seen seen c.args.self.now.held.now in omega (arith, a, b, c.requires.lists.few) in
    let more : 0 < c.first_least-best.result = omega (arith, c.if-best-eq0.false) in
    let less : c.first_least-best.result < length list = omega (arith, long, c.first_least-best.ensures.within, more) in
    let x = there list c.first_least-best.result less in
    let counts : Counts (next_number list) list = subst (λ (zs : List Shown). Counts (next_number zs) zs) (sym c.requires.lists.list0) c.requires.lists.order.0 in
    sym (commanded (next_number list) c.first_least-best.result source list x.0 counts (omega (arith, less, few)) best x.1 false (not_zero c.first_least-best.result more))
  where
    mapped : (zs : List Shown) → length (map (λ r. difference (samples_of c.args.source.now.y) r.planes.luma) zs) ≡ length zs
    mapped [] = refl
    mapped (z ∷ zs) = ap suc (mapped zs)

    not_zero : (n : ℕ) → 0 < n → (n == 0) ≡ false
    not_zero n h = grind (arith, nat_tests)

pub returns-then-best-eq0-clause-none : goal.returns-then-best-eq0-clause-none
returns-then-best-eq0-clause-none c =
    let list = entries (all_seen c.args.self.now.held.now) c.args.self.now.list0.items in
    let source = samples_of c.args.source.now.y in
    let best : first_least_place (map (apart source) list) ≡ c.first_least-best.result = sym (c.first_least-best.ensures.value ∙ ap first_least_place (c.as_slice-2.ensures.value ∙ c.differences-numbers.ensures ∙ ap (λ (ks : List ℕ). map (apart source) (entries (all_seen c.args.self.now.held.now) ks)) c.as_slice.ensures.value)) in
    ((λ e. first_then source list (best ∙ c.if-best-eq0.true)), (λ h. refl))

pub returns-else-best-eq0-clause-none : goal.returns-else-best-eq0-clause-none
returns-else-best-eq0-clause-none c =
    let list = entries (all_seen c.args.self.now.held.now) c.args.self.now.list0.items in
    let source = samples_of c.args.source.now.y in
    let best : first_least_place (map (apart source) list) ≡ c.first_least-best.result = sym (c.first_least-best.ensures.value ∙ ap first_least_place (c.as_slice-2.ensures.value ∙ c.differences-numbers.ensures ∙ ap (λ (ks : List ℕ). map (apart source) (entries (all_seen c.args.self.now.held.now) ks)) c.as_slice.ensures.value)) in
    ((λ e. absurd cc), (λ h. let zero : c.first_least-best.result ≡ 0 = sym best ∙ then_first source list h in absurd (omega (arith, zero, c.if-best-eq0.false))))
