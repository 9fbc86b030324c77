use Rattle.std.proofs.Common.{◌≡◌, ◌+◌, List, ◌∷◌, ℕ, length, find, get_or, remove, IsSome, IfSome, ap, ap₂, lit<, sym, subst, ◌∙◌, arith}
use Rattle.spec_lists.specs.References.{Reference as Shown}
use Rattle.spec_lists.specs.Lists.{is_so_far, in_front}
use Rattle.ref_lists.specs.Held.{seen, all_seen}
use Rattle.ref_lists.specs.Entries.{entries, ArePlaces, next_number}
use Rattle.ref_lists.proofs.Entering.{length-seen, length-entries}
use Rattle.ref_lists.proofs.Moving.{named_place, moved_front}
use Rattle.ref_lists.proofs.naming.Lists.apply.Goals as goal

pub remove-named-requires : goal.remove-named-requires
remove-named-requires c =
    let held = all_seen c.args.self.now.held.now in
    let ks = c.args.self.now.list0.items in
    let same = c.requires.lists.list0 in
    let count = length-seen seen c.args.self.now.held.now in
    let long : length ks ≡ length held = sym (length-entries held ks (subst (λ n. ArePlaces n ks) (sym count) c.requires.lists.inside)) ∙ ap (λ (zs : List Shown). length zs) same in
    let some : IsSome (find (is_so_far (next_number held) (c.args.moved + 1)) held) = subst (λ (zs : List Shown). IsSome (find (is_so_far (next_number zs) (c.args.moved + 1)) zs)) same c.requires.there in
    let less = named_place c.args.moved held c.requires.lists.order.0 (omega (arith, count, c.requires.lists.few)) some in (lit< tt, omega (arith, less, long))

pub insert-requires : goal.insert-requires
insert-requires c =
    let held = all_seen c.args.self.now.held.now in
    let ks = c.args.self.now.list0.items in
    let count = length-seen seen c.args.self.now.held.now in
    let long : length ks ≡ length held = sym (length-entries held ks (subst (λ n. ArePlaces n ks) (sym count) c.requires.lists.inside)) ∙ ap (λ (zs : List Shown). length zs) c.requires.lists.list0 in
    (lit< tt, (omega arith, omega (arith, long, count, c.requires.lists.few, c.remove-named.ensures.len)))

pub returns-clause-list0 : goal.returns-clause-list0
returns-clause-list0 c =
    let held = all_seen c.args.self.now.held.now in
    let ks = c.args.self.now.list0.items in
    let same = c.requires.lists.list0 in
    let count = length-seen seen c.args.self.now.held.now in
    let places = subst (λ n. ArePlaces n ks) (sym count) c.requires.lists.inside in
    let front = moved_front held ks c.args.moved same places c.requires.lists.order.0 (omega (arith, count, c.requires.lists.few)) c.remove-named.result in
    let new : c.insert.new.self.items ≡ get_or ks c.args.moved c.remove-named.result ∷ remove ks c.args.moved = c.insert.ensures.items ∙ ap₂ (λ (k : ℕ) (zs : List ℕ). k ∷ zs) c.remove-named.ensures.value c.remove-named.ensures.items in
    subst (λ (zs : List Shown). IfSome (find (is_so_far (next_number zs) (c.args.moved + 1)) zs) (λ r. entries held c.insert.new.self.items ≡ in_front (length zs) (is_so_far (next_number zs) (c.args.moved + 1)) zs r)) (sym same)
    (subst (λ (us : List ℕ). IfSome (find (is_so_far (next_number held) (c.args.moved + 1)) held) (λ r. entries held us ≡ in_front (length held) (is_so_far (next_number held) (c.args.moved + 1)) held r)) (sym new) front)
