use Rattle.std.proofs.Common.{◌≡◌, ◌≤ℤ◌, ◌<◌, ◌+◌, ◌-◌, ◌-ℤ◌, ◌∙◌, [], length, drop, ap, sym, subst, arith}
use Rattle.std.specs.Prelude.{nat_lt}
use Rattle.std.specs.List.{filter}
use Rattle.ref_lists.specs.Held.{natural, ranked, seen_from, all_seen_from}
use Rattle.ref_lists.specs.Entries.{entries}
use Rattle.ref_lists.proofs.Sorting.{ordered_from, behind_is, none_behind}
use Rattle.ref_lists.proofs.Entering.{seen_here, holds_here, no_entry, one_entry, none_from, none_past}
use Rattle.ref_lists.proofs.naming.next_shown.Goals as goal

pub loop-k-init : goal.loop-k-init
loop-k-init c = (
  c.new-places.ensures,
  omega arith,
  (λ origin low. none_past (λ r. nat_lt (natural (ranked c.args.rank -ℤ origin)) r.poc) (seen_from origin) c.args.held.now),
)

pub returns-then-is_behind-clause-named : goal.returns-then-is_behind-clause-named
returns-then-is_behind-clause-named c origin low =
    let held = all_seen_from origin c.args.held.now in
    let poc = natural (ranked c.args.rank -ℤ origin) in
    let k = c.loop-k.k - 1 in
    let r = c.index-held-k.result in
    let less : k < length c.args.held.now = omega (arith, c.loop-k.invariant.1, c.loop-k-test.true) in
    let at = seen_here (seen_from origin) c.args.held.now k r c.index-held-k.is less in
    let under = holds_here (λ q. origin ≤ℤ q.poc) c.args.held.now k r c.index-held-k.is low.1 less in
    let e : c.loop-k.k ≡ k + 1 = omega (arith, c.loop-k-test.true) in
    let none : filter (λ r. nat_lt poc r.poc) (drop (k + 1) held) ≡ [] = subst (λ n. filter (λ r. nat_lt poc r.poc) (drop n held) ≡ []) e (c.loop-k.invariant.2 origin low) in
    ap (entries held) c.push.ensures.items ∙ one_entry held c.loop-k.places.items k (seen_from origin r) at c.loop-k.invariant.0
    ∙ sym (behind_is poc held k (seen_from origin r) (ordered_from origin c.args.held.now low.1 c.requires.order) at (sym (c.is_behind.ensures origin under low.0) ∙ c.if-is_behind.true) none)

pub loop-k-preserved : goal.loop-k-preserved
loop-k-preserved c = (
  c.loop-k.invariant.0,
  omega (arith, c.loop-k.invariant.1),
  (λ origin low.
      let held = all_seen_from origin c.args.held.now in
      let poc = natural (ranked c.args.rank -ℤ origin) in
      let k = c.loop-k.k - 1 in
      let r = c.index-held-k.result in
      let less : k < length c.args.held.now = omega (arith, c.loop-k.invariant.1, c.loop-k-test.true) in
      let at = seen_here (seen_from origin) c.args.held.now k r c.index-held-k.is less in
      let under = holds_here (λ q. origin ≤ℤ q.poc) c.args.held.now k r c.index-held-k.is low.1 less in
      let e : c.loop-k.k ≡ k + 1 = omega (arith, c.loop-k-test.true) in
      let none : filter (λ r. nat_lt poc r.poc) (drop (k + 1) held) ≡ [] = subst (λ n. filter (λ r. nat_lt poc r.poc) (drop n held) ≡ []) e (c.loop-k.invariant.2 origin low) in
      none_from (λ r. nat_lt poc r.poc) held k (seen_from origin r) at (sym (c.is_behind.ensures origin under low.0) ∙ c.if-is_behind.false) none),
)

pub returns-clause-named : goal.returns-clause-named
returns-clause-named c origin low =
    let held = all_seen_from origin c.args.held.now in
    let poc = natural (ranked c.args.rank -ℤ origin) in
    let z : c.loop-k.k ≡ 0 = omega (arith, c.loop-k-test.false) in
    no_entry held c.loop-k.places.items c.loop-k.invariant.0
    ∙ sym (none_behind poc held (subst (λ n. filter (λ r. nat_lt poc r.poc) (drop n held) ≡ []) z (c.loop-k.invariant.2 origin low)))
