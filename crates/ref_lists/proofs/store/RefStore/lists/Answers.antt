use Rattle.std.proofs.Common.{◌≡◌, ◌-ℤ◌, pos, w32, List, take, ap, ◌∙◌}
use Rattle.std.proofs.lemmas.Int.{to_z-of_z}
use Rattle.ref_lists.specs.declared.held.Reference.{Reference}
use Rattle.ref_lists.specs.Held.{natural, seen, seen_from, ranked}
use Rattle.ref_lists.specs.Stored.{references_of}
use Rattle.ref_lists.proofs.Listing.{few_taken, i_named, p_seen, p_from, b_from, b_seen}
use Rattle.ref_lists.proofs.store.RefStore.lists.Goals as goal

pub returns-in-I-clause-named : goal.returns-in-I-clause-named
returns-in-I-clause-named c low = i_named c.args.kind (natural c.args.poc) seen _ (references_of c.args.self.now) c.new.result.items c.new-in-I.result.items c.in-I.is c.new.ensures c.new-in-I.ensures

pub returns-in-I-clause-anywhere : goal.returns-in-I-clause-anywhere
returns-in-I-clause-anywhere c origin low = i_named c.args.kind (natural (c.args.poc -ℤ origin)) (seen_from origin) _ (references_of c.args.self.now) c.new.result.items c.new-in-I.result.items c.in-I.is c.new.ensures c.new-in-I.ensures

pub returns-in-P-clause-named : goal.returns-in-P-clause-named
returns-in-P-clause-named c low =
    let count = c.args.self.now.count in
    let held = ap (λ (ps : List Reference). take count ps) c.deref.ensures.value in
    let few = few_taken count c.args.self.now.places.items c.args.self.now.room.2 c.args.self.now.room.1 in
    p_seen c.args.kind (natural c.args.poc) (take count c.deref.result.now) (references_of c.args.self.now) c.all_places.result.items c.new-in-P.result.items c.in-P.is held c.args.self.now.order few (c.all_places.ensures.named seen) c.new-in-P.ensures

pub returns-in-P-clause-anywhere : goal.returns-in-P-clause-anywhere
returns-in-P-clause-anywhere c origin low =
    let count = c.args.self.now.count in
    let held = ap (λ (ps : List Reference). take count ps) c.deref.ensures.value in
    let few = few_taken count c.args.self.now.places.items c.args.self.now.room.2 c.args.self.now.room.1 in
    p_from c.args.kind (natural (c.args.poc -ℤ origin)) origin (take count c.deref.result.now) (references_of c.args.self.now) c.all_places.result.items c.new-in-P.result.items c.in-P.is held c.args.self.now.order few (c.all_places.ensures.named (seen_from origin)) c.new-in-P.ensures

pub returns-in-B-clause-anywhere : goal.returns-in-B-clause-anywhere
returns-in-B-clause-anywhere c origin low =
    let count = c.args.self.now.count in
    let held = ap (λ (ps : List Reference). take count ps) c.deref.ensures.value in
    let same : ranked c.rank_of-rank.result ≡ c.args.poc = c.rank_of-rank.ensures ∙ to_z-of_z w32 c.args.poc c.ranges.poc in
    b_from c.args.kind origin (ranked c.rank_of-rank.result) c.args.poc (take count c.deref.result.now) (references_of c.args.self.now) c.earlier.result.items c.next_shown.result.items c.in-B.is same held c.args.self.now.order low (c.earlier.ensures.named origin) (c.next_shown.ensures.named origin)

pub returns-in-B-clause-named : goal.returns-in-B-clause-named
returns-in-B-clause-named c low =
    let count = c.args.self.now.count in
    b_seen c.args.kind c.args.poc (take count c.deref.result.now) (references_of c.args.self.now) c.earlier.result.items c.next_shown.result.items (returns-in-B-clause-anywhere c (pos 0) low)
