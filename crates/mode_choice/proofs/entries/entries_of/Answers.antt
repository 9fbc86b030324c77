use Rattle.std.proofs.Common.{◌≡◌, ◌+◌, ◌*◌, ℕ, ◌∙◌, arith}
use Rattle.std.proofs.lemmas.List.{length-set}
use Rattle.nine_search.specs.NineRefined.{vector_at, cost_at}
use Rattle.mode_choice.specs.declared.entries.Entry.{Entry}
use Rattle.mode_choice.proofs.Listing.{one_more}
use Rattle.mode_choice.proofs.entries.entries_of.Goals as goal

pub loop-k-preserved : goal.loop-k-preserved
loop-k-preserved c =
    let i = c.loop-k.invariant in
    let long = i.long in
    let e = c.entry_of.result in
    record {
      numbers = one_more (λ (j : ℕ) (x : Entry). x.number ≡ c.args.number) c.loop-k.entries c.loop-k.k e (omega arith) i.numbers c.entry_of.ensures.number;
      vectors = one_more (λ (j : ℕ) (x : Entry). x.vector ≡ vector_at c.args.refined.now j) c.loop-k.entries c.loop-k.k e (omega arith) i.vectors c.entry_of.ensures.vector;
      costs = one_more (λ (j : ℕ) (x : Entry). x.cost ≡ cost_at c.args.refined.now j + 4 * c.args.number) c.loop-k.entries c.loop-k.k e (omega arith) i.costs c.entry_of.ensures.cost;
      long = length-set c.loop-k.entries c.loop-k.k e ∙ i.long;
    }
