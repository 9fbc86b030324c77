use Rattle.std.proofs.Common.{◌≡◌, ◌≤◌, ℕ, List, get_or, ap, sym, subst, ◌∙◌, arith}
use Rattle.std.proofs.lemmas.List.{length-set}
use Rattle.enc_tables.specs.declared.records.PartPlan.{PartPlan}
use Rattle.spec_film.specs.Films.{Planes}
use Rattle.spec_search.specs.declared.blocks.Block.{Block}
use Rattle.spec_inter_plans.specs.InterPlans.{no_planes}
use Rattle.motion_search.specs.Planes.{IsBlockOf}
use Rattle.nine_search.specs.Partitions.{partition_block}
use Rattle.nine_search.proofs.Fours.{partition_inside, block_is}
use Rattle.mode_choice.specs.Given.{pictures_at}
use Rattle.mode_choice.specs.Entries.{as_listed, entry_at}
use Rattle.mode_choice.specs.Parts.{best_of_both}
use Rattle.mode_choice.proofs.Parting.{part_more, wider_entry}
use Rattle.mode_choice.proofs.partitions.parts_of_both.Goals as goal

pub best_of_both-requires-clause-made : goal.best_of_both-requires-clause-made
best_of_both-requires-clause-made c = (c.reference_at-p.ensures.made _ _ c.requires.held, c.reference_at-q.ensures.made _ _ c.requires.held)

pub best_of_both-requires-clause-ready : goal.best_of_both-requires-clause-ready
best_of_both-requires-clause-ready c = (c.reference_at-p.ensures.ready _ _ c.requires.held, c.reference_at-q.ensures.ready _ _ c.requires.held)

pub best_of_both-requires-clause-block : goal.best_of_both-requires-clause-block
best_of_both-requires-clause-block c =
    subst (λ (b : Block). IsBlockOf c.args.source.now b) (sym (block_is _ _ c.args.x c.args.y c.loop-k.k c.nine_blocks-blocks.ensures (omega arith)))
    (partition_inside c.args.source.now.width c.args.source.now.height c.args.x c.args.y c.loop-k.k c.requires.macroblock (omega arith))

pub best_of_both-requires-clause-entries : goal.best_of_both-requires-clause-entries
best_of_both-requires-clause-entries c = (
  wider_entry _ 4 (entry_at c.args.first.now c.loop-k.k) c.requires.few.0 (c.requires.first c.loop-k.k (omega arith)),
  wider_entry _ 4 (entry_at c.args.second.now c.loop-k.k) c.requires.few.1 (c.requires.second c.loop-k.k (omega arith)),
)

pub loop-k-preserved : goal.loop-k-preserved
loop-k-preserved c =
    let held = c.args.lists.now.held.now in
    let x = c.args.x in
    let y = c.args.y in
    let k : ℕ = c.loop-k.k in
    let i = c.loop-k.invariant in
    let long = i.long in
    let part = c.best_of_both.result in
    record {
      value = λ s h e f. part_more (λ (j : ℕ) (p : PartPlan). p ≡ best_of_both s (partition_block x y j) (as_listed (entry_at c.args.first.now j)) (as_listed (entry_at c.args.second.now j))) c.loop-k.parts k part (omega arith) (i.value s h e f)
          (c.best_of_both.ensures.value s h
          (ap (λ (l : List Planes). get_or l (entry_at c.args.first.now k).number no_planes) (e ∙ ap (λ (ks : List ℕ). pictures_at held ks) (sym c.as_slice-list0.ensures.value)) ∙ c.reference_at-p.ensures.planes)
          (ap (λ (l : List Planes). get_or l (entry_at c.args.second.now k).number no_planes) (f ∙ ap (λ (ks : List ℕ). pictures_at held ks) (sym c.as_slice-list1.ensures.value)) ∙ c.reference_at-q.ensures.planes)
          ∙ ap (λ (b : Block). best_of_both s b (as_listed (entry_at c.args.first.now k)) (as_listed (entry_at c.args.second.now k))) (block_is _ _ x y k c.nine_blocks-blocks.ensures (omega arith)));
      small = part_more (λ (j : ℕ) (p : PartPlan). p.cost ≤ 65310) c.loop-k.parts k part (omega arith) i.small c.best_of_both.ensures.small;
      long = length-set c.loop-k.parts k part ∙ i.long;
    }
