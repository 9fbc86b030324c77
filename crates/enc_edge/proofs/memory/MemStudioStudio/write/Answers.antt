use Rattle.std.proofs.Common.{◌≤◌, ap, ◌∙◌, take, vec_len}
use Rattle.std.specs.Vec.{vec_capacity}
use Rattle.std.proofs.lemmas.List.Elements.{All-set}
use Rattle.enc_edge.specs.Calls.{wrote}
use Rattle.enc_edge.specs.Memory.{memory_seen}
use Rattle.enc_edge.specs.declared.studio.Place.TheVariants.{Output}
use Rattle.enc_edge.proofs.Outputs.{grown}
use Rattle.enc_edge.proofs.memory.MemStudioStudio.write.Goals as goal

pub invariant_of-self-clause-outputs_fit : goal.invariant_of-self-clause-outputs_fit
invariant_of-self-clause-outputs_fit c =
    let m = c.count_call-fails.new.self in
    All-set (λ held. vec_len held ≤ m.room) m.outputs c.output_at.result c.append.new.held c.append.ensures.fits m.outputs_fit

pub invariant_of-self-clause-outputs_made : goal.invariant_of-self-clause-outputs_made
invariant_of-self-clause-outputs_made c =
    let m = c.count_call-fails.new.self in
    All-set (λ held. m.room ≤ vec_capacity held) m.outputs c.output_at.result c.append.new.held c.append.ensures.made m.outputs_made

pub returns-clause-change : goal.returns-clause-change
returns-clause-change c =
    let m = c.count_call-fails.new.self in
    grown (λ held. held.items) c.args.out c.output_at.result m.outputs c.append.new.held c.index-self-output_at.result (take c.append.result c.args.bytes.now) (memory_seen m)
    m.three_outputs c.output_at.ensures c.append.ensures.items
    ∙ ap (wrote (Output c.args.out) (take c.append.result c.args.bytes.now)) c.count_call-fails.ensures.seen
