use Rattle.std.proofs.Common.{ap, ◌∙◌, slice_set}
use Rattle.enc_edge.specs.Calls.{opened}
use Rattle.enc_edge.specs.Seen.{Open}
use Rattle.enc_edge.specs.Memory.{memory_seen}
use Rattle.enc_edge.specs.declared.memory.Standing.TheVariants.{Opened}
use Rattle.enc_edge.proofs.Named.{four, named_open}
use Rattle.enc_edge.proofs.memory.MemStudio.open.Goals as goal

pub returns-in-Ok-clause-change : goal.returns-in-Ok-clause-change
returns-in-Ok-clause-change c =
    let m = c.count_call-fails.new.self in
    ap (λ i. four (slice_set m.names i (Opened c.in-Ok.text)) (memory_seen m)) c.place_at.ensures
    ∙ named_open c.args.place c.args.name.now m.names (Opened c.in-Ok.text) (memory_seen m) m.four_names (ap (λ bytes. Open bytes) c.in-Ok.ensures.ok)
    ∙ ap (opened c.args.place c.args.name.now) c.count_call-fails.ensures.seen
