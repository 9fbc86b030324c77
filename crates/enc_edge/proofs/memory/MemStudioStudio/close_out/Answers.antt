use Rattle.std.proofs.Common.{◌≡◌, ap, ◌∙◌, slice_set, subst, sym}
use Rattle.enc_edge.specs.Calls.{shut, shut_standing}
use Rattle.enc_edge.specs.Stands.{stand_of}
use Rattle.enc_edge.specs.Memory.{memory_seen}
use Rattle.enc_edge.specs.declared.studio.Place.TheVariants.{Output}
use Rattle.enc_edge.proofs.Named.{four, named_shut, read_at}
use Rattle.enc_edge.proofs.memory.MemStudioStudio.close_out.Goals as goal

pub returns-clause-change : goal.returns-clause-change
returns-clause-change c =
    let m = c.count_call.new.self in
    let place = Output c.args.out in
    ap (λ i. four (slice_set m.names i c.shut_from.result) (memory_seen m)) c.place_at-i.ensures
    ∙ named_shut place m.names c.shut_from.result c.index-self-i.result (memory_seen m) m.four_names
    (read_at place c.place_at-i.result m.names c.index-self-i.result m.four_names c.place_at-i.ensures c.index-self-i.is) (subst (λ o. stand_of c.shut_from.result ≡ shut_standing (stand_of o)) (sym c.index-self-i.is) c.shut_from.ensures)
    ∙ ap (shut place) c.count_call.ensures.seen
