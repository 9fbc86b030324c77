use Rattle.std.proofs.Common.{◌≡◌, map, take}
use Rattle.enc_edge.specs.declared.studio.Out.TheVariants.{Recon}
use Rattle.enc_edge.specs.declared.studio.Place.TheVariants.{Output}
use Rattle.enc_edge.specs.Calls.{wrote}
use Rattle.picture_planes.specs.Pictures.{planes_of}
use Rattle.enc_session.specs.Showing.{shown_text}
use Rattle.enc_session.proofs.showing.show_slots.Given as goal

abbrev pub invariant-loop-k : goal.invariant-loop-k
invariant-loop-k g l = g.S.Studio.seen l.studio ≡ wrote (Output Recon) (shown_text l.head (take l.k (map planes_of l.slots))) (g.S.Studio.seen l.fn.studio)
