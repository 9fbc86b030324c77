use Rattle.std.proofs.Common.{sym, ◌∙◌, arith, subst, ℕ}
use Rattle.std.specs.Prelude.{IfErr}
use Rattle.picture_planes.specs.Pictures.{planes_of}
use Rattle.y4m_film.specs.declared.lines.LineEnd.TheVariants.{Whole, Cut, Long}
use Rattle.y4m_film.specs.FrameEnds.{FrameEnd}
use Rattle.y4m_film.proofs.LineBytes.{by_end}
use Rattle.y4m_film.proofs.Frames.{frame_long, frame_unlike, frame_whole, frame_fault, frame_unread, cut_fault}
use Rattle.y4m_film.proofs.pictures.next_picture.Goals as goal

pub returns-then-number-eq-MOST_PICTURES-clause-fault : goal.returns-then-number-eq-MOST_PICTURES-clause-fault
returns-then-number-eq-MOST_PICTURES-clause-fault g c =
    let seen = g.S.Studio.seen in
    subst (λ (k : ℕ). IfErr c.end_of_film.result (FrameEnd c.args.head.now k (seen c.args.studio.now) (seen c.end_of_film.new.studio))) (sym c.if-number-eq-MOST_PICTURES.true) (c.end_of_film.ensures.fault c.args.head.now)

pub returns-then-is_unlike_frame-clause-fault : goal.returns-then-is_unlike_frame-clause-fault
returns-then-is_unlike_frame-clause-fault g c =
    let seen = g.S.Studio.seen in
    frame_unlike c.args.number c.in-Ok-Whole.length c.args.head.now c.read_line.new.line (seen c.args.studio.now) (seen c.read_line.new.studio) (omega arith) (sym c.is_unlike_frame.ensures ∙ c.if-is_unlike_frame.true)
    (by_end c.read_line.new.line (seen c.args.studio.now) (seen c.read_line.new.studio) c.in-Ok-Whole.field-0 (Whole c.in-Ok-Whole.length) c.in-Ok-Whole.field-0-is c.in-Ok-Whole.ensures.line)

pub returns-else-is_unlike_frame-clause-picture : goal.returns-else-is_unlike_frame-clause-picture
returns-else-is_unlike_frame-clause-picture g c =
    let seen = g.S.Studio.seen in
    λ e. frame_whole c.args.number c.in-Ok-Whole.length c.args.head.now c.read_line.new.line (planes_of c.read_samples.new.picture) c.read_samples.result (seen c.args.studio.now) (seen c.read_line.new.studio) (seen c.read_samples.new.studio)
    (omega arith) (sym c.is_unlike_frame.ensures ∙ c.if-is_unlike_frame.false)
    (by_end c.read_line.new.line (seen c.args.studio.now) (seen c.read_line.new.studio) c.in-Ok-Whole.field-0 (Whole c.in-Ok-Whole.length) c.in-Ok-Whole.field-0-is c.in-Ok-Whole.ensures.line) c.read_samples.ensures.end e

pub returns-else-is_unlike_frame-clause-fault : goal.returns-else-is_unlike_frame-clause-fault
returns-else-is_unlike_frame-clause-fault g c =
    let seen = g.S.Studio.seen in
    frame_fault c.args.number c.in-Ok-Whole.length c.args.head.now c.read_line.new.line (planes_of c.read_samples.new.picture) c.read_samples.result (seen c.args.studio.now) (seen c.read_line.new.studio) (seen c.read_samples.new.studio)
    (omega arith) (sym c.is_unlike_frame.ensures ∙ c.if-is_unlike_frame.false)
    (by_end c.read_line.new.line (seen c.args.studio.now) (seen c.read_line.new.studio) c.in-Ok-Whole.field-0 (Whole c.in-Ok-Whole.length) c.in-Ok-Whole.field-0-is c.in-Ok-Whole.ensures.line) c.read_samples.ensures.end

pub returns-in-Ok-Cut-clause-fault : goal.returns-in-Ok-Cut-clause-fault
returns-in-Ok-Cut-clause-fault g c =
    let seen = g.S.Studio.seen in
    cut_fault c.args.number c.in-Ok-Cut.length c.args.head.now c.read_line.new.line c.end_in_line.result (seen c.args.studio.now) (seen c.read_line.new.studio) (omega arith) c.read_line.array_long
    (by_end c.read_line.new.line (seen c.args.studio.now) (seen c.read_line.new.studio) c.in-Ok-Cut.field-0 (Cut c.in-Ok-Cut.length) c.in-Ok-Cut.field-0-is c.in-Ok-Cut.ensures.line) c.end_in_line.ensures

pub returns-in-Ok-Long-clause-fault : goal.returns-in-Ok-Long-clause-fault
returns-in-Ok-Long-clause-fault g c =
    let seen = g.S.Studio.seen in
    frame_long c.args.number c.args.head.now c.read_line.new.line (seen c.args.studio.now) (seen c.read_line.new.studio) (omega arith)
    (by_end c.read_line.new.line (seen c.args.studio.now) (seen c.read_line.new.studio) c.in-Ok-Long.field-0 Long c.in-Ok-Long.field-0-is c.in-Ok-Long.ensures.line)

pub returns-in-Err-clause-fault : goal.returns-in-Err-clause-fault
returns-in-Err-clause-fault g c =
    let seen = g.S.Studio.seen in
    frame_unread c.args.head.now (seen c.args.studio.now) (seen c.read_line.new.studio) c.in-Err.ensures.err
