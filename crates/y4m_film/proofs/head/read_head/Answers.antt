use Rattle.std.proofs.Common.{take}
use Rattle.y4m_film.specs.declared.lines.LineEnd.TheVariants.{Whole, Cut, Long}
use Rattle.y4m_film.proofs.LineBytes.{by_end}
use Rattle.y4m_film.proofs.Heads.{head_ok, head_fault, head_never, line_allowed, head_cut, head_long}
use Rattle.y4m_film.proofs.head.read_head.Goals as goal

pub returns-in-Ok-Whole-clause-ok : goal.returns-in-Ok-Whole-clause-ok
returns-in-Ok-Whole-clause-ok g c =
    let seen = g.S.Studio.seen in
    head_ok c.in-Ok-Whole.length c.read_line.new.line c.head_of_line.result (seen c.args.studio.now) (seen c.read_line.new.studio) c.head_of_line.ensures
    (by_end c.read_line.new.line (seen c.args.studio.now) (seen c.read_line.new.studio) c.in-Ok-Whole.field-0 (Whole c.in-Ok-Whole.length) c.in-Ok-Whole.field-0-is c.in-Ok-Whole.ensures.line)

pub returns-in-Ok-Whole-clause-allowed : goal.returns-in-Ok-Whole-clause-allowed
returns-in-Ok-Whole-clause-allowed g c = line_allowed (take c.in-Ok-Whole.length c.read_line.new.line) c.head_of_line.result c.head_of_line.ensures

pub returns-in-Ok-Whole-clause-read : goal.returns-in-Ok-Whole-clause-read
returns-in-Ok-Whole-clause-read g c = λ e. head_never (take c.in-Ok-Whole.length c.read_line.new.line) c.head_of_line.result _ c.head_of_line.ensures e

pub returns-in-Ok-Whole-clause-fault : goal.returns-in-Ok-Whole-clause-fault
returns-in-Ok-Whole-clause-fault g c =
    let seen = g.S.Studio.seen in
    head_fault c.in-Ok-Whole.length c.read_line.new.line c.head_of_line.result (seen c.args.studio.now) (seen c.read_line.new.studio) c.head_of_line.ensures
    (by_end c.read_line.new.line (seen c.args.studio.now) (seen c.read_line.new.studio) c.in-Ok-Whole.field-0 (Whole c.in-Ok-Whole.length) c.in-Ok-Whole.field-0-is c.in-Ok-Whole.ensures.line)

pub returns-in-Ok-Cut-clause-fault : goal.returns-in-Ok-Cut-clause-fault
returns-in-Ok-Cut-clause-fault g c =
    let seen = g.S.Studio.seen in
    λ _. head_cut c.in-Ok-Cut.field-0-0 c.read_line.new.line (seen c.args.studio.now) (seen c.read_line.new.studio)
    (by_end c.read_line.new.line (seen c.args.studio.now) (seen c.read_line.new.studio) c.in-Ok-Cut.field-0 (Cut c.in-Ok-Cut.field-0-0) c.in-Ok-Cut.field-0-is c.in-Ok-Cut.ensures.line)

pub returns-in-Ok-Long-clause-fault : goal.returns-in-Ok-Long-clause-fault
returns-in-Ok-Long-clause-fault g c =
    let seen = g.S.Studio.seen in
    λ _. head_long c.read_line.new.line c.fault_of_long.result (seen c.args.studio.now) (seen c.read_line.new.studio) c.read_line.array_long c.fault_of_long.ensures
    (by_end c.read_line.new.line (seen c.args.studio.now) (seen c.read_line.new.studio) c.in-Ok-Long.field-0 Long c.in-Ok-Long.field-0-is c.in-Ok-Long.ensures.line)
