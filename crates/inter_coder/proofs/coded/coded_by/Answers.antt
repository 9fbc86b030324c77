use Rattle.std.proofs.Common.{refl, ap, ◌∙◌}
use Rattle.enc_tables.specs.declared.records.MbRecord.{MbRecord}
use Rattle.spec_film.specs.Films.{Planes}
use Rattle.spec_coded.specs.Levels.{levelled}
use Rattle.inter_coder.specs.Given.{wide_of, source_in}
use Rattle.inter_coder.specs.Made.{planes_at}
use Rattle.inter_coder.proofs.CodedLaws.{levelled_moves}
use Rattle.inter_coder.proofs.coded.coded_by.Goals as goal

pub returns-clause-record : goal.returns-clause-record
returns-clause-record c =
    c.give_levels.ensures.levels
    ∙ ap (λ (q : Planes). levelled (wide_of c.args.pictures.now) c.args.site.now c.args.t8x8 (source_in c.args.pictures.now) q c.args.mb.now) (c.by_motion-prediction.ensures c.args.mb.now refl)

pub returns-clause-prediction : goal.returns-clause-prediction
returns-clause-prediction c =
    c.by_motion-prediction.ensures _
    (ap (λ (r : MbRecord). r.motion) c.give_levels.ensures.levels ∙ levelled_moves (wide_of c.args.pictures.now) c.args.site.now c.args.t8x8 (source_in c.args.pictures.now) (planes_at c.by_motion-prediction.result) c.args.mb.now)
