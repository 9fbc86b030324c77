use Rattle.subpel_filter.proofs.Clips.{raw_up_down}
use Rattle.subpel_filter.proofs.rows.raw_of.Goals as goal

pub returns-clause-value : goal.returns-clause-value
returns-clause-value c = raw_up_down c.args.a c.args.b c.args.c c.args.d c.args.e c.args.f c.ranges.a.fits c.ranges.b.fits c.ranges.c.fits c.ranges.d.fits c.ranges.e.fits c.ranges.f.fits
