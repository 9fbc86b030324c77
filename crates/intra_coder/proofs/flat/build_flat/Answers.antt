use Rattle.residual_coder.specs.Stripes.{planes_in}
use Rattle.intra_coder.proofs.FlatLaws.{flat_is, flat_built}
use Rattle.intra_coder.proofs.flat.build_flat.Goals as goal

pub returns-clause-record : goal.returns-clause-record
returns-clause-record c = flat_is c.args.site.now.qp c.blank-mb.result c.first_mode-modes.result c.blank-mb.ensures c.first_mode-modes.ensures

pub returns-clause-planes : goal.returns-clause-planes
returns-clause-planes c =
    flat_built c.args.stripe.now.picture.now.y.width c.args.stripe.now.picture.now.cb.width c.args.stripe.now.picture.now.cr.width c.args.site.now c.args.site.now.qp _ (planes_in c.args.stripe.now) _ _ _
    c.args.stripe.now.picture.now.widths.0 c.args.stripe.now.picture.now.widths.1 (flat_is c.args.site.now.qp c.blank-mb.result c.first_mode-modes.result c.blank-mb.ensures c.first_mode-modes.ensures)
    c.build_luma.ensures.samples c.build_component.ensures.samples c.build_component-2.ensures.samples
