use Rattle.std.proofs.Common.{ap, ◌∙◌, sym, arith, ◌/◌}
use Rattle.spec_filter.specs.declared.MbEdges.{MbEdges}
use Rattle.deblock.proofs.Filtered.{filtered_none, filtered_more, filtered_all, left_placed, above_placed}
use Rattle.deblock.proofs.picture.deblock_picture.Goals as goal

pub loop-m-init : goal.loop-m-init
loop-m-init c = filtered_none _ _ c.args.picture.now

pub filter_luma_of-requires-clause-left : goal.filter_luma_of-requires-clause-left
filter_luma_of-requires-clause-left c =
    λ e. left_placed c.args.pictures0.now c.args.pictures1.now c.args.records.now (c.args.picture.now.y.width / 16) c.loop-m.m (sym (ap (λ (v : MbEdges). v.left) c.edges_of-edges.ensures.value) ∙ e)

pub filter_luma_of-requires-clause-above : goal.filter_luma_of-requires-clause-above
filter_luma_of-requires-clause-above c =
    λ e. above_placed c.args.pictures0.now c.args.pictures1.now c.args.records.now (c.args.picture.now.y.width / 16) c.loop-m.m (sym (ap (λ (v : MbEdges). v.above) c.edges_of-edges.ensures.value) ∙ e)

pub filter_chroma_of-requires-clause-left : goal.filter_chroma_of-requires-clause-left
filter_chroma_of-requires-clause-left c =
    λ e. left_placed c.args.pictures0.now c.args.pictures1.now c.args.records.now (c.args.picture.now.y.width / 16) c.loop-m.m (sym (ap (λ (v : MbEdges). v.left) c.edges_of-edges.ensures.value) ∙ e)

pub filter_chroma_of-requires-clause-above : goal.filter_chroma_of-requires-clause-above
filter_chroma_of-requires-clause-above c =
    λ e. above_placed c.args.pictures0.now c.args.pictures1.now c.args.records.now (c.args.picture.now.y.width / 16) c.loop-m.m (sym (ap (λ (v : MbEdges). v.above) c.edges_of-edges.ensures.value) ∙ e)

pub filter_chroma_of-requires-in-loop-m-clause-left :
    goal.filter_chroma_of-requires-in-loop-m-clause-left
filter_chroma_of-requires-in-loop-m-clause-left c =
    λ e. left_placed c.args.pictures0.now c.args.pictures1.now c.args.records.now (c.args.picture.now.y.width / 16) c.loop-m.m (sym (ap (λ (v : MbEdges). v.left) c.edges_of-edges.ensures.value) ∙ e)

pub filter_chroma_of-requires-in-loop-m-clause-above :
    goal.filter_chroma_of-requires-in-loop-m-clause-above
filter_chroma_of-requires-in-loop-m-clause-above c =
    λ e. above_placed c.args.pictures0.now c.args.pictures1.now c.args.records.now (c.args.picture.now.y.width / 16) c.loop-m.m (sym (ap (λ (v : MbEdges). v.above) c.edges_of-edges.ensures.value) ∙ e)

pub loop-m-preserved : goal.loop-m-preserved
loop-m-preserved c =
    filtered_more _ _ c.loop-m.m c.edges_of-edges.result c.args.picture.now c.loop-m.picture _ c.edges_of-edges.ensures.value c.loop-m.invariant
    c.filter_luma_of.ensures.shape c.filter_luma_of.ensures.samples
    c.filter_chroma_of.ensures.shape c.filter_chroma_of.ensures.samples
    c.filter_chroma_of-in-loop-m.ensures.shape c.filter_chroma_of-in-loop-m.ensures.samples

pub returns-clause-value : goal.returns-clause-value
returns-clause-value c =
    filtered_all c.args.pictures0.now c.args.pictures1.now c.args.records.now c.loop-m.m c.args.picture.now c.loop-m.picture c.requires.count (omega arith) c.loop-m.invariant
