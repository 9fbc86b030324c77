use Rattle.std.proofs.Common.{◌≡◌, ◌≤◌, ◌+◌, ◌*◌, ◌/◌, ◌%◌, ℕ, arith}
use Rattle.picture_planes.specs.declared.plane.Plane.{Plane}
use Rattle.subpel_filter.specs.Near.{eighth_in}
use Rattle.subpel_filter.specs.Predicted.{chroma_at}
use Rattle.subpel_filter.proofs.Written.{block_same}
use Rattle.subpel_filter.proofs.Filled.{chroma_is, chroma_fits, passed}
use Rattle.subpel_filter.proofs.predict.chroma_block.Goals as goal

pub returns-then-w-eq8 : goal.returns-then-w-eq8
returns-then-w-eq8 c =
    let p : Plane = c.args.plane.now in
    let s : ℕ = c.moved-across.result in
    let t : ℕ = c.moved-down.result in
    let wide : c.args.w ≡ 8 = c.if-w-eq8.true in
    let right : c.args.x + 8 ≤ c.args.plane.now.width = omega (arith, wide, c.requires.inside.0) in
    let across = passed c.args.v.x s (8 * (c.args.x + 20)) c.requires.short.left c.requires.short.right c.moved-across.ensures in
    let down = passed c.args.v.y t (8 * (c.args.y + 20)) c.requires.short.up c.requires.short.down c.moved-down.ensures in
    block_same (eighth_in p (s % 8) (t % 8) (s / 8) (t / 8)) (chroma_at p c.args.x c.args.y c.args.v) 8 c.args.w c.args.h c.eighth_block.new.out c.eighth_block.ensures wide
    (λ i j a b. chroma_is p c.args.v c.args.x c.args.y i j s t c.requires.filled c.requires.margin across down
    (chroma_fits s c.args.x 8 i p.width p.pad c.args.v.x across c.requires.short.right right a c.requires.margin)
    (chroma_fits t c.args.y c.args.h j p.height p.pad c.args.v.y down c.requires.short.down c.requires.inside.1 b c.requires.margin))

pub returns-else-w-eq8 : goal.returns-else-w-eq8
returns-else-w-eq8 c =
    let p : Plane = c.args.plane.now in
    let s : ℕ = c.moved-across.result in
    let t : ℕ = c.moved-down.result in
    let wide : c.args.w ≡ 4 = (omega (arith, c.if-w-eq8.false, c.requires.width)) in
    let right : c.args.x + 4 ≤ c.args.plane.now.width = omega (arith, wide, c.requires.inside.0) in
    let across = passed c.args.v.x s (8 * (c.args.x + 20)) c.requires.short.left c.requires.short.right c.moved-across.ensures in
    let down = passed c.args.v.y t (8 * (c.args.y + 20)) c.requires.short.up c.requires.short.down c.moved-down.ensures in
    block_same (eighth_in p (s % 8) (t % 8) (s / 8) (t / 8)) (chroma_at p c.args.x c.args.y c.args.v) 4 c.args.w c.args.h c.eighth_block-else-w-eq8.new.out c.eighth_block-else-w-eq8.ensures wide
    (λ i j a b. chroma_is p c.args.v c.args.x c.args.y i j s t c.requires.filled c.requires.margin across down
    (chroma_fits s c.args.x 4 i p.width p.pad c.args.v.x across c.requires.short.right right a c.requires.margin)
    (chroma_fits t c.args.y c.args.h j p.height p.pad c.args.v.y down c.requires.short.down c.requires.inside.1 b c.requires.margin))
