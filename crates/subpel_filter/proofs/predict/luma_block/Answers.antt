use Rattle.std.proofs.Common.{◌≡◌, ◌≤◌, ◌+◌, ◌*◌, ◌/◌, ◌%◌, ℕ, arith}
use Rattle.picture_planes.specs.declared.plane.Plane.{Plane}
use Rattle.subpel_filter.specs.Near.{quarter_at}
use Rattle.subpel_filter.specs.Predicted.{luma_at}
use Rattle.subpel_filter.proofs.Written.{block_same}
use Rattle.subpel_filter.proofs.Filled.{luma_is, luma_fits, passed}
use Rattle.subpel_filter.proofs.predict.luma_block.Goals as goal

pub returns-then-w-eq16 : goal.returns-then-w-eq16
returns-then-w-eq16 c =
    let p : Plane = c.args.plane.now in
    let s : ℕ = c.moved-across.result in
    let t : ℕ = c.moved-down.result in
    let wide : c.args.w ≡ 16 = c.if-w-eq16.true in
    let right : c.args.x + 16 ≤ c.args.plane.now.width = omega (arith, wide, c.requires.inside.0) in
    let across = passed c.args.v.x s (4 * (c.args.x + 38)) c.requires.short.left c.requires.short.right c.moved-across.ensures in
    let down = passed c.args.v.y t (4 * (c.args.y + 38)) c.requires.short.up c.requires.short.down c.moved-down.ensures in
    block_same (quarter_at p (s % 4) (t % 4) (s / 4) (t / 4)) (luma_at p c.args.x c.args.y c.args.v) 16 c.args.w c.args.h c.quarter_block.new.out c.quarter_block.ensures wide
    (λ i j a b. luma_is p c.args.v c.args.x c.args.y i j s t c.requires.filled c.requires.margin across down
    (luma_fits s c.args.x 16 i p.width p.pad c.args.v.x across c.requires.short.right right a c.requires.margin)
    (luma_fits t c.args.y c.args.h j p.height p.pad c.args.v.y down c.requires.short.down c.requires.inside.1 b c.requires.margin))

pub returns-else-w-eq16 : goal.returns-else-w-eq16
returns-else-w-eq16 c =
    let p : Plane = c.args.plane.now in
    let s : ℕ = c.moved-across.result in
    let t : ℕ = c.moved-down.result in
    let wide : c.args.w ≡ 8 = (omega (arith, c.if-w-eq16.false, c.requires.width)) in
    let right : c.args.x + 8 ≤ c.args.plane.now.width = omega (arith, wide, c.requires.inside.0) in
    let across = passed c.args.v.x s (4 * (c.args.x + 38)) c.requires.short.left c.requires.short.right c.moved-across.ensures in
    let down = passed c.args.v.y t (4 * (c.args.y + 38)) c.requires.short.up c.requires.short.down c.moved-down.ensures in
    block_same (quarter_at p (s % 4) (t % 4) (s / 4) (t / 4)) (luma_at p c.args.x c.args.y c.args.v) 8 c.args.w c.args.h c.quarter_block-else-w-eq16.new.out c.quarter_block-else-w-eq16.ensures wide
    (λ i j a b. luma_is p c.args.v c.args.x c.args.y i j s t c.requires.filled c.requires.margin across down
    (luma_fits s c.args.x 8 i p.width p.pad c.args.v.x across c.requires.short.right right a c.requires.margin)
    (luma_fits t c.args.y c.args.h j p.height p.pad c.args.v.y down c.requires.short.down c.requires.inside.1 b c.requires.margin))
