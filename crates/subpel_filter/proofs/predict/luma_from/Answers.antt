use Rattle.std.proofs.Common.{◌≡◌, ◌≤◌, ◌+◌, ◌*◌, ◌/◌, ◌%◌, ◌∙◌, ℕ, arith}
use Rattle.picture_planes.specs.declared.plane.Plane.{Plane}
use Rattle.spec_inter.specs.Halves.{halves_of}
use Rattle.subpel_filter.specs.Predicted.{luma_at}
use Rattle.subpel_filter.specs.Halves.{samples_at, kept_planes, kept_mean, luma_kept}
use Rattle.subpel_filter.proofs.Written.{block_same}
use Rattle.subpel_filter.proofs.Filled.{luma_fits, passed}
use Rattle.subpel_filter.proofs.Keeping.{quarter_is, agree_held, agree_halves, luma_is}
use Rattle.subpel_filter.proofs.predict.luma_from.Goals as goal

pub returns-then-w-eq16-clause-kept : goal.returns-then-w-eq16-clause-kept
returns-then-w-eq16-clause-kept c =
    let p : Plane = c.args.plane.now in
    let halves = c.args.halves.now in
    let s : ℕ = c.moved-right.result in
    let t : ℕ = c.moved-below.result in
    let wide : c.args.w ≡ 16 = c.if-w-eq16.true in
    let right : c.args.x + 16 ≤ p.width = omega (arith, wide, c.requires.inside.0) in
    let across = passed c.args.v.x s (4 * (c.args.x + 38)) c.requires.short.left c.requires.short.right c.moved-right.ensures in
    let down = passed c.args.v.y t (4 * (c.args.y + 38)) c.requires.short.up c.requires.short.down c.moved-below.ensures in
    block_same (kept_mean p halves (s % 4) (t % 4) (s / 4) (t / 4)) (luma_kept p halves c.args.x c.args.y c.args.v) 16 c.args.w c.args.h c.kept_block.new.out c.kept_block.ensures wide
    (λ i j a b. quarter_is (kept_planes p halves) p halves c.args.v c.args.x c.args.y i j s t (agree_held p halves c.requires.filled c.requires.sizes) c.requires.margin across down
    (luma_fits s c.args.x 16 i p.width p.pad c.args.v.x across c.requires.short.right right a c.requires.margin)
    (luma_fits t c.args.y c.args.h j p.height p.pad c.args.v.y down c.requires.short.down c.requires.inside.1 b c.requires.margin))

pub returns-then-w-eq16-clause-same : goal.returns-then-w-eq16-clause-same
returns-then-w-eq16-clause-same c = λ made.
    let p : Plane = c.args.plane.now in
    let halves = c.args.halves.now in
    let s : ℕ = c.moved-right.result in
    let t : ℕ = c.moved-below.result in
    let wide : c.args.w ≡ 16 = c.if-w-eq16.true in
    let right : c.args.x + 16 ≤ p.width = omega (arith, wide, c.requires.inside.0) in
    let across = passed c.args.v.x s (4 * (c.args.x + 38)) c.requires.short.left c.requires.short.right c.moved-right.ensures in
    let down = passed c.args.v.y t (4 * (c.args.y + 38)) c.requires.short.up c.requires.short.down c.moved-below.ensures in
    block_same (kept_mean p halves (s % 4) (t % 4) (s / 4) (t / 4)) (luma_at p c.args.x c.args.y c.args.v) 16 c.args.w c.args.h c.kept_block.new.out c.kept_block.ensures wide
    (λ i j a b. quarter_is (halves_of (samples_at p)) p halves c.args.v c.args.x c.args.y i j s t (agree_halves p halves c.requires.filled c.requires.sizes made) c.requires.margin across down
    (luma_fits s c.args.x 16 i p.width p.pad c.args.v.x across c.requires.short.right right a c.requires.margin)
    (luma_fits t c.args.y c.args.h j p.height p.pad c.args.v.y down c.requires.short.down c.requires.inside.1 b c.requires.margin) ∙ luma_is p halves c.args.v c.args.x c.args.y i j)

pub returns-else-w-eq16-clause-kept : goal.returns-else-w-eq16-clause-kept
returns-else-w-eq16-clause-kept c =
    let p : Plane = c.args.plane.now in
    let halves = c.args.halves.now in
    let s : ℕ = c.moved-right.result in
    let t : ℕ = c.moved-below.result in
    let wide : c.args.w ≡ 8 = (omega (arith, c.if-w-eq16.false, c.requires.width)) in
    let right : c.args.x + 8 ≤ p.width = omega (arith, wide, c.requires.inside.0) in
    let across = passed c.args.v.x s (4 * (c.args.x + 38)) c.requires.short.left c.requires.short.right c.moved-right.ensures in
    let down = passed c.args.v.y t (4 * (c.args.y + 38)) c.requires.short.up c.requires.short.down c.moved-below.ensures in
    block_same (kept_mean p halves (s % 4) (t % 4) (s / 4) (t / 4)) (luma_kept p halves c.args.x c.args.y c.args.v) 8 c.args.w c.args.h c.kept_block-else-w-eq16.new.out c.kept_block-else-w-eq16.ensures wide
    (λ i j a b. quarter_is (kept_planes p halves) p halves c.args.v c.args.x c.args.y i j s t (agree_held p halves c.requires.filled c.requires.sizes) c.requires.margin across down
    (luma_fits s c.args.x 8 i p.width p.pad c.args.v.x across c.requires.short.right right a c.requires.margin)
    (luma_fits t c.args.y c.args.h j p.height p.pad c.args.v.y down c.requires.short.down c.requires.inside.1 b c.requires.margin))

pub returns-else-w-eq16-clause-same : goal.returns-else-w-eq16-clause-same
returns-else-w-eq16-clause-same c = λ made.
    let p : Plane = c.args.plane.now in
    let halves = c.args.halves.now in
    let s : ℕ = c.moved-right.result in
    let t : ℕ = c.moved-below.result in
    let wide : c.args.w ≡ 8 = (omega (arith, c.if-w-eq16.false, c.requires.width)) in
    let right : c.args.x + 8 ≤ p.width = omega (arith, wide, c.requires.inside.0) in
    let across = passed c.args.v.x s (4 * (c.args.x + 38)) c.requires.short.left c.requires.short.right c.moved-right.ensures in
    let down = passed c.args.v.y t (4 * (c.args.y + 38)) c.requires.short.up c.requires.short.down c.moved-below.ensures in
    block_same (kept_mean p halves (s % 4) (t % 4) (s / 4) (t / 4)) (luma_at p c.args.x c.args.y c.args.v) 8 c.args.w c.args.h c.kept_block-else-w-eq16.new.out c.kept_block-else-w-eq16.ensures wide
    (λ i j a b. quarter_is (halves_of (samples_at p)) p halves c.args.v c.args.x c.args.y i j s t (agree_halves p halves c.requires.filled c.requires.sizes made) c.requires.margin across down
    (luma_fits s c.args.x 8 i p.width p.pad c.args.v.x across c.requires.short.right right a c.requires.margin)
    (luma_fits t c.args.y c.args.h j p.height p.pad c.args.v.y down c.requires.short.down c.requires.inside.1 b c.requires.margin) ∙ luma_is p halves c.args.v c.args.x c.args.y i j)
