use Rattle.std.proofs.Common.{◌+◌, ◌≤◌, ℕ, arith, subst, slice_index}
use Rattle.nine_search.specs.NineSearches.{wants}
use Rattle.nine_search.specs.Partitions.{partition_of}
use Rattle.nine_search.specs.Runs.{lane_of, apart_of, HoldsAt, is_below}
use Rattle.nine_search.proofs.Counting.{splat_at, one_wants, nine_add, below_most, part0, part1, part2, part3, part4, part5, part6, part7, part8}
use Rattle.nine_search.proofs.lanes.lane_wants.Goals as goal

pub returns : goal.returns
unfolding lane_of
returns c i p small =
    let l = apart_of c.args.own.now c.args.run.now in
    let limits = slice_index c.args.limits.now in
    let s0 = small 0 (omega arith) in
    let s1 = small 1 (omega arith) in
    let s2 = small 2 (omega arith) in
    let s3 = small 3 (omega arith) in
    let a : HoldsAt i (l 0 i) c.apart-a.result = c.apart-a.ensures i p in
    let b : HoldsAt i (l 1 i) c.apart-b.result = c.apart-b.ensures i p in
    let d : HoldsAt i (l 2 i) c.apart-c.result = c.apart-c.ensures i p in
    let e : HoldsAt i (l 3 i) c.apart-d.result = c.apart-d.ensures i p in
    let ab = c.both-upper.ensures i (l 0 i) (l 1 i) p a b (omega arith) in
    let de = c.both-lower.ensures i (l 2 i) (l 3 i) p d e (omega arith) in
    let ad = c.both-left.ensures i (l 0 i) (l 2 i) p a d (omega arith) in
    let be = c.both-right.ensures i (l 1 i) (l 3 i) p b e (omega arith) in
    let all = c.both-all.ensures i (l 0 i + l 1 i) (l 2 i + l 3 i) p ab de (omega arith) in
    let w : (v t : ℕ) → ℕ = λ v t. is_below v t in
    let v0 = w (l 0 i + l 1 i + (l 2 i + l 3 i)) c.limit_of.result in
    let v1 = w (l 0 i + l 1 i) c.limit_of-2.result in
    let v2 = w (l 2 i + l 3 i) c.limit_of-3.result in
    let v3 = w (l 0 i + l 2 i) c.limit_of-4.result in
    let v4 = w (l 1 i + l 3 i) c.limit_of-5.result in
    let v5 = w (l 0 i) c.limit_of-6.result in
    let v6 = w (l 1 i) c.limit_of-7.result in
    let v7 = w (l 2 i) c.limit_of-8.result in
    let v8 = w (l 3 i) c.limit_of-9.result in
    let m0 : v0 ≤ 1 = below_most _ _ in
    let m1 : v1 ≤ 1 = below_most _ _ in
    let m2 : v2 ≤ 1 = below_most _ _ in
    let m3 : v3 ≤ 1 = below_most _ _ in
    let m4 : v4 ≤ 1 = below_most _ _ in
    let m5 : v5 ≤ 1 = below_most _ _ in
    let m6 : v6 ≤ 1 = below_most _ _ in
    let m7 : v7 ≤ 1 = below_most _ _ in
    let h1 = c.more_wants-counts0.ensures i 0 _ p (splat_at i 0 p) all (omega arith) in
    let h2 = c.more_wants-counts1.ensures i (0 + v0) _ p h1 ab (omega arith) in
    let h3 = c.more_wants-counts2.ensures i (0 + v0 + v1) _ p h2 de (omega arith) in
    let h4 = c.more_wants-counts3.ensures i (0 + v0 + v1 + v2) _ p h3 ad (omega arith) in
    let h5 = c.more_wants-counts4.ensures i (0 + v0 + v1 + v2 + v3) _ p h4 be (omega arith) in
    let h6 = c.more_wants-counts5.ensures i (0 + v0 + v1 + v2 + v3 + v4) _ p h5 a (omega arith) in
    let h7 = c.more_wants-counts6.ensures i (0 + v0 + v1 + v2 + v3 + v4 + v5) _ p h6 b (omega arith) in
    let h8 = c.more_wants-counts7.ensures i (0 + v0 + v1 + v2 + v3 + v4 + v5 + v6) _ p h7 d (omega arith) in
    let h9 = c.more_wants.ensures i (0 + v0 + v1 + v2 + v3 + v4 + v5 + v6 + v7) _ p h8 e (omega arith) in
    subst (λ (n : ℕ). HoldsAt i n c.more_wants.result)
    (nine_add (λ k. wants (partition_of l k) (limits k) i) v0 v1 v2 v3 v4 v5 v6 v7 v8
    (one_wants l limits 0 i _ _ (part0 l i) c.limit_of.ensures (omega arith))
    (one_wants l limits 1 i _ _ (part1 l i) c.limit_of-2.ensures (omega arith))
    (one_wants l limits 2 i _ _ (part2 l i) c.limit_of-3.ensures (omega arith))
    (one_wants l limits 3 i _ _ (part3 l i) c.limit_of-4.ensures (omega arith))
    (one_wants l limits 4 i _ _ (part4 l i) c.limit_of-5.ensures (omega arith))
    (one_wants l limits 5 i _ _ (part5 l i) c.limit_of-6.ensures (omega arith))
    (one_wants l limits 6 i _ _ (part6 l i) c.limit_of-7.ensures (omega arith))
    (one_wants l limits 7 i _ _ (part7 l i) c.limit_of-8.ensures (omega arith))
    (one_wants l limits 8 i _ _ (part8 l i) c.limit_of-9.ensures (omega arith)))
    h9
