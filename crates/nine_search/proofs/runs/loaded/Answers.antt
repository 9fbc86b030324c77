use Rattle.std.proofs.Common.{◌≡◌, ◌+◌, ℕ, arith, ap, get_or, ◌∙◌}
use Rattle.std.proofs.lemmas.Simd.{get_or-chunk}
use Rattle.nine_search.proofs.runs.loaded.Goals as goal

pub returns-clause-value : goal.returns-clause-value
returns-clause-value c i p =
    let e : 0 + i ≡ i = omega arith in
    get_or-chunk 0 16 c.args.row.now i 0 p ∙ ap (λ (n : ℕ). get_or c.args.row.now n 0) e
