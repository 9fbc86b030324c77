-- Rows worked by hand: two macroblocks side by side, both intra with QP 30, each of one value.
use Rattle.std.proofs.Common.{◌≡◌, ℕ, refl, true, false}
use Rattle.spec_filter.specs.declared.SampleLine.{SampleLine}
use Rattle.spec_filter.specs.Lines.{filtered, weak, strong, is_filtered, step_at, second}
use Rattle.spec_filter.specs.Strengths.{rule_at}

step_of : ℕ → ℕ → SampleLine
step_of a b = record { p3 = a; p2 = a; p1 = a; p0 = a; q0 = b; q1 = b; q2 = b; q3 = b }

seven : filtered (rule_at false 30 4) (step_of 100 107) ≡ record { p3 = 100; p2 = 101; p1 = 102; p0 = 103; q0 = 104; q1 = 105; q2 = 106; q3 = 107 }
unfolding rule_at step_of filtered strong is_filtered
seven = refl

eight : filtered (rule_at false 30 4) (step_of 100 108) ≡ record { p3 = 100; p2 = 100; p1 = 100; p0 = 102; q0 = 106; q1 = 108; q2 = 108; q3 = 108 }
unfolding rule_at step_of filtered strong is_filtered
eight = refl

-- the same inside a macroblock, and across chroma blocks
inner_luma : filtered (rule_at false 30 3) (step_of 100 107) ≡ record { p3 = 100; p2 = 100; p1 = 102; p0 = 103; q0 = 104; q1 = 105; q2 = 107; q3 = 107 }
unfolding rule_at step_of filtered weak is_filtered step_at second
inner_luma = refl

outer_chroma : filtered (rule_at true 29 4) (step_of 100 107) ≡ record { p3 = 100; p2 = 100; p1 = 100; p0 = 102; q0 = 105; q1 = 107; q2 = 107; q3 = 107 }
unfolding rule_at step_of filtered strong is_filtered
outer_chroma = refl

inner_chroma : filtered (rule_at true 29 3) (step_of 100 107) ≡ record { p3 = 100; p2 = 100; p1 = 100; p0 = 103; q0 = 104; q1 = 107; q2 = 107; q3 = 107 }
unfolding rule_at step_of filtered weak is_filtered step_at
inner_chroma = refl
