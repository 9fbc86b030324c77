-- A worked plan.
use Rattle.std.proofs.Common.{◌≡◌, true, false, [], ◌∷◌, refl}
use Rattle.enc_tables.specs.declared.records.SliceKind.TheVariants.{I, P, B}
use Rattle.spec_plan.specs.Plan.{plan, group, b_steps, plan_of, fixed}

-- Seven pictures with two B pictures before each P picture, and an IDR picture at every fourth place; the groups at the end of a period and
-- of the film are shorter.
row_seven : plan_of (fixed 2) 4 7 ≡
    record { display = 0; kind = I; idr = true; frame_num = 0; poc = 0 }
    ∷ record { display = 3; kind = P; idr = false; frame_num = 1; poc = 6 }
    ∷ record { display = 1; kind = B; idr = false; frame_num = 2; poc = 2 }
    ∷ record { display = 2; kind = B; idr = false; frame_num = 2; poc = 4 }
    ∷ record { display = 4; kind = I; idr = true; frame_num = 0; poc = 0 }
    ∷ record { display = 6; kind = P; idr = false; frame_num = 1; poc = 4 }
    ∷ record { display = 5; kind = B; idr = false; frame_num = 2; poc = 2 } ∷ []
unfolding plan group b_steps
row_seven = refl
