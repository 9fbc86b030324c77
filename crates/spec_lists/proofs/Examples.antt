-- Worked rows of the command: no reference is less different than the first; the second is, one picture further back.
use Rattle.std.proofs.Common.{ℕ, ◌≡◌, List, [], ◌∷◌, Some, None, refl}
use Rattle.spec_lists.specs.References.{Reference}
use Rattle.spec_lists.specs.Reordering.{difference, least_from, moved_for}

held : ℕ → ℕ → List Reference
held a b =
    record { planes = record { luma = a ∷ 0 ∷ []; cb = []; cr = [] }; motion = []; poc = 2; frame_num = 1 }
    ∷ record { planes = record { luma = b ∷ 0 ∷ []; cb = []; cr = [] }; motion = []; poc = 0; frame_num = 0 } ∷ []

row_same : moved_for 2 (20 ∷ 0 ∷ []) (held 10 30) ≡ None
unfolding moved_for difference least_from held
row_same = refl

row_second : moved_for 2 (20 ∷ 0 ∷ []) (held 10 29) ≡ Some 1
unfolding moved_for difference least_from held
row_second = refl
