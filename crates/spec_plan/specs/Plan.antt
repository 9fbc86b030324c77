-- The order in which pictures are coded: in groups, each of which is an IDR picture, or the pictures up to a P picture, which is coded first.
use Rattle.std.specs.Prelude.{ℕ, zero, suc, ◌+◌, ◌-◌, ◌*◌, ◌%◌, ◌==◌, min, max, true, false, List, [], ◌∷◌, ◌++◌, map, if◌then◌else◌}
use Rattle.enc_tables.specs.declared.records.PlanStep.{PlanStep}
use Rattle.enc_tables.specs.declared.records.SliceKind.TheVariants.{I, P, B}

-- Every idr-th place in display order has an IDR picture; the picture order count of another is twice its distance from the last of them.
abbrev pub idr_step : ℕ → PlanStep
idr_step display = record { display = display; kind = I; idr = true; frame_num = 0; poc = 0 }

abbrev pub p_step : ℕ → ℕ → ℕ → PlanStep
p_step idr display number = record { display = display; kind = P; idr = false; frame_num = number; poc = 2 * (display % idr) }

-- B pictures have the number of the next reference
abbrev pub b_step : ℕ → ℕ → ℕ → PlanStep
b_step idr display number = record { display = display; kind = B; idr = false; frame_num = number + 1; poc = 2 * (display % idr) }

-- so many B pictures from this place on, behind the reference of this number
unfoldable pub b_steps : ℕ → ℕ → ℕ → ℕ → List PlanStep
b_steps idr display number zero = []
b_steps idr display number (suc k) = b_step idr display number ∷ b_steps idr (display + 1) number k

-- the group of so many pictures from this place on, whose reference picture has this number
unfoldable pub group : ℕ → ℕ → ℕ → ℕ → List PlanStep
group display got idr number =
    if display % idr == 0 then idr_step display ∷ []
    else p_step idr (display + (got - 1)) number ∷ b_steps idr display number (got - 1)

-- how many pictures a group has, of those that are left: one, where it is an IDR picture; else as many as are wanted there, but at least one,
-- and none from the next IDR picture on
abbrev pub group_size : (ℕ → ℕ) → ℕ → ℕ → ℕ → ℕ
group_size wanted idr display left =
    if display % idr == 0 then 1 else max 1 (min (wanted display) (min (idr - display % idr) left))

-- the number that the reference picture of the next group has
abbrev pub next_number : ℕ → ℕ → ℕ → ℕ
next_number idr display number = if display % idr == 0 then 1 else number + 1

-- so many groups at most
unfoldable pub plan : (ℕ → ℕ) → ℕ → ℕ → ℕ → ℕ → ℕ → List PlanStep
plan wanted idr zero display number left = []
plan wanted idr (suc groups) display number left =
    if left == 0 then []
    else group display (group_size wanted idr display left) idr number
    ++ plan wanted idr groups (display + group_size wanted idr display left) (next_number idr display number) (left - group_size wanted idr display left)

-- the plan of so many pictures, by how many pictures are wanted in the group at each place
abbrev pub plan_of : (ℕ → ℕ) → ℕ → ℕ → List PlanStep
plan_of wanted idr pictures = plan wanted idr pictures 0 0 pictures

-- groups of so many B pictures and a P picture
abbrev pub fixed : ℕ → ℕ → ℕ
fixed bframes display = bframes + 1

-- ---- the places of pictures in display order, and how often one stands among them

abbrev pub displays : List PlanStep → List ℕ
displays steps = map (λ st. st.display) steps

unfoldable pub times : ℕ → List ℕ → ℕ
times k [] = 0
times k (x ∷ xs) = (if x == k then 1 else 0) + times k xs
