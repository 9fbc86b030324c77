-- An encoding group by group, as a run goes on: a group is read whole before it is coded.
use Rattle.std.specs.Prelude.{ℕ, zero, suc, ◌+◌, ◌-◌, ◌≡◌, ◌≤◌, ◌<◌, nat_lt, List, length, take, map, if◌then◌else◌}
use Rattle.enc_tables.specs.declared.records.PlanStep.{PlanStep}
use Rattle.spec_film.specs.Films.{Planes, Film, FilmEnd, Ended, Faulty}
use Rattle.spec_plan.specs.Plan.{fixed, group, group_size, next_number, plan}
use Rattle.spec_session.specs.Settings.{SessionSettings}
use Rattle.spec_session.specs.Encodings.{picture_at}

-- Where a group begins: its place in display order, and the frame_num that its reference picture has, where it isn't an IDR picture.
pub record Place : Type 0 where
  pub display : ℕ
  pub number : ℕ

abbrev pub first_place : Place
first_place = record { display = 0; number = 0 }

-- behind a group of so many pictures
abbrev pub place_behind : SessionSettings → Place → ℕ → Place
place_behind f p got = record { display = p.display + got; number = next_number f.idr p.display p.number }

-- how many pictures the group at this place has, where so many are left
abbrev pub size_at : SessionSettings → Place → ℕ → ℕ
size_at f p left = group_size (fixed f.bframes) f.idr p.display left

-- steps with their pictures, the first of which in display order stands at this place
abbrev pub with_pictures : ℕ → List Planes → List PlanStep → List (PlanStep × Planes)
with_pictures display pictures steps = map (λ st. (st, picture_at pictures (st.display - display))) steps

-- of the group of these pictures, in coded order
abbrev pub group_steps : SessionSettings → Place → List Planes → List (PlanStep × Planes)
group_steps f p pictures = with_pictures p.display pictures (group p.display (length pictures) f.idr p.number)

-- of all groups of these pictures
abbrev pub steps_from : SessionSettings → Place → List Planes → List (PlanStep × Planes)
steps_from f p pictures = with_pictures p.display pictures (plan (fixed f.bframes) f.idr (length pictures) p.display p.number (length pictures))

-- ---- whole groups

-- how many pictures the group at this place has where the film goes on
abbrev pub full_size : (ℕ → ℕ) → ℕ → ℕ → ℕ
full_size wanted idr display = group_size wanted idr display (wanted display)

abbrev pub full_at : SessionSettings → Place → ℕ
full_at f p = full_size (fixed f.bframes) f.idr p.display

-- behind so many whole groups
unfoldable pub place_from : SessionSettings → ℕ → Place → Place
place_from f zero p = p
place_from f (suc k) p = place_from f k (place_behind f p (full_at f p))

abbrev pub place_after : SessionSettings → ℕ → Place
place_after f groups = place_from f groups first_place

-- ---- films with a fault

-- how many of so many pictures from this place on stand in groups that are whole; at most so many groups
unfoldable pub whole_from : (ℕ → ℕ) → ℕ → ℕ → ℕ → ℕ → ℕ
whole_from wanted idr zero display left = 0
whole_from wanted idr (suc groups) display left =
    if nat_lt left (full_size wanted idr display) then 0
    else full_size wanted idr display + whole_from wanted idr groups (display + full_size wanted idr display) (left - full_size wanted idr display)

abbrev pub whole_groups : SessionSettings → ℕ → ℕ
whole_groups f pictures = whole_from (fixed f.bframes) f.idr pictures 0 pictures

-- so it is: the whole groups are so many, and what is left isn't another one
pub record IsCut (f : SessionSettings) (pictures : ℕ) : Type 0 where
  pub groups : ℕ
  pub display_is : (place_after f groups).display ≡ whole_groups f pictures
  pub most : whole_groups f pictures ≤ pictures
  pub rest : pictures - whole_groups f pictures < full_at f (place_after f groups)

-- The pictures of a film that are coded: a group in which a fault is met isn't, and nothing behind it.
abbrev pub coded_by : SessionSettings → FilmEnd → List Planes → List Planes
coded_by f Ended pictures = pictures
coded_by f (Faulty fault) pictures = take (whole_groups f (length pictures)) pictures

abbrev pub coded_pictures : SessionSettings → Film → List Planes
coded_pictures f film = coded_by f film.end film.pictures
