-- The lists by which slices name reference pictures (ITU-T H.264, clauses 8.2.4.1 to 8.2.4.3).
use Rattle.std.specs.Prelude.{ℕ, ◌+◌, ◌-◌, ◌%◌, ◌==◌, ◌||◌, nat_lt, nat_le, Bool, not, List, [], ◌∷◌, ◌++◌, length, take, map, pos, ℤ, Option, Some, None, option_and_then, if◌then◌else◌}
use Rattle.std.specs.Option.{option_map}
use Rattle.std.specs.List.{filter, find}
use Rattle.enc_tables.specs.declared.records.SliceKind.{SliceKind}
use Rattle.enc_tables.specs.declared.records.SliceKind.TheVariants.{I, P, B}
use Rattle.enc_tables.specs.declared.records.Motion.{Motion}
use Rattle.spec_headers.specs.declared.heads.SliceHead.{SliceHead}
use Rattle.spec_lists.specs.References.{Reference}

pub record Lists : Type 0 where
  pub list0 : List Reference
  pub list1 : List Reference

-- references by rising distance
unfoldable pub nearer_first : (Reference → ℕ) → Reference → List Reference → List Reference
nearer_first far r [] = r ∷ []
nearer_first far r (q ∷ qs) = if nat_lt (far q) (far r) then q ∷ nearer_first far r qs else r ∷ q ∷ qs

unfoldable pub nearest_first : (Reference → ℕ) → List Reference → List Reference
nearest_first far [] = []
nearest_first far (r ∷ rs) = nearer_first far r (nearest_first far rs)

-- how far PicNum lies below CurrPicNum, modulo MaxPicNum (equations 8-27 and 8-28)
abbrev pub number_distance : ℕ → Reference → ℕ
number_distance frame_num r = (frame_num + 65536 - r.frame_num) % 65536

-- by falling PicNum (clause 8.2.4.2.1)
abbrev pub by_number : ℕ → List Reference → List Reference
by_number frame_num held = nearest_first (number_distance frame_num) held

-- those that are shown before a picture, by falling picture order count, and those behind it, by rising (clause 8.2.4.2.3)
abbrev pub shown_before : ℕ → List Reference → List Reference
shown_before poc held = nearest_first (λ r. poc - r.poc) (filter (λ r. nat_lt r.poc poc) held)

abbrev pub shown_behind : ℕ → List Reference → List Reference
shown_behind poc held = nearest_first (λ r. r.poc - poc) (filter (λ r. nat_lt poc r.poc) held)

-- the first two in the other order
abbrev pub exchanged : List Reference → List Reference
exchanged [] = []
exchanged (r ∷ []) = r ∷ []
exchanged (r ∷ q ∷ qs) = q ∷ r ∷ qs

-- the initial lists, not yet cut
abbrev pub initial0 : SliceHead → SliceKind → List Reference → List Reference
initial0 h I held = []
initial0 h P held = by_number h.frame_num held
initial0 h B held = shown_before h.poc held ++ shown_behind h.poc held

-- where both lists would be the same, which they are where one of their parts is empty, the first two entries of list 1 change places
abbrev pub other_way : List Reference → List Reference → List Reference
other_way early late = if length early == 0 || length late == 0 then exchanged (late ++ early) else late ++ early

abbrev pub initial1 : SliceHead → SliceKind → List Reference → List Reference
initial1 h I held = []
initial1 h P held = []
initial1 h B held = other_way (shown_before h.poc held) (shown_behind h.poc held)

-- a list of so many entries (num_ref_idx_l0_active_minus1 + 1); nothing where there aren't as many
abbrev pub cut : ℕ → List Reference → Option (List Reference)
cut n list = if nat_le n (length list) then Some (take n list) else None

-- whether PicNum lies so far below CurrPicNum
abbrev pub is_so_far : ℕ → ℕ → Reference → Bool
is_so_far frame_num far r = number_distance frame_num r == far

abbrev pub in_front : ℕ → (Reference → Bool) → List Reference → Reference → List Reference
in_front n is list r = take n (r ∷ filter (λ q. not (is q)) list)

-- one command with modification_of_pic_nums_idc 0 moves the picture that it names to the front (clause 8.2.4.3.1)
abbrev pub modified : SliceHead → List Reference → Option ℕ → List Reference → Option (List Reference)
modified h held None list = Some list
modified h held (Some difference) list =
    let is : Reference → Bool = is_so_far h.frame_num (difference + 1) in option_map (in_front h.refs0 is list) (find is held)

-- the lists of a slice with this header; nothing where they haven't the entries that it tells
unfoldable pub lists_of : SliceHead → List Reference → Option Lists
lists_of h held =
    option_and_then (λ list0. option_map (λ list1. record { list0 = list0; list1 = list1 }) (cut h.refs1 (initial1 h h.kind held)))
    (option_and_then (modified h held h.moved) (cut h.refs0 (initial0 h h.kind held)))

-- what stands for both lists where there are none
abbrev pub no_lists : Lists
no_lists = record { list0 = []; list1 = [] }

-- which picture each entry is, told from the others by its picture order count (clause 8.7.2.1)
abbrev pub pictures_of : List Reference → List ℤ
pictures_of list = map (λ r. pos r.poc) list

-- the motion of the co-located picture, the first of list 1 (clause 8.4.1.2.1)
abbrev pub colocated : Lists → List (Bool × List Motion)
colocated lists = elim lists.list1 [ [] ↦ [] | r ∷ rs ↦ r.motion ]
