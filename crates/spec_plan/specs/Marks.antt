-- What is held while a plan goes on, by picture order counts and frame numbers, and that each step's lists have their entries.
use Rattle.std.specs.Prelude.{ℕ, ◌<◌, ◌≤◌, ◌⊎◌, Bool, List, [], ◌∷◌, length, take, if◌then◌else◌}
use Rattle.std.specs.List.{AllByRecursion}
use Rattle.enc_tables.specs.declared.records.PlanStep.{PlanStep}
use Rattle.enc_tables.specs.declared.records.SliceKind.{SliceKind}
use Rattle.enc_tables.specs.declared.records.SliceKind.TheVariants.{I, P, B}
use Rattle.spec_lists.specs.References.{Reference}
use Rattle.spec_lists.specs.Heads.{is_referred}

-- picture order count and frame_num of a reference; those of all that are held stand with the newest first
abbrev pub mark : Reference → ℕ × ℕ
mark r = (r.poc, r.frame_num)

abbrev pub marks_kept : Bool → List (ℕ × ℕ) → List (ℕ × ℕ)
marks_kept idr marks = if idr then [] else marks

unfoldable pub marks_slid : ℕ → ℕ × ℕ → List (ℕ × ℕ) → List (ℕ × ℕ)
marks_slid places m marks = take places (m ∷ marks)

abbrev pub marks_after : ℕ → PlanStep → List (ℕ × ℕ) → List (ℕ × ℕ)
marks_after places st marks = if is_referred st.kind then marks_slid places (st.poc, st.frame_num) (marks_kept st.idr marks) else marks_kept st.idr marks

-- both fall
abbrev pub Falls : List (ℕ × ℕ) → Type 0
Falls [] = Unit {0}
Falls (m ∷ ms) = AllByRecursion (λ k. (k.0 < m.0) × (k.1 < m.1)) ms × Falls ms

-- a P picture refers to all that are held, which are before it; a B picture to the newest, which is shown behind it, and to others, shown before it
abbrev pub KindFits : SliceKind → ℕ → ℕ → List (ℕ × ℕ) → Type 0
KindFits I poc number marks = Unit {0}
KindFits P poc number marks = (1 ≤ length marks) × AllByRecursion (λ m. (m.0 < poc) × (m.1 < number)) marks
KindFits B poc number [] = ⊥
KindFits B poc number (m ∷ ms) = (1 ≤ length ms) × (poc < m.0) × AllByRecursion (λ k. k.0 < poc) ms

-- of each step, where these marks are held in so many places before the first
abbrev pub HasLists : ℕ → List (ℕ × ℕ) → List PlanStep → Type 0
HasLists places marks [] = Unit {0}
HasLists places marks (st ∷ sts) = KindFits st.kind st.poc st.frame_num (marks_kept st.idr marks) × Falls marks × (length marks ≤ places) × HasLists places (marks_after places st marks) sts

-- Places for the references of a plan: two where there are B pictures, which refer to one picture on each side.
abbrev pub HasRoom : (ℕ → ℕ) → ℕ → Type 0
HasRoom wanted places = (2 ≤ places) ⊎ ((d : ℕ) → wanted d ≤ 1)
