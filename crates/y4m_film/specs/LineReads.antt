-- What was read of a line.
use Rattle.std.specs.Prelude.{ℕ, ◌≡◌, ◌≤◌, ◌<◌, ◌+◌, true, false, List, length, take, IfSome}
use Rattle.enc_edge.specs.declared.studio.Place.TheVariants.{Input}
use Rattle.enc_edge.specs.Seen.{Seen}
use Rattle.enc_edge.specs.Calls.{took, LaterFailed}
use Rattle.enc_edge.specs.Reads.{Took}
use Rattle.spec_film.specs.Films.{most_line, line_of, has_line}
use Rattle.y4m_film.specs.declared.lines.LineEnd.{LineEnd}
use Rattle.y4m_film.specs.declared.lines.LineEnd.TheVariants.{Whole, Cut, Long}

-- the line and its line feed are n bytes, which stand in `line`
abbrev pub WholeLine : ℕ → List ℕ → List ℕ → Type 0
WholeLine n line left = (n ≤ length left) × (has_line left ≡ true) × (length (line_of left) + 1 ≡ n) × (take n line ≡ take n left)

-- there are n bytes and no line feed; all stand in `line`
abbrev pub CutLine : ℕ → List ℕ → List ℕ → Type 0
CutLine n line left = (length left ≡ n) × (has_line left ≡ false) × (take n line ≡ left)

-- there is no line feed among as many bytes as a line may have, which stand in `line`
abbrev pub LongLine : List ℕ → List ℕ → Type 0
LongLine line left = (most_line ≤ length left) × (has_line left ≡ false) × (take most_line line ≡ take most_line left)

-- by how the reading ended: a line, and no byte past its line feed; all bytes; or as many as a line may have
abbrev pub LineIs : List ℕ → Seen → Seen → LineEnd → Type 0
LineIs line old new (Whole n) = (1 ≤ n) × (n ≤ most_line) × Took n (WholeLine n line) old new
LineIs line old new (Cut n) = (n < most_line) × Took n (CutLine n line) old new
LineIs line old new Long = Took most_line (LongLine line) old new

-- some bytes of a line were taken, none of them its line feed, and then a read failed
pub record LineUnread (old new : Seen) : Type 0 where
  pub count : ℕ
  pub few : count < most_line
  pub told : IfSome old.input.bytes (λ left. count ≤ length (line_of left))
  pub failed : LaterFailed Input (took Input count old) new
