-- The report of an encoding: a line at its start, one for each picture in coded order, and one at its end.
use Rattle.std.specs.Prelude.{ℕ, zero, suc, ◌+◌, ◌*◌, List, [], ◌∷◌, ◌++◌, length}
use Rattle.std.specs.List.{sum_by}
use Rattle.spec_report.specs.declared.ReportHead.{ReportHead}
use Rattle.spec_report.specs.declared.ReportPicture.{ReportPicture}
use Rattle.spec_report.specs.declared.ReportTotals.{ReportTotals}
use Rattle.spec_report.specs.Lines.{head_line, picture_line, totals_line}
use Rattle.spec_coding.specs.Encoding.{State, Coded, Went}

-- what is told of the picture in this place of the coded order
abbrev pub reported : {S : Type 0} → ℕ → Coded S → ReportPicture
reported place d = record {
  coded = place;
  display = d.access.step.display;
  kind = d.access.step.kind;
  qp = d.picked.qp;
  coarsest = d.picked.coarsest;
  bits = d.picked.bits;
  filler = 8 * d.picked.filler;
  have = d.picked.have;
}

-- the lines of pictures from this place on
unfoldable pub picture_lines : {S : Type 0} → ℕ → List (Coded S) → List ℕ
picture_lines place [] = []
picture_lines place (d ∷ ds) = picture_line (reported place d) ++ picture_lines (place + 1) ds

-- the lines up to the last of these pictures
abbrev pub report_to : {S : Type 0} → ReportHead → List (Coded S) → List ℕ
report_to h ds = head_line h ++ picture_lines 0 ds

-- the bits of a picture's access unit, with filler
abbrev pub bits_with_filler : {S : Type 0} → Coded S → ℕ
bits_with_filler d = d.picked.bits + 8 * d.picked.filler

abbrev pub totals_of : {S : Type 0} → List (Coded S) → ReportTotals
totals_of ds = record {
  pictures = length ds;
  bits = sum_by bits_with_filler ds;
  comparisons = sum_by (λ d. d.picked.compared) ds;
}

-- the whole report of an encoding that came to its end
abbrev pub whole_report : {S : Type 0} → ReportHead → List (Coded S) → List ℕ
whole_report h ds = report_to h ds ++ totals_line (totals_of ds)

-- the same numbers as they are kept between two steps
abbrev pub totals_in : State → ReportTotals
totals_in s = record { pictures = s.ledger.units; bits = s.ledger.bits; comparisons = s.compared }
