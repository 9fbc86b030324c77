-- The lines of the report: one at the start, one for each picture in coded order, one at the end.
use Rattle.std.specs.Prelude.{ℕ, Bool, true, false, List, ◌++◌, codes, decimal}
use Rattle.enc_tables.specs.declared.records.SliceKind.{SliceKind}
use Rattle.enc_tables.specs.declared.records.SliceKind.TheVariants.{I, P, B}
use Rattle.spec_report.specs.declared.ReportHead.{ReportHead}
use Rattle.spec_report.specs.declared.ReportPicture.{ReportPicture}
use Rattle.spec_report.specs.declared.ReportTotals.{ReportTotals}

-- the settings that were completed
unfoldable pub head_line : ReportHead → List ℕ
head_line h =
    codes "rate " ++ decimal h.rate ++ codes " cpb " ++ decimal h.cpb ++ codes " delay " ++ decimal h.delay ++ codes " level " ++ decimal h.level
    ++ codes " slices " ++ decimal h.slices ++ codes "\n"

abbrev pub kind_letter : SliceKind → List ℕ
kind_letter I = codes "I"
kind_letter P = codes "P"
kind_letter B = codes "B"

abbrev pub coding_word : Bool → List ℕ
coding_word false = codes "plain"
coding_word true = codes "coarsest"

unfoldable pub picture_line : ReportPicture → List ℕ
picture_line p =
    decimal p.coded ++ codes " " ++ decimal p.display ++ codes " " ++ kind_letter p.kind ++ codes " qp " ++ decimal p.qp ++ codes " " ++ coding_word p.coarsest
    ++ codes " bits " ++ decimal p.bits ++ codes " filler " ++ decimal p.filler ++ codes " have " ++ decimal p.have ++ codes "\n"

unfoldable pub totals_line : ReportTotals → List ℕ
totals_line t = codes "pictures " ++ decimal t.pictures ++ codes " bits " ++ decimal t.bits ++ codes " comparisons " ++ decimal t.comparisons ++ codes "\n"
