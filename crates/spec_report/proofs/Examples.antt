-- Worked lines, as another encoder writes them.
use Rattle.std.proofs.Common.{◌≡◌, true, false, codes, refl}
use Rattle.std.specs.Fmt.{digits}
use Rattle.enc_tables.specs.declared.records.SliceKind.TheVariants.{I, P}
use Rattle.spec_report.specs.Lines.{head_line, picture_line, totals_line}

head : head_line (record { rate = 64000; cpb = 3200; delay = 2250; level = 10; slices = 1 }) ≡ codes "rate 64000 cpb 3200 delay 2250 level 10 slices 1\n"
unfolding head_line digits
head = refl

picture : picture_line (record { coded = 1; display = 2; kind = P; qp = 25; coarsest = false; bits = 928; filler = 1616; have = 3184 }) ≡ codes "1 2 P qp 25 plain bits 928 filler 1616 have 3184\n"
unfolding picture_line digits
picture = refl

coarsest_picture : picture_line (record { coded = 0; display = 0; kind = I; qp = 51; coarsest = true; bits = 640; filler = 0; have = 720 }) ≡ codes "0 0 I qp 51 coarsest bits 640 filler 0 have 720\n"
unfolding picture_line digits
coarsest_picture = refl

totals : totals_line (record { pictures = 3; bits = 6080; comparisons = 1838 }) ≡ codes "pictures 3 bits 6080 comparisons 1838\n"
unfolding totals_line digits
totals = refl
