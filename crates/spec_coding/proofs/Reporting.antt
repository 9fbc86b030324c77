-- Reports grow line by line, and their totals are what is kept between two steps.
use Rattle.std.proofs.Common.{ℕ, zero, suc, ◌+◌, ◌*◌, ◌≡◌, List, [], ◌∷◌, ◌++◌, length, refl, ap, sym, subst, ◌∙◌, arith, append_assoc, append-nil}
use Rattle.std.specs.List.{sum_by}
use Rattle.std.proofs.lemmas.List.Sums.{sum_by-cons}
use Rattle.enc_tables.specs.declared.records.PlanStep.{PlanStep}
use Rattle.spec_film.specs.Films.{Planes}
use Rattle.spec_headers.specs.declared.heads.SeqHead.{SeqHead}
use Rattle.spec_decoder.specs.Pictures.{Reading}
use Rattle.spec_buffer.specs.Ledger.{Ledger, fresh, spent}
use Rattle.spec_report.specs.declared.ReportHead.{ReportHead}
use Rattle.spec_report.specs.declared.ReportTotals.{ReportTotals}
use Rattle.spec_report.specs.Lines.{head_line, picture_line}
use Rattle.spec_coding.specs.Encoding.{State, Picked, Coded, Went, behind, coded, after, encoded}
use Rattle.spec_coding.specs.Trials.{Coder, Film, choice_of, moved_by}
use Rattle.spec_coding.specs.Report.{reported, picture_lines, report_to, bits_with_filler, totals_of, totals_in}
use Rattle.spec_coding.proofs.Going.{going}

lines_more : {S : Type 0} (place : ℕ) (ds : List (Coded S)) (d : Coded S) → picture_lines place (ds ++ d ∷ []) ≡ picture_lines place ds ++ picture_line (reported (place + length ds) d)
unfolding picture_lines
lines_more place [] d =
    let e : place ≡ place + 0 = omega arith in append-nil (picture_line (reported place d)) ∙ ap (λ k. picture_line (reported k d)) e
lines_more place (x ∷ xs) d =
    let e : place + 1 + length xs ≡ place + suc (length xs) = omega arith in
    ap (λ l. picture_line (reported place x) ++ l) (lines_more (place + 1) xs d ∙ ap (λ k. picture_lines (place + 1) xs ++ picture_line (reported k d)) e)
    ∙ sym (append_assoc (picture_line (reported place x)) (picture_lines (place + 1) xs) (picture_line (reported (place + suc (length xs)) d)))

pub reports_grow : {S : Type 0} (h : ReportHead) (ds : List (Coded S)) (d : Coded S) → report_to h (ds ++ d ∷ []) ≡ report_to h ds ++ picture_line (reported (length ds) d)
reports_grow h ds d =
    let e : 0 + length ds ≡ length ds = omega arith in
    ap (λ l. head_line h ++ l) (lines_more 0 ds d ∙ ap (λ k. picture_lines 0 ds ++ picture_line (reported k d)) e)
    ∙ sym (append_assoc (head_line h) (picture_lines 0 ds) (picture_line (reported (length ds) d)))

-- what these pictures add to what was kept before them
record AddsUp {S : Type 0} (s t : State) (ds : List (Coded S)) : Type 0 where
  units : t.ledger.units ≡ s.ledger.units + length ds
  bits : t.ledger.bits ≡ s.ledger.bits + sum_by bits_with_filler ds
  compared : t.compared ≡ s.compared + sum_by (λ d. d.picked.compared) ds

none_add : {S : Type 0} (s : State) → AddsUp {S = S} s s []
none_add s = record { units = omega arith; bits = omega arith; compared = omega arith }

one_adds : {S : Type 0} (r : Reading S) (q : SeqHead) (f : Film) (c : Coder S) (s t : State) (st : PlanStep) (p : Picked S) (ds : List (Coded S)) → AddsUp (after r q (choice_of f c) s st p) t ds → AddsUp s t (coded r q s st p ∷ ds)
unfolding after moved_by spent coded
one_adds {S} r q f c s t st p ds h =
    let bits : sum_by (bits_with_filler {S = S}) (coded r q s st p ∷ ds) ≡ p.bits + 8 * p.filler + sum_by (bits_with_filler {S = S}) ds = sum_by-cons (bits_with_filler {S = S}) (coded r q s st p) ds in
    let compared : sum_by (λ (d : Coded S). d.picked.compared) (coded r q s st p ∷ ds) ≡ p.compared + sum_by (λ (d : Coded S). d.picked.compared) ds = sum_by-cons (λ (d : Coded S). d.picked.compared) (coded r q s st p) ds in
    record { units = omega (arith, h.units); bits = omega (arith, h.bits, bits); compared = omega (arith, h.compared, compared) }

all_add : {S : Type 0} (r : Reading S) (q : SeqHead) (f : Film) (c : Coder S) (xs : List (PlanStep × Planes)) (s : State) → AddsUp s (encoded r q (choice_of f c) s xs).end (encoded r q (choice_of f c) s xs).done
all_add r q f c xs s =
    going r q (choice_of f c) (λ s xs w. AddsUp s w.end w.done) none_add (λ s x xs need have e. none_add s)
    (λ s x xs p w e h. one_adds r q f c s w.end x.0 p w.done h) xs s

three : (a b c d e f : ℕ) → a ≡ b → c ≡ d → e ≡ f → (let x : ReportTotals = record { pictures = a; bits = c; comparisons = e } in let y : ReportTotals = record { pictures = b; bits = d; comparisons = f } in x ≡ y)
three a b c d e f p q r = rw (p, q, r) refl

pub totals_add_up : {S : Type 0} (r : Reading S) (q : SeqHead) (f : Film) (c : Coder S) (qp : ℕ) (s : State) (xs : List (PlanStep × Planes)) → s.ledger ≡ fresh qp → s.compared ≡ 0
    → totals_of (encoded r q (choice_of f c) s xs).done ≡ totals_in (encoded r q (choice_of f c) s xs).end
totals_add_up r q f c qp s xs e z =
    let h = all_add r q f c xs s in
    let units : s.ledger.units ≡ 0 = ap (λ l. l.units) e in
    let bits : s.ledger.bits ≡ 0 = ap (λ l. l.bits) e in
    three _ _ _ _ _ _ (omega (arith, h.units, units)) (omega (arith, h.bits, bits)) (omega (arith, h.compared, z))
