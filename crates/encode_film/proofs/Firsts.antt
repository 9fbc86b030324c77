-- The first pictures of a film, and what their encoding tells of the film's.
use Rattle.std.proofs.Common.{ℕ, ◌+◌, ◌-◌, ◌≡◌, ◌≤◌, ◌<◌, ◌⊎◌, inl, inr, List, [], ◌++◌, length, take, Option, Some, None, refl, ap, sym, ◌∙◌, subst, arith, length-append, append-nil}
use Rattle.std.proofs.Math.Seq.{take-append-add, take-append_seam}
use Rattle.spec_film.specs.declared.InputFault.{InputFault}
use Rattle.spec_film.specs.Films.{Planes, FilmEnd, Ended, Faulty}
use Rattle.spec_decoder.specs.Macroblocks.{Slice as Read}
use Rattle.spec_coding.specs.Encoding.{Refusal, Went}
use Rattle.spec_coding.specs.Laws.{go_on}
use Rattle.spec_session.specs.Settings.{SessionSettings}
use Rattle.spec_session.specs.Encodings.{encoding, encoding_from}
use Rattle.spec_session.specs.Groups.{place_after, steps_from, full_at, whole_groups, coded_by}
use Rattle.spec_session.specs.Outputs.{AreFronts, written_by, written_to}
use Rattle.spec_session.proofs.Growing.{grows, fronts_grow, fronts_same, fronts_then, front_same}
use Rattle.spec_coding.specs.Report.{totals_of}
use Rattle.spec_report.specs.Lines.{totals_line}
use Rattle.encode_film.specs.Outputs.{outputs_by}
use Rattle.encode_film.proofs.Wholes.{whole_least, whole_is}

-- of the pictures that are coded these are the first: so many whole groups, or all
pub record AreFirst (f : SessionSettings) (pictures : List Planes) (film : List Planes × FilmEnd) : Type 0 where
  pub more : List Planes
  pub parts : coded_by f film.1 film.0 ≡ pictures ++ more
  pub whole : ((groups : ℕ) × (length pictures ≡ (place_after f groups).display)) ⊎ (more ≡ [])

pub first_all : (f : SessionSettings) (pictures : List Planes) (film : List Planes × FilmEnd) → film ≡ (pictures, Ended) → AreFirst f pictures film
first_all f pictures film is = record { more = []; parts = ap (λ (p : List Planes × FilmEnd). coded_by f p.1 p.0) is ∙ sym (append-nil pictures); whole = inr refl }

pub first_whole : (f : SessionSettings) (groups : ℕ) (pictures rest : List Planes) (film : List Planes × FilmEnd) → pictures ++ rest ≡ film.0 → length pictures ≡ (place_after f groups).display → AreFirst f pictures film
first_whole f groups pictures rest film are size = by film.1 refl
  where
    all : (end : FilmEnd) → film.1 ≡ end → coded_by f film.1 film.0 ≡ coded_by f end (pictures ++ rest)
    all end is = ap (λ (e : FilmEnd). coded_by f e film.0) is ∙ ap (λ (ps : List Planes). coded_by f end ps) (sym are)

    by : (end : FilmEnd) → film.1 ≡ end → AreFirst f pictures film
    by Ended is = record { more = rest; parts = all Ended is; whole = inl (groups, size) }
    by (Faulty fault) is =
        let n = whole_groups f (length (pictures ++ rest)) in
        let long = length-append pictures rest in
        let least : (place_after f groups).display ≤ n = whole_least f groups (length (pictures ++ rest)) (omega (arith, size, long)) in
        let sum : n ≡ length pictures + (n - length pictures) = omega (arith, size, least) in
        record {
          more = take (n - length pictures) rest;
          parts = all (Faulty fault) is ∙ ap (λ (k : ℕ). take k (pictures ++ rest)) sum ∙ take-append-add pictures rest (n - length pictures);
          whole = inl (groups, size);
        }

-- they are all that are coded of a film whose next group has a fault
pub cut_whole : (f : SessionSettings) (groups : ℕ) (pictures rest : List Planes) (fault : InputFault) → length pictures ≡ (place_after f groups).display → length rest < full_at f (place_after f groups) → coded_by f (Faulty fault) (pictures ++ rest) ≡ pictures
cut_whole f groups pictures rest fault size few =
    let long = length-append pictures rest in
    let n : whole_groups f (length (pictures ++ rest)) ≡ (place_after f groups).display = whole_is f groups (length (pictures ++ rest)) (omega (arith, size, long)) (omega (arith, size, long, few)) in
    ap (λ (k : ℕ). take k (pictures ++ rest)) (n ∙ sym size) ∙ take-append_seam pictures rest

-- ---- what follows for the film

-- a refusal is the film's
pub refused_so : (f : SessionSettings) (pictures : List Planes) (film : List Planes × FilmEnd) (r : Refusal) → AreFirst f pictures film → (encoding f pictures).refused ≡ Some r → encoding f (coded_by f film.1 film.0) ≡ encoding f pictures
refused_so f pictures film r first refused = ap (λ (ps : List Planes). encoding f ps) first.parts ∙ by first.whole
  where
    by : ((groups : ℕ) × (length pictures ≡ (place_after f groups).display)) ⊎ (first.more ≡ []) → encoding f (pictures ++ first.more) ≡ encoding f pictures
    by (inl g) =
        grows f g.0 pictures first.more g.1
        ∙ ap (λ (o : Option Refusal). go_on (λ t. encoding_from f t (steps_from f (place_after f g.0) first.more)) (encoding f pictures) o) refused
    by (inr none) = ap (λ (ps : List Planes). encoding f (pictures ++ ps)) none ∙ ap (λ (ps : List Planes). encoding f ps) (append-nil pictures)

-- with the report's last line or without it
fronts_by : (f : SessionSettings) (w : Went Read) (end : FilmEnd) → AreFronts (written_to f w.done) (written_by f w.refused end w.done)
fronts_by f w end = by w.refused end
  where
    by : (o : Option Refusal) (e : FilmEnd) → AreFronts (written_to f w.done) (written_by f o e w.done)
    by None Ended = record { stream = front_same (written_to f w.done).stream; recon = front_same (written_to f w.done).recon; report = (totals_line (totals_of w.done), refl) }
    by None (Faulty fault) = fronts_same (written_to f w.done)
    by (Some refusal) e = fronts_same (written_to f w.done)

-- what is written of them is a front of what the film gives
pub fronts_so : (f : SessionSettings) (pictures : List Planes) (film : List Planes × FilmEnd) → AreFirst f pictures film → AreFronts (written_to f (encoding f pictures).done) (outputs_by f film)
fronts_so f pictures film first =
    fronts_then (written_to f (encoding f pictures).done) (written_to f (encoding f (coded_by f film.1 film.0)).done) (outputs_by f film)
    (subst (λ (ps : List Planes). AreFronts (written_to f (encoding f pictures).done) (written_to f (encoding f ps).done)) (sym first.parts) (front (encoding f pictures).refused refl first.whole))
    (fronts_by f (encoding f (coded_by f film.1 film.0)) film.1)
  where
    same : encoding f (pictures ++ first.more) ≡ encoding f pictures → AreFronts (written_to f (encoding f pictures).done) (written_to f (encoding f (pictures ++ first.more)).done)
    same e = subst (λ (w : Went Read). AreFronts (written_to f (encoding f pictures).done) (written_to f w.done)) (sym e) (fronts_same (written_to f (encoding f pictures).done))

    front : (o : Option Refusal) → (encoding f pictures).refused ≡ o → ((groups : ℕ) × (length pictures ≡ (place_after f groups).display)) ⊎ (first.more ≡ [])
        → AreFronts (written_to f (encoding f pictures).done) (written_to f (encoding f (pictures ++ first.more)).done)
    front None none (inl g) = fronts_grow f g.0 pictures first.more g.1 none
    front (Some r) refused whole = same (sym (ap (λ (ps : List Planes). encoding f ps) first.parts) ∙ refused_so f pictures film r first refused)
    front None none (inr empty) = same (ap (λ (ps : List Planes). encoding f (pictures ++ ps)) empty ∙ ap (λ (ps : List Planes). encoding f ps) (append-nil pictures))
