-- Pictures of a film that are read one by one.
use Rattle.std.proofs.Common.{ℕ, zero, suc, ◌+◌, ◌-◌, ◌≡◌, ◌<◌, ◌≤◌, List, [], ◌∷◌, ◌++◌, length, drop, refl, ap, sym, ◌∙◌, subst, arith, append_assoc, append-nil, length-append}
use Rattle.enc_edge.specs.Seen.{Seen}
use Rattle.enc_edge.specs.Reads.{Took, TookSome}
use Rattle.enc_edge.proofs.Spots.{drop_more}
use Rattle.spec_film.specs.declared.FilmHead.{FilmHead}
use Rattle.spec_film.specs.declared.InputFault.{InputFault}
use Rattle.spec_film.specs.Films.{Planes, FilmEnd, Ended, Faulty, Over, Next, Broken, most_pictures, frame_step, pictures_of}
use Rattle.spec_film.proofs.FilmLaws.{pictures_over, pictures_broken, pictures_next}
use Rattle.spec_film.specs.declared.InputFault.TheVariants.{TooLong}
use Rattle.y4m_film.specs.Taken.{PicturesTaken}
use Rattle.y4m_film.proofs.Remaining.{never_next, none_more}
use Rattle.encode_film.specs.Reading.{AreRead}

pub none_read : (head : FilmHead) (most : ℕ) (left : List ℕ) → AreRead head most 0 [] left
none_read head most left =
    let all : most - 0 ≡ most = omega arith in
    record { all = ap (λ n. (pictures_of n head left).0) all; end = ap (λ n. (pictures_of n head left).1) all }

pub more_read : (head : FilmHead) (most n m : ℕ) (pictures : List Planes) (planes : Planes) (left : List ℕ) → length pictures < most → AreRead head most n pictures left
    → frame_step (most - length pictures) head (drop n left) ≡ Next planes (drop m (drop n left)) → AreRead head most (n + m) (pictures ++ planes ∷ []) left
more_read head most n m pictures planes left below r next =
    let rest = drop m (drop n left) in
    let fewer = most - length (pictures ++ planes ∷ []) in
    let len : length (pictures ++ planes ∷ []) ≡ length pictures + 1 = length-append pictures (planes ∷ []) in
    let step : pictures_of (most - length pictures) head (drop n left) ≡ (planes ∷ (pictures_of fewer head rest).0, (pictures_of fewer head rest).1)
    = pictures_next (most - length pictures) fewer head (drop n left) planes rest next (omega (arith, len, below)) in
    let here : drop m (drop n left) ≡ drop (n + m) left = drop_more n m left in
    record {
      all = append_assoc pictures (planes ∷ []) (pictures_of fewer head (drop (n + m) left)).0
          ∙ ap (λ b. pictures ++ (planes ∷ (pictures_of fewer head b).0)) (sym here)
          ∙ ap (λ (p : List Planes × FilmEnd). pictures ++ p.0) (sym step) ∙ r.all;
      end = ap (λ b. (pictures_of fewer head b).1) (sym here) ∙ ap (λ (p : List Planes × FilmEnd). p.1) (sym step) ∙ r.end;
    }

ends_so : (head : FilmHead) (most n : ℕ) (pictures : List Planes) (end : FilmEnd) (left : List ℕ) → AreRead head most n pictures left
    → pictures_of (most - length pictures) head (drop n left) ≡ ([], end) → pictures_of most head left ≡ (pictures, end)
ends_so head most n pictures end left r e =
    pair (pictures_of most head left)
    (sym r.all ∙ ap (λ (p : List Planes × FilmEnd). pictures ++ p.0) e ∙ append-nil pictures)
    (sym r.end ∙ ap (λ (p : List Planes × FilmEnd). p.1) e)
  where
    pair : (p : List Planes × FilmEnd) → p.0 ≡ pictures → p.1 ≡ end → p ≡ (pictures, end)
    pair p a b = ap (λ x. (x, p.1)) a ∙ ap (λ y. (pictures, y)) b

step_over : (more : ℕ) (head : FilmHead) → frame_step more head [] ≡ Over
unfolding frame_step
step_over zero head = refl
step_over (suc more) head = refl

pub read_over : (head : FilmHead) (most n : ℕ) (pictures : List Planes) (left : List ℕ) → AreRead head most n pictures left → drop n left ≡ [] → pictures_of most head left ≡ (pictures, Ended)
read_over head most n pictures left r none =
    ends_so head most n pictures Ended left r
    (pictures_over (most - length pictures) head (drop n left) (ap (frame_step (most - length pictures) head) none ∙ step_over (most - length pictures) head))

pub read_broken : (head : FilmHead) (most n : ℕ) (pictures : List Planes) (fault : InputFault) (left : List ℕ) → AreRead head most n pictures left → frame_step (most - length pictures) head (drop n left) ≡ Broken fault
    → pictures_of most head left ≡ (pictures, Faulty fault)
read_broken head most n pictures fault left r broken =
    ends_so head most n pictures (Faulty fault) left r (pictures_broken (most - length pictures) head (drop n left) fault broken)

-- pictures behind others
pub read_both : (head : FilmHead) (n m : ℕ) (xs ys : List Planes) (left : List ℕ) → PicturesTaken head n xs left → AreRead head (most_pictures - length xs) m ys (drop n left) → PicturesTaken head (n + m) (xs ++ ys) left
read_both head n m xs ys left first second =
    let here : drop m (drop n left) ≡ drop (n + m) left = drop_more n m left in
    let len : length (xs ++ ys) ≡ length xs + length ys = length-append xs ys in
    let fewer : most_pictures - length (xs ++ ys) ≡ most_pictures - length xs - length ys = omega (arith, len) in
    record {
      all = append_assoc xs ys (pictures_of (most_pictures - length (xs ++ ys)) head (drop (n + m) left)).0
          ∙ ap (λ k. xs ++ (ys ++ (pictures_of k head (drop (n + m) left)).0)) fewer
          ∙ ap (λ b. xs ++ (ys ++ (pictures_of (most_pictures - length xs - length ys) head b).0)) (sym here)
          ∙ ap (λ (ps : List Planes). xs ++ ps) second.all ∙ first.all;
      end = ap (λ k. (pictures_of k head (drop (n + m) left)).1) fewer
          ∙ ap (λ b. (pictures_of (most_pictures - length xs - length ys) head b).1) (sym here)
          ∙ second.end ∙ first.end;
    }

-- behind the last picture that a film may have, none may come
pub past_the_last : (head : FilmHead) (number n : ℕ) (planes : Planes) (old new : Seen) → number ≡ 1000000 → Took n (λ left. (n ≤ length left) × (frame_step (most_pictures - number) head left ≡ Next planes (drop n left))) old new
    → TookSome (λ left. frame_step (most_pictures - number) head left ≡ Broken TooLong) old new
past_the_last head number n planes old new last t =
    let none : 0 ≡ most_pictures - number = none_more number last in
    subst (λ k. TookSome (λ left. frame_step k head left ≡ Broken TooLong) old new) none
    (never_next head n planes TooLong old new (subst (λ k. Took n (λ left. (n ≤ length left) × (frame_step k head left ≡ Next planes (drop n left))) old new) (sym none) t))
