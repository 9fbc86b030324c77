-- Which pictures of the film are left.
use Rattle.std.proofs.Common.{ℕ, zero, suc, ◌+◌, ◌-◌, ◌≡◌, ◌<◌, ◌≤◌, List, [], ◌∷◌, ◌++◌, length, drop, Option, Some, None, refl, ap, sym, ◌∙◌, arith, append_assoc, append-nil}
use Rattle.std.specs.Prelude.{IfSome}
use Rattle.std.specs.Option.{option_map}
use Rattle.enc_edge.specs.Seen.{Seen}
use Rattle.enc_edge.specs.Reads.{Took, TookSome}
use Rattle.enc_edge.proofs.Spots.{drop_more}
use Rattle.spec_film.specs.declared.FilmHead.{FilmHead}
use Rattle.spec_film.specs.declared.InputFault.{InputFault}
use Rattle.spec_film.specs.Films.{Planes, FilmEnd, Ended, Faulty, Over, Next, Broken, most_pictures, frame_step, pictures_of}
use Rattle.spec_film.proofs.FilmLaws.{pictures_over, pictures_broken, pictures_next, next_none}
use Rattle.y4m_film.specs.Taken.{PicturesTaken}

-- the pictures so far, and those that the bytes behind them have, are all pictures, and both end alike
pub record Remains (head : FilmHead) (number n : ℕ) (pictures : List Planes) (left : List ℕ) : Type 0 where
  pub all : pictures ++ (pictures_of (most_pictures - number) head (drop n left)).0 ≡ (pictures_of most_pictures head left).0
  pub end : (pictures_of (most_pictures - number) head (drop n left)).1 ≡ (pictures_of most_pictures head left).1

pub remains_none : (head : FilmHead) (o : Option (List ℕ)) → IfSome o (Remains head 0 0 [])
remains_none head None = tt
remains_none head (Some left) = record { all = refl; end = refl }

-- so the first n bytes are the pictures so far
pub taken_of : (head : FilmHead) (number n : ℕ) (pictures : List Planes) (o : Option (List ℕ)) → length pictures ≡ number → IfSome o (Remains head number n pictures) → IfSome o (PicturesTaken head n pictures)
taken_of head number n pictures None size r = tt
taken_of head number n pictures (Some left) size r = record {
  all = ap (λ k. pictures ++ (pictures_of (most_pictures - k) head (drop n left)).0) size ∙ r.all;
  end = ap (λ k. (pictures_of (most_pictures - k) head (drop n left)).1) size ∙ r.end;
}

one_more : (head : FilmHead) (number n m : ℕ) (pictures : List Planes) (planes : Planes) (left : List ℕ) → number < most_pictures → Remains head number n pictures left
    → frame_step (most_pictures - number) head (drop n left) ≡ Next planes (drop m (drop n left)) → Remains head (number + 1) (n + m) (pictures ++ planes ∷ []) left
one_more head number n m pictures planes left below r next =
    let rest = drop m (drop n left) in
    let fewer = most_pictures - (number + 1) in
    let step : pictures_of (most_pictures - number) head (drop n left) ≡ (planes ∷ (pictures_of fewer head rest).0, (pictures_of fewer head rest).1)
    = pictures_next (most_pictures - number) fewer head (drop n left) planes rest next (one_less most_pictures number below) in
    let here : drop m (drop n left) ≡ drop (n + m) left = drop_more n m left in
    record {
      all = append_assoc pictures (planes ∷ []) (pictures_of fewer head (drop (n + m) left)).0
          ∙ ap (λ b. pictures ++ (planes ∷ (pictures_of fewer head b).0)) (sym here)
          ∙ ap (λ (p : List Planes × FilmEnd). pictures ++ p.0) (sym step) ∙ r.all;
      end = ap (λ b. (pictures_of fewer head b).1) (sym here) ∙ ap (λ (p : List Planes × FilmEnd). p.1) (sym step) ∙ r.end;
    }
  where
    one_less : (most k : ℕ) → k < most → most - k ≡ most - (k + 1) + 1
    one_less most k below = omega arith

pub remains_more : (head : FilmHead) (number n m : ℕ) (pictures : List Planes) (planes : Planes) (o : Option (List ℕ)) → number < most_pictures → IfSome o (Remains head number n pictures)
    → IfSome (option_map (drop n) o) (λ left. frame_step (most_pictures - number) head left ≡ Next planes (drop m left)) → IfSome o (Remains head (number + 1) (n + m) (pictures ++ planes ∷ []))
remains_more head number n m pictures planes None below r next = tt
remains_more head number n m pictures planes (Some left) below r next = one_more head number n m pictures planes left below r next

ends_so : (head : FilmHead) (number n : ℕ) (pictures : List Planes) (end : FilmEnd) (left : List ℕ) → Remains head number n pictures left
    → pictures_of (most_pictures - number) head (drop n left) ≡ ([], end) → pictures_of most_pictures head left ≡ (pictures, end)
ends_so head number n pictures end left r e =
    pair (pictures_of most_pictures head left)
    (sym r.all ∙ ap (λ (p : List Planes × FilmEnd). pictures ++ p.0) e ∙ append-nil pictures)
    (sym r.end ∙ ap (λ (p : List Planes × FilmEnd). p.1) e)
  where
    pair : (p : List Planes × FilmEnd) → p.0 ≡ pictures → p.1 ≡ end → p ≡ (pictures, end)
    pair p a b = ap (λ x. (x, p.1)) a ∙ ap (λ y. (pictures, y)) b

-- all pictures of the bytes, where nothing is left behind them
taken_whole : (head : FilmHead) (n : ℕ) (pictures : List Planes) (left : List ℕ) → pictures_of most_pictures head left ≡ (pictures, Ended) → pictures_of (most_pictures - length pictures) head (drop n left) ≡ ([], Ended)
    → PicturesTaken head n pictures left
taken_whole head n pictures left are over = record {
  all = ap (λ (p : List Planes × FilmEnd). pictures ++ p.0) over ∙ append-nil pictures ∙ sym (ap (λ (p : List Planes × FilmEnd). p.0) are);
  end = ap (λ (p : List Planes × FilmEnd). p.1) over ∙ sym (ap (λ (p : List Planes × FilmEnd). p.1) are);
}

step_over : (more : ℕ) (head : FilmHead) → frame_step more head [] ≡ Over
unfolding frame_step
step_over zero head = refl
step_over (suc more) head = refl

pub remains_over : (head : FilmHead) (number n : ℕ) (pictures : List Planes) (o : Option (List ℕ)) → IfSome o (Remains head number n pictures) → IfSome (option_map (drop n) o) (λ left. left ≡ [])
    → IfSome o (λ left. pictures_of most_pictures head left ≡ (pictures, Ended))
remains_over head number n pictures None r none = tt
remains_over head number n pictures (Some left) r none =
    ends_so head number n pictures Ended left r
    (pictures_over (most_pictures - number) head (drop n left) (ap (frame_step (most_pictures - number) head) none ∙ step_over (most_pictures - number) head))

pub taken_all : (head : FilmHead) (n : ℕ) (pictures : List Planes) (o : Option (List ℕ)) → IfSome o (λ left. pictures_of most_pictures head left ≡ (pictures, Ended)) → IfSome o (λ left. drop n left ≡ [])
    → IfSome o (PicturesTaken head n pictures)
taken_all head n pictures None are none = tt
taken_all head n pictures (Some left) are none =
    taken_whole head n pictures left are
    (pictures_over (most_pictures - length pictures) head (drop n left) (ap (frame_step (most_pictures - length pictures) head) none ∙ step_over (most_pictures - length pictures) head))

pub none_left : (n : ℕ) (o : Option (List ℕ)) → IfSome (option_map (drop n) o) (λ left. left ≡ []) → IfSome o (λ left. drop n left ≡ [])
none_left n None none = tt
none_left n (Some left) none = none

pub remains_broken : (head : FilmHead) (number n : ℕ) (pictures : List Planes) (fault : InputFault) (o : Option (List ℕ)) → IfSome o (Remains head number n pictures)
    → IfSome (option_map (drop n) o) (λ left. frame_step (most_pictures - number) head left ≡ Broken fault) → IfSome o (λ left. pictures_of most_pictures head left ≡ (pictures, Faulty fault))
remains_broken head number n pictures fault None r broken = tt
remains_broken head number n pictures fault (Some left) r broken =
    ends_so head number n pictures (Faulty fault) left r (pictures_broken (most_pictures - number) head (drop n left) fault broken)

pub of_both : (P Q : List ℕ → Type 0) (o : Option (List ℕ)) → IfSome o (λ left. P left × Q left) → IfSome o Q
of_both P Q None both = tt
of_both P Q (Some left) both = both.1

-- where no picture may come, none comes
pub never_next : (head : FilmHead) (n : ℕ) (planes : Planes) (fault : InputFault) (old new : Seen) → Took n (λ left. (n ≤ length left) × (frame_step 0 head left ≡ Next planes (drop n left))) old new
    → TookSome (λ left. frame_step 0 head left ≡ Broken fault) old new
never_next head n planes fault old new t = (n, record { change = t.change; content = go old.input.bytes t.content })
  where
    go : (o : Option (List ℕ)) → IfSome o (λ left. (n ≤ length left) × (frame_step 0 head left ≡ Next planes (drop n left))) → IfSome o (λ left. frame_step 0 head left ≡ Broken fault)
    go None t = tt
    go (Some left) t = absurd (next_none head left planes (drop n left) t.1)

-- behind the last picture that a film may have, none may come
pub none_more : (number : ℕ) → number ≡ 1000000 → 0 ≡ most_pictures - number
none_more number last = omega arith
