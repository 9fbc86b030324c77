-- The decoder reads back what the coder wrote.
use Rattle.std.proofs.Common.{ℕ, zero, suc, ◌≡◌, ◌+◌, ◌-◌, ◌*◌, ◌/◌, ◌^◌, ◌<◌, ◌≤◌, Bool, true, false, List, [], ◌∷◌, ◌++◌, map, length, Some, refl, sym, ap, ◌∙◌, arith, lit≤, pow-add, mod-eq_of_lt}
use Rattle.spec_bits.specs.Bits.{digit, digits, value}
use Rattle.spec_cabac.specs.Bins.{Bin, request_of, answer_of, is_end, EndsOnce}
use Rattle.spec_cabac.specs.Bins.Request.{Context, Bypass, Terminate}
use Rattle.spec_cabac.specs.Bins.Bin.{Answered}
use Rattle.spec_cabac.specs.Code.{Coded, step, run, with_last_set, arith_code, coded_start}
use Rattle.spec_cabac.specs.Decoder.{Reader, reader, refill, answered, decide, answer, at_end, take_bits, answers_from}
use Rattle.spec_cabac.specs.Law.{RoundTrip, ReadsBack, Gives, ReadsAll, EndsInOne, Piece, pieces_code, AllEnd, ReadsPieces}
use Rattle.spec_cabac.proofs.Ranges.{shifts-run, range-step, end_bounded}
use Rattle.spec_cabac.proofs.Replies.{IsIn, Replies, ReplyOf, bin_reply, high_side}
use Rattle.spec_bits.proofs.Digits.{length-digits, value-digits}
use Rattle.spec_cabac.proofs.Odd.{digits-odd}
use Rattle.std.proofs.Math.Seq.{drop-append_seam}

-- ---- all bins

pub record Follows (bs : List Bin) (e : Coded) (x : ℕ) (ws rest : List Bool) : Type 0 where
  pub inside : IsIn e x
  pub reads : (off read : ℕ) → e.low + off ≡ x → read ≡ e.shifts + 9 →
      record { last : Reader; all : Gives (reader off e.range read (ws ++ rest)) bs last; ended : last.ended ≡ true; left : last.left ≡ rest; count : last.read ≡ (run bs e).shifts + 9 }

-- the bin b before the bins bs
before : (b : Bin) (bs : List Bin) (e : Coded) (x : ℕ) (ws rest : List Bool)
    (m : Replies e (step b e) x ws rest (answer_of b) (λ off read. answer (request_of b) (reader off e.range read (ws ++ rest)))) →
    Follows bs (step b e) m.number m.bits rest → Follows (b ∷ bs) e x ws rest
before b bs e x ws rest m f = record {
  inside = m.inside f.inside;
  reads = λ off read a c.
      let r = m.replies f.inside off read a c in
      let l = f.reads r.offset r.taken r.at r.count in
      record { last = l.last; all = record { after = reader r.offset (step b e).range r.taken (m.bits ++ rest); answers = r.is; others = l.all }; ended = l.ended; left = l.left; count = l.count };
}

-- the end: the range has been added, so the number with its last digit set is in the upper part
end_follows : (e : Coded) (x : ℕ) (rest : List Bool) → 256 ≤ e.range → x ≡ with_last_set (e.low + (e.range - 2)) →
    Follows (Answered Terminate true ∷ []) e x [] rest
unfolding step decide
end_follows e x rest h v = record {
  inside = record { from = omega arith; below = omega arith };
  reads = λ off read a c. record {
    last = at_end (e.range - 2) (reader off e.range read rest);
    all = record {
      after = at_end (e.range - 2) (reader off e.range read rest);
      answers = high_side off (e.range - 2) _ true (answered false (refill 7 (reader off (e.range - 2) read rest))) _ (omega arith) refl;
      others = refl;
    };
    ended = refl;
    left = refl;
    count = c;
  };
}

follows_more : (b : Bin) (bs : List Bin) → is_end b ≡ false →
    ((e : Coded) (x : ℕ) (ws rest : List Bool) → 256 ≤ e.range →
    value x ws ≡ with_last_set (run bs e).low → e.shifts + length ws ≡ (run bs e).shifts → Follows bs e x ws rest) →
    (e : Coded) (x : ℕ) (ws rest : List Bool) → 256 ≤ e.range →
    value x ws ≡ with_last_set (run (b ∷ bs) e).low → e.shifts + length ws ≡ (run (b ∷ bs) e).shifts → Follows (b ∷ bs) e x ws rest
unfolding ReplyOf
follows_more b bs n ih e x ws rest h v c =
    let k : (step b e).shifts ≤ e.shifts + length ws = omega (arith, shifts-run bs (step b e)) in
    let m : Replies e (step b e) x ws rest (answer_of b) (λ off read. answer (request_of b) (reader off e.range read (ws ++ rest))) =
    bin_reply b e x ws rest n h k in
    before b bs e x ws rest m
    (ih (step b e) m.number m.bits rest (range-step b e n h) (m.same ∙ v) (m.count ∙ c))

pub follows : (bs : List Bin) → EndsOnce bs → (e : Coded) (x : ℕ) (ws rest : List Bool) → 256 ≤ e.range →
    value x ws ≡ with_last_set (run bs e).low → e.shifts + length ws ≡ (run bs e).shifts → Follows bs e x ws rest
follows [] k e x ws rest h v c = absurd k
follows (Answered Terminate true ∷ []) k e x [] rest h v c = unfold step in end_follows e x rest h v
follows (Answered Terminate true ∷ []) k e x (w ∷ ws) rest h v c = unfold step in absurd (omega arith)
follows (Answered Terminate true ∷ c ∷ cs) k e x ws rest h v d = cc
follows (Answered Terminate false ∷ bs) k e x ws rest h v c = follows_more (Answered Terminate false) bs refl (follows bs k) e x ws rest h v c
follows (Answered Bypass bit ∷ bs) k e x ws rest h v c = follows_more (Answered Bypass bit) bs refl (follows bs k) e x ws rest h v c
follows (Answered (Context c) bit ∷ bs) k e x ws rest h v d = follows_more (Answered (Context c) bit) bs refl (follows bs k) e x ws rest h v d

-- ---- the start

record Starts (n t off range read : ℕ) (ws rest : List Bool) : Type 0 where
  offset : ℕ
  taken : ℕ
  bits : List Bool
  same : value offset bits ≡ value off ws
  size : length bits ≡ t
  count : taken ≡ read + n
  is : take_bits n (reader off range read (ws ++ rest)) ≡ Some (reader offset range taken (bits ++ rest))

starts : (n t off range read : ℕ) (ws rest : List Bool) → length ws ≡ t + n → Starts n t off range read ws rest
unfolding take_bits
starts zero t off range read ws rest h = record { offset = off; taken = read; bits = ws; same = refl; size = omega arith; count = omega arith; is = refl }
starts (suc n) t off range read [] rest h = absurd (omega arith)
starts (suc n) t off range read (b ∷ ws) rest h =
    let s : Starts n t (2 * off + digit b) range (suc read) ws rest = starts n t (2 * off + digit b) range (suc read) ws rest (omega arith) in
    record { offset = s.offset; taken = s.taken; bits = s.bits; same = s.same; size = s.size; count = omega arith; is = s.is }

-- ---- the round trip

pub reads_all : (bs : List Bin) (rest : List Bool) → EndsOnce bs → ReadsAll bs rest
reads_all bs rest k =
    let e : Coded = run bs coded_start in
    let v : ℕ = with_last_set e.low in
    let ws : List Bool = digits (e.shifts + 9) v in
    let b : e.low + 2 ≤ 512 * 2 ^ e.shifts = end_bounded bs k coded_start (lit≤ tt) (record { bound = lit≤ tt }) in
    let p : 2 ^ (e.shifts + 9) ≡ 2 ^ e.shifts * 2 ^ 9 = pow-add 2 e.shifts 9 in
    let q : v < 2 ^ (e.shifts + 9) = omega arith in
    let w : value 0 ws ≡ v = value-digits (e.shifts + 9) v 0 ∙ omega (arith, mod-eq_of_lt q) in
    let s : Starts 9 e.shifts 0 510 0 ws rest = starts 9 e.shifts 0 510 0 ws rest (length-digits (e.shifts + 9) v) in
    let f : Follows bs coded_start s.offset s.bits rest = follows bs k coded_start s.offset s.bits rest (lit≤ tt) (s.same ∙ w) (omega (arith, s.size)) in
    let g = f.reads s.offset s.taken (omega arith) s.count in
    record {
      first = reader s.offset 510 s.taken (s.bits ++ rest);
      last = g.last;
      starts = s.is;
      gives = g.all;
      ended = g.ended;
      left = g.left;
      count = g.count ∙ sym (length-digits (e.shifts + 9) v);
    }

answers-Gives : (bs : List Bin) (r z : Reader) → Gives r bs z → answers_from (map request_of bs) r ≡ Some (record { answers = map answer_of bs; read = z.read })
answers-Gives [] r z h = rw (← h) refl
answers-Gives (b ∷ bs) r z h = rw (h.answers, answers-Gives bs h.after z h.others) refl

pub length-code : (bs : List Bin) → length (arith_code bs) ≡ (run bs coded_start).shifts + 9
length-code bs = length-digits ((run bs coded_start).shifts + 9) (with_last_set (run bs coded_start).low)

pub round_trip : (bs : List Bin) (rest : List Bool) → EndsOnce bs → RoundTrip bs rest
round_trip bs rest k =
    let a : ReadsAll bs rest = reads_all bs rest k in
    rw a.starts (answers-Gives bs a.first a.last a.gives ∙ ap (λ n. Some (record { answers = map answer_of bs; read = n })) (a.count ∙ length-code bs))

pub reads_back : (bs : List Bin) → EndsOnce bs → ReadsBack bs (arith_code bs)
reads_back bs k = λ rest. round_trip bs rest k ∙ ap (λ n. Some (record { answers = map answer_of bs; read = n })) (sym (length-code bs))

-- a reader goes through one list of bins after another
pub Gives-append : (xs ys : List Bin) (r z : Reader) → Gives r (xs ++ ys) z → (m : Reader) × Gives r xs m × Gives m ys z
Gives-append [] ys r z h = (r, refl, h)
Gives-append (x ∷ xs) ys r z h =
    let i : (m : Reader) × Gives h.after xs m × Gives m ys z = Gives-append xs ys h.after z h.others in
    (i.0, record { after = h.after; answers = h.answers; others = i.1 }, i.2)

-- ---- the last bit of a code

pub code_ends : (bs : List Bin) → EndsInOne (arith_code bs)
code_ends bs =
    let e : (run bs coded_start).shifts + 9 ≡ suc ((run bs coded_start).shifts + 8) = omega arith in
    record {
      before = digits ((run bs coded_start).shifts + 8) ((run bs coded_start).low / 2);
      same = ap (λ n. digits n (with_last_set (run bs coded_start).low)) e ∙ digits-odd ((run bs coded_start).shifts + 8) ((run bs coded_start).low / 2);
    }

-- ---- pieces

pub pieces_read : (ps : List Piece) → AllEnd ps → ReadsPieces ps (pieces_code ps)
pieces_read [] k = refl
pieces_read (p ∷ ps) k =
    let a : ReadsAll p.bins (p.gap ++ pieces_code ps) = reads_all p.bins (p.gap ++ pieces_code ps) k.0 in
    record {
      first = a.first;
      last = a.last;
      starts = a.starts;
      gives = a.gives;
      left = a.left;
      count = a.count;
      others = rw (a.left, drop-append_seam p.gap (pieces_code ps)) (pieces_read ps k.1);
    }
