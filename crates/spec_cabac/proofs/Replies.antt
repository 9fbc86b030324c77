-- What the decoder answers to one request.
use Rattle.std.proofs.Common.{ℕ, zero, suc, ◌≡◌, ◌+◌, ◌-◌, ◌*◌, ◌<◌, ◌≤◌, Bool, true, false, cond, List, [], ◌∷◌, ◌++◌, length, Option, Some, option_and_then, refl, ltb, lt-ltb, le-ltb, arith, true≢false}
use Rattle.enc_tables.specs.Arithmetic.{lps_range}
use Rattle.enc_tables.proofs.RangeTables.{Fits, lps_range_fits}
use Rattle.spec_bits.specs.Bits.{digit, value}
use Rattle.spec_cabac.specs.Bins.{Bin, request_of, answer_of, is_end}
use Rattle.spec_cabac.specs.Bins.Request.{Context, Bypass, Terminate}
use Rattle.spec_cabac.specs.Bins.Bin.{Answered}
use Rattle.spec_cabac.specs.Code.{Coded, renormalised, doubled, kept, taken, step}
use Rattle.spec_cabac.specs.Decoder.{Reader, reader, Answer, next_of, refill, answered, decide, answer}
use Rattle.spec_cabac.proofs.Ranges.{shifts-renormalised}

-- ---- where the number that was read stands

pub record IsIn (e : Coded) (x : ℕ) : Type 0 where
  pub from : e.low ≤ x
  pub below : x < e.low + e.range

-- the coder goes from e to f while the reader takes bits: x and ws are the number read and the bits left before
pub record Moves (e f : Coded) (x : ℕ) (ws rest : List Bool) (fill : ℕ → ℕ → Option Reader) : Type 0 where
  pub number : ℕ
  pub bits : List Bool
  pub same : value number bits ≡ value x ws
  pub count : f.shifts + length bits ≡ e.shifts + length ws
  pub inside : IsIn f number → IsIn e x
  pub fills : (off read : ℕ) → e.low + off ≡ x → read ≡ e.shifts + 9 →
      record { offset : ℕ; taken : ℕ; at : f.low + offset ≡ number; count : taken ≡ f.shifts + 9; is : fill off read ≡ Some (reader offset f.range taken (bits ++ rest)) }

pub digit_fits : (b : Bool) → digit b ≤ 1
digit_fits true = omega arith
digit_fits false = omega arith

-- a bit is taken, and the rest of the way follows
doubling : (e f : Coded) (x : ℕ) (b : Bool) (ws rest : List Bool) (fill : ℕ → ℕ → Option Reader) →
    Moves (doubled e) f (2 * x + digit b) ws rest fill →
    Moves e f x (b ∷ ws) rest (λ off read. fill (2 * off + digit b) (suc read))
doubling e f x b ws rest fill m = record {
  number = m.number;
  bits = m.bits;
  same = m.same;
  count = omega (arith, m.count);
  inside = λ i. let j : IsIn (doubled e) (2 * x + digit b) = m.inside i in
      let d : digit b ≤ 1 = digit_fits b in
      record { from = omega arith; below = omega arith };
  fills = λ off read a c. m.fills (2 * off + digit b) (suc read) (omega arith) (omega arith);
}

renorm : (n : ℕ) (e : Coded) (x : ℕ) (ws rest : List Bool) → (renormalised n e).shifts ≤ e.shifts + length ws →
    Moves e (renormalised n e) x ws rest (λ off read. refill n (reader off e.range read (ws ++ rest)))
unfolding renormalised refill
renorm zero e x ws rest h = record {
  number = x;
  bits = ws;
  same = refl;
  count = refl;
  inside = λ i. i;
  fills = λ off read a c. record { offset = off; taken = read; at = a; count = c; is = refl };
}
renorm (suc n) e x [] rest h =
    (elim (ltb e.range 256) as (λ t. (cond t (renormalised n (doubled e)) e).shifts ≤ e.shifts + zero →
    Moves e (cond t (renormalised n (doubled e)) e) x [] rest
    (λ off read. cond t (option_and_then (refill n) (next_of off (2 * e.range) read rest)) (Some (reader off e.range read rest)))) [
      | true ↦ (λ k. absurd (omega (arith, shifts-renormalised n (doubled e))))
      | false ↦ (λ k. record {
        number = x;
        bits = [];
        same = refl;
        count = refl;
        inside = λ i. i;
        fills = λ off read a c. record { offset = off; taken = read; at = a; count = c; is = refl };
      })
    ]) h
renorm (suc n) e x (b ∷ ws) rest h =
    (elim (ltb e.range 256) as (λ t. (cond t (renormalised n (doubled e)) e).shifts ≤ e.shifts + suc (length ws) →
    Moves e (cond t (renormalised n (doubled e)) e) x (b ∷ ws) rest
    (λ off read. cond t (option_and_then (refill n) (next_of off (2 * e.range) read (b ∷ (ws ++ rest)))) (Some (reader off e.range read (b ∷ (ws ++ rest)))))) [
      | true ↦ (λ k. doubling e (renormalised n (doubled e)) x b ws rest (λ off read. refill n (reader off (2 * e.range) read (ws ++ rest)))
          (renorm n (doubled e) (2 * x + digit b) ws rest (omega arith)))
      | false ↦ (λ k. record {
        number = x;
        bits = b ∷ ws;
        same = refl;
        count = refl;
        inside = λ i. i;
        fills = λ off read a c. record { offset = off; taken = read; at = a; count = c; is = refl };
      })
    ]) h

-- ---- one bin

pub record Replies (e f : Coded) (x : ℕ) (ws rest : List Bool) (bit : Bool) (reply : ℕ → ℕ → Option Answer) : Type 0 where
  pub number : ℕ
  pub bits : List Bool
  pub same : value number bits ≡ value x ws
  pub count : f.shifts + length bits ≡ e.shifts + length ws
  pub inside : IsIn f number → IsIn e x
  pub replies : IsIn f number → (off read : ℕ) → e.low + off ≡ x → read ≡ e.shifts + 9 →
      record {
        offset : ℕ;
        taken : ℕ;
        at : f.low + offset ≡ number;
        count : taken ≡ f.shifts + 9;
        is : reply off read ≡ Some (record { bit = bit; after = reader offset f.range taken (bits ++ rest) });
      }

pub low_side : (off cut : ℕ) (o : Option Reader) (b : Bool) (y : Option Answer) (r : Reader) → off < cut → o ≡ Some r →
    cond (ltb off cut) (answered b o) y ≡ Some (record { bit = b; after = r })
low_side off cut o b y r h e = rw (lt-ltb off cut h, e)

pub high_side : (off cut : ℕ) (o : Option Reader) (b : Bool) (y : Option Answer) (r : Reader) → cut ≤ off → o ≡ Some r →
    cond (ltb off cut) y (answered b o) ≡ Some (record { bit = b; after = r })
high_side off cut o b y r h e = rw (le-ltb off cut h, e)

kept_replies : (cut : ℕ) (e f : Coded) (x : ℕ) (ws rest : List Bool) (bit : Bool) (y : ℕ → ℕ → Option Answer) → cut ≤ e.range →
    Moves (kept cut e) f x ws rest (λ off read. refill 7 (reader off cut read (ws ++ rest))) →
    Replies e f x ws rest bit (λ off read. cond (ltb off cut) (answered bit (refill 7 (reader off cut read (ws ++ rest)))) (y off read))
kept_replies cut e f x ws rest bit y h m = record {
  number = m.number;
  bits = m.bits;
  same = m.same;
  count = m.count;
  inside = λ i. let j : IsIn (kept cut e) x = m.inside i in record { from = omega arith; below = omega arith };
  replies = λ i off read a c.
      let j : IsIn (kept cut e) x = m.inside i in
      let r = m.fills off read a c in
      record {
        offset = r.offset;
        taken = r.taken;
        at = r.at;
        count = r.count;
        is = low_side off cut _ bit (y off read) _ (omega arith) r.is;
      };
}

taken_replies : (cut size : ℕ) (e f : Coded) (x : ℕ) (ws rest : List Bool) (bit : Bool) (y : ℕ → ℕ → Option Answer) → cut + size ≤ e.range →
    Moves (taken cut size e) f x ws rest (λ off read. refill 7 (reader off size read (ws ++ rest))) →
    Replies e f x ws rest bit (λ off read. cond (ltb off cut) (y off read) (answered bit (refill 7 (reader (off - cut) size read (ws ++ rest)))))
taken_replies cut size e f x ws rest bit y h m = record {
  number = m.number;
  bits = m.bits;
  same = m.same;
  count = m.count;
  inside = λ i. let j : IsIn (taken cut size e) x = m.inside i in record { from = omega arith; below = omega arith };
  replies = λ i off read a c.
      let j : IsIn (taken cut size e) x = m.inside i in
      let r = m.fills (off - cut) read (omega arith) c in
      record {
        offset = r.offset;
        taken = r.taken;
        at = r.at;
        count = r.count;
        is = high_side off cut _ bit (y off read) _ (omega arith) r.is;
      };
}

-- ---- each kind of bin

unfoldable pub ReplyOf : (b : Bin) (e : Coded) (x : ℕ) (ws rest : List Bool) → Type 0
ReplyOf b e x ws rest = Replies e (step b e) x ws rest (answer_of b) (λ off read. answer (request_of b) (reader off e.range read (ws ++ rest)))

context_reply : (s : ℕ) (mps bit : Bool) (e : Coded) (x : ℕ) (ws rest : List Bool) → 256 ≤ e.range →
    (step (Answered (Context (record { state = s; mps = mps })) bit) e).shifts ≤ e.shifts + length ws → ReplyOf (Answered (Context (record { state = s; mps = mps })) bit) e x ws rest
unfolding step decide ReplyOf
context_reply s true true e x ws rest h k =
    let z : Fits (lps_range s e.range) = lps_range_fits s e.range in
    kept_replies (e.range - lps_range s e.range) e _ x ws rest true _ (omega arith) (renorm 7 (kept (e.range - lps_range s e.range) e) x ws rest k)
context_reply s false false e x ws rest h k =
    let z : Fits (lps_range s e.range) = lps_range_fits s e.range in
    kept_replies (e.range - lps_range s e.range) e _ x ws rest false _ (omega arith) (renorm 7 (kept (e.range - lps_range s e.range) e) x ws rest k)
context_reply s true false e x ws rest h k =
    let z : Fits (lps_range s e.range) = lps_range_fits s e.range in
    taken_replies (e.range - lps_range s e.range) (lps_range s e.range) e _ x ws rest false _ (omega arith)
    (renorm 7 (taken (e.range - lps_range s e.range) (lps_range s e.range) e) x ws rest k)
context_reply s false true e x ws rest h k =
    let z : Fits (lps_range s e.range) = lps_range_fits s e.range in
    taken_replies (e.range - lps_range s e.range) (lps_range s e.range) e _ x ws rest true _ (omega arith)
    (renorm 7 (taken (e.range - lps_range s e.range) (lps_range s e.range) e) x ws rest k)

bypass_reply : (bit : Bool) (e : Coded) (x : ℕ) (ws rest : List Bool) →
    (step (Answered Bypass bit) e).shifts ≤ e.shifts + length ws → ReplyOf (Answered Bypass bit) e x ws rest
unfolding step decide ReplyOf
bypass_reply bit e x [] rest k = absurd (omega arith)
bypass_reply true e x (b ∷ ws) rest k =
    let d : digit b ≤ 1 = digit_fits b in
    record {
      number = 2 * x + digit b;
      bits = ws;
      same = refl;
      count = omega arith;
      inside = λ i. record { from = omega arith; below = omega arith };
      replies = λ i off read a c. record {
        offset = 2 * off + digit b - e.range;
        taken = suc read;
        at = omega arith;
        count = omega arith;
        is = high_side (2 * off + digit b) e.range _ true (answered false (Some (reader (2 * off + digit b) e.range (suc read) (ws ++ rest)))) _ (omega arith) refl;
      };
    }
bypass_reply false e x (b ∷ ws) rest k =
    let d : digit b ≤ 1 = digit_fits b in
    record {
      number = 2 * x + digit b;
      bits = ws;
      same = refl;
      count = omega arith;
      inside = λ i. record { from = omega arith; below = omega arith };
      replies = λ i off read a c. record {
        offset = 2 * off + digit b;
        taken = suc read;
        at = omega arith;
        count = omega arith;
        is = low_side (2 * off + digit b) e.range _ false (answered true (Some (reader (2 * off + digit b - e.range) e.range (suc read) (ws ++ rest)))) _ (omega arith) refl;
      };
    }

pub bin_reply : (b : Bin) (e : Coded) (x : ℕ) (ws rest : List Bool) → is_end b ≡ false → 256 ≤ e.range →
    (step b e).shifts ≤ e.shifts + length ws → ReplyOf b e x ws rest
unfolding step decide ReplyOf
bin_reply (Answered (Context c) bit) e x ws rest n h k = context_reply c.state c.mps bit e x ws rest h k
bin_reply (Answered Bypass bit) e x ws rest n h k = bypass_reply bit e x ws rest k
bin_reply (Answered Terminate true) e x ws rest n h k = absurd (true≢false n)
bin_reply (Answered Terminate false) e x ws rest n h k =
    kept_replies (e.range - 2) e _ x ws rest false _ (omega arith) (renorm 7 (kept (e.range - 2) e) x ws rest k)
