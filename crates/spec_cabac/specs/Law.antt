-- What reading a code back means.
use Rattle.std.specs.Prelude.{◌≡◌, ◌+◌, Bool, true, List, [], ◌∷◌, ◌++◌, map, length, drop, Some}
use Rattle.spec_cabac.specs.Bins.{Bin, request_of, answer_of, EndsOnce}
use Rattle.spec_cabac.specs.Code.{arith_code, run, coded_start}
use Rattle.spec_cabac.specs.Decoder.{Reader, answer, started, arith_decode}

-- the decoder, asked for the bins' kinds and states, gives the bins and has taken exactly the code's bits, whatever follows
abbrev pub RoundTrip : List Bin → List Bool → Type 0
RoundTrip bs rest =
    arith_decode (arith_code bs ++ rest) (map request_of bs)
    ≡ Some (record { answers = map answer_of bs; read = (run bs coded_start).shifts + 9 })

-- bits that read back as the bins: the decoder takes exactly these bits, whatever follows
abbrev pub ReadsBack : List Bin → List Bool → Type 0
ReadsBack bs bits = (rest : List Bool) → arith_decode (bits ++ rest) (map request_of bs) ≡ Some (record { answers = map answer_of bs; read = length bits })

-- a reader that is asked one request after another gives the bins, and is z afterwards
abbrev pub Gives : Reader → List Bin → Reader → Type 0
Gives r [] z = r ≡ z
Gives r (b ∷ bs) z = record { after : Reader; answers : answer (request_of b) r ≡ Some (record { bit = answer_of b; after = after }); others : Gives after bs z }

-- so a reader that chooses each request by the answers before is given them too: from the code's first bits it goes through all of the bins, and leaves the rest
pub record ReadsAll (bs : List Bin) (rest : List Bool) : Type 0 where
  pub first : Reader
  pub last : Reader
  pub starts : started (arith_code bs ++ rest) ≡ Some first
  pub gives : Gives first bs last
  pub ended : last.ended ≡ true
  pub left : last.left ≡ rest
  pub count : last.read ≡ length (arith_code bs)

-- the last bit of a code is 1: it serves as the stop bit of what it ends
pub record EndsInOne (bits : List Bool) : Type 0 where
  pub before : List Bool
  pub same : bits ≡ before ++ true ∷ []

-- ---- pieces, each followed by bits that are no part of it

-- bins and the bits behind their code
pub record Piece : Type 0 where
  pub bins : List Bin
  pub gap : List Bool

abbrev pub pieces_code : List Piece → List Bool
pieces_code [] = []
pieces_code (p ∷ ps) = arith_code p.bins ++ (p.gap ++ pieces_code ps)

abbrev pub AllEnd : List Piece → Type 0
AllEnd [] = Unit {0}
AllEnd (p ∷ ps) = EndsOnce p.bins × AllEnd ps

-- the decoder starts anew at each piece, and leaves the gap and what follows
abbrev pub ReadsPieces : List Piece → List Bool → Type 0
ReadsPieces [] bits = bits ≡ []
ReadsPieces (p ∷ ps) bits = record {
  first : Reader;
  last : Reader;
  starts : started bits ≡ Some first;
  gives : Gives first p.bins last;
  left : last.left ≡ p.gap ++ pieces_code ps;
  count : last.read ≡ length (arith_code p.bins);
  others : ReadsPieces ps (drop (length p.gap) last.left);
}
