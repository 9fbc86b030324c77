-- The elements of the macroblock layer that P and B slices add: the bits of each value (ITU-T H.264, clause 9.3.2), and the context of
-- each bin: ctxIdxOffset and ctxIdxInc (clause 9.3.3.1, tables 9-34, 9-39 and 9-41).
use Rattle.std.specs.Prelude.{ℕ, zero, suc, ◌+◌, ◌-◌, ◌≤◌, ◌^◌, ◌==◌, Bool, true, false, cond, nat_lt, min, ◌||◌, List, [], ◌∷◌, ◌++◌, map, get_or, nat_abs, ℤ, pos, negsuc}
use Rattle.enc_tables.specs.Kinds.{is_intra}
use Rattle.enc_tables.specs.Records.{is_used, no_motion}
use Rattle.enc_tables.specs.declared.records.SliceKind.{SliceKind}
use Rattle.enc_tables.specs.declared.records.MbKind.{MbKind}
use Rattle.enc_tables.specs.declared.records.MbRecord.{MbRecord}
use Rattle.enc_tables.specs.declared.records.Motion.{Motion}
use Rattle.spec_syntax.specs.declared.Bin.{Bin}
use Rattle.spec_syntax.specs.declared.ListUse.{ListUse}
use Rattle.spec_syntax.specs.Syntax.{Syntax, done, ask, ◌>>=◌, at, flag_string}
use Rattle.spec_syntax.specs.Numbers.{unary, text, prefix, prefix_string, golomb, golomb_string}
use Rattle.spec_syntax.specs.Elements.{IntraType, IsIntraType, intra_types, intra_type_of, intra_type_string, type_bits, string, one_of, with_bits, numbers}

-- ---- which macroblocks occur in slices of a kind, beside the skipped ones

abbrev pub is_p : MbKind → Bool
is_p MbKind.P16 = true
is_p MbKind.P16x8 = true
is_p MbKind.P8x16 = true
is_p MbKind.P8x8 = true
is_p _ = false

abbrev pub is_b : MbKind → Bool
is_b MbKind.B16 = true
is_b MbKind.B16x8 = true
is_b MbKind.B8x16 = true
is_b MbKind.B8x8 = true
is_b MbKind.BDirect = true
is_b _ = false

abbrev pub occurs_in : SliceKind → MbKind → Bool
occurs_in SliceKind.I kind = is_intra kind
occurs_in SliceKind.P kind = is_intra kind || is_p kind
occurs_in SliceKind.B kind = is_intra kind || is_b kind

abbrev pub has_inter : SliceKind → Bool
has_inter SliceKind.I = false
has_inter SliceKind.P = true
has_inter SliceKind.B = true

-- ---- mb_skip_flag

abbrev pub skip_at : SliceKind → ℕ → ℕ
skip_at SliceKind.B inc = 24 + inc
skip_at _ inc = 11 + inc

-- ---- intra types behind the prefix of P and B slices

abbrev pub suffix_at : ℕ → List Bool → ℕ
suffix_at from [] = from
suffix_at from (a ∷ []) = 276
suffix_at from (a ∷ b ∷ []) = from + 1
suffix_at from (a ∷ b ∷ c ∷ []) = from + 2
suffix_at from (a ∷ b ∷ c ∷ true ∷ []) = from + 2
suffix_at from (a ∷ b ∷ c ∷ d ∷ before) = from + 3

unfoldable pub suffix_string : ℕ → IntraType → List Bin
suffix_string from t = string (suffix_at from) [] (type_bits t)

-- ---- mb_type in P slices (tables 7-13 and 9-37)

pub data PType : Type 0 where
  One : PType
  Rows : PType
  Columns : PType
  Four : PType
  Intra : IntraType → PType

abbrev pub IsPType : PType → Type 0
IsPType (PType.Intra t) = IsIntraType t
IsPType _ = Unit {0}

abbrev pub p_bits : PType → List Bool
p_bits PType.One = text 3 000
p_bits PType.Rows = text 3 011
p_bits PType.Columns = text 3 010
p_bits PType.Four = text 3 001
p_bits (PType.Intra t) = true ∷ type_bits t

abbrev pub p_at : List Bool → ℕ
p_at [] = 14
p_at (true ∷ before) = suffix_at 17 before
p_at (false ∷ []) = 15
p_at (false ∷ false ∷ before) = 16
p_at (false ∷ true ∷ before) = 17

abbrev pub p_types : List PType
p_types = (PType.One ∷ PType.Rows ∷ PType.Columns ∷ PType.Four ∷ []) ++ map (λ t. PType.Intra t) intra_types

unfoldable pub p_type : Syntax PType
p_type = one_of 8 p_at [] (with_bits p_bits p_types)

unfoldable pub p_type_string : PType → List Bin
p_type_string t = string p_at [] (p_bits t)

-- ---- mb_type in B slices (tables 7-14 and 9-37)

pub data BType : Type 0 where
  Direct : BType
  One : ListUse → BType
  Rows : ListUse → ListUse → BType
  Columns : ListUse → ListUse → BType
  Four : BType
  Intra : IntraType → BType

abbrev pub IsBType : BType → Type 0
IsBType (BType.Intra t) = IsIntraType t
IsBType _ = Unit {0}

abbrev pub rows_bits : ListUse → ListUse → List Bool
rows_bits ListUse.L0 ListUse.L0 = text 6 110001
rows_bits ListUse.L1 ListUse.L1 = text 6 110011
rows_bits ListUse.L0 ListUse.L1 = text 6 110101
rows_bits ListUse.L1 ListUse.L0 = text 6 110111
rows_bits ListUse.L0 ListUse.Bi = text 7 1110000
rows_bits ListUse.L1 ListUse.Bi = text 7 1110010
rows_bits ListUse.Bi ListUse.L0 = text 7 1110100
rows_bits ListUse.Bi ListUse.L1 = text 7 1110110
rows_bits ListUse.Bi ListUse.Bi = text 7 1111000

abbrev pub columns_bits : ListUse → ListUse → List Bool
columns_bits ListUse.L0 ListUse.L0 = text 6 110010
columns_bits ListUse.L1 ListUse.L1 = text 6 110100
columns_bits ListUse.L0 ListUse.L1 = text 6 110110
columns_bits ListUse.L1 ListUse.L0 = text 6 111110
columns_bits ListUse.L0 ListUse.Bi = text 7 1110001
columns_bits ListUse.L1 ListUse.Bi = text 7 1110011
columns_bits ListUse.Bi ListUse.L0 = text 7 1110101
columns_bits ListUse.Bi ListUse.L1 = text 7 1110111
columns_bits ListUse.Bi ListUse.Bi = text 7 1111001

abbrev pub b_bits : BType → List Bool
b_bits BType.Direct = text 1 0
b_bits (BType.One ListUse.L0) = text 3 100
b_bits (BType.One ListUse.L1) = text 3 101
b_bits (BType.One ListUse.Bi) = text 6 110000
b_bits (BType.Rows u v) = rows_bits u v
b_bits (BType.Columns u v) = columns_bits u v
b_bits BType.Four = text 6 111111
b_bits (BType.Intra t) = text 6 111101 ++ type_bits t

abbrev pub b_at : ℕ → List Bool → ℕ
b_at inc [] = 27 + inc
b_at inc (a ∷ []) = 30
b_at inc (a ∷ true ∷ []) = 31
b_at inc (a ∷ false ∷ []) = 32
b_at inc (true ∷ true ∷ true ∷ true ∷ false ∷ true ∷ before) = suffix_at 32 before
b_at inc (a ∷ b ∷ c ∷ before) = 32

abbrev pub uses : List ListUse
uses = ListUse.L0 ∷ ListUse.L1 ∷ ListUse.Bi ∷ []

abbrev pub b_types : List BType
b_types = (BType.Direct ∷ BType.Four ∷ []) ++ map (λ u. BType.One u) uses
    ++ map (λ v. BType.Rows ListUse.L0 v) uses ++ map (λ v. BType.Rows ListUse.L1 v) uses ++ map (λ v. BType.Rows ListUse.Bi v) uses
    ++ map (λ v. BType.Columns ListUse.L0 v) uses ++ map (λ v. BType.Columns ListUse.L1 v) uses ++ map (λ v. BType.Columns ListUse.Bi v) uses
    ++ map (λ t. BType.Intra t) intra_types

unfoldable pub b_type : ℕ → Syntax BType
b_type inc = one_of 13 (b_at inc) [] (with_bits b_bits b_types)

unfoldable pub b_type_string : ℕ → BType → List Bin
b_type_string inc t = string (b_at inc) [] (b_bits t)

-- ---- sub_mb_type, without smaller partitions and without direct blocks (tables 7-17, 7-18 and 9-38)

abbrev pub sub_type_p : ℕ
sub_type_p = 21

abbrev pub sub_bits : ListUse → List Bool
sub_bits ListUse.L0 = text 3 100
sub_bits ListUse.L1 = text 3 101
sub_bits ListUse.Bi = text 5 11000

abbrev pub sub_at : List Bool → ℕ
sub_at [] = 36
sub_at (a ∷ []) = 37
sub_at (a ∷ true ∷ []) = 38
sub_at (a ∷ b ∷ before) = 39

unfoldable pub sub_type : Syntax ListUse
sub_type = one_of 5 sub_at [] (with_bits sub_bits uses)

unfoldable pub sub_type_string : ListUse → List Bin
sub_type_string u = string sub_at [] (sub_bits u)

-- ---- the types of records

-- which lists a block's motion uses: a reference below 0 is none
abbrev pub use_from : Bool → Bool → ListUse
use_from true true = ListUse.Bi
use_from true false = ListUse.L0
use_from false second = ListUse.L1

abbrev pub first_used : Motion → Bool
first_used m = is_used (get_or m.refs 0 (pos 0))

abbrev pub second_used : Motion → Bool
second_used m = is_used (get_or m.refs 1 (pos 0))

abbrev pub use_of : Motion → ListUse
use_of m = use_from (first_used m) (second_used m)

abbrev pub block_use : MbRecord → ℕ → ListUse
block_use mb block = use_of (get_or mb.motion block no_motion)

abbrev pub p_type_by : MbKind → IntraType → PType
p_type_by MbKind.P16 t = PType.One
p_type_by MbKind.P16x8 t = PType.Rows
p_type_by MbKind.P8x16 t = PType.Columns
p_type_by MbKind.P8x8 t = PType.Four
p_type_by _ t = PType.Intra t

abbrev pub p_type_of : MbRecord → PType
p_type_of mb = p_type_by mb.kind (intra_type_of mb)

-- by the uses of the 8x8 blocks 0, 1 and 2
abbrev pub b_type_by : MbKind → ListUse → ListUse → ListUse → IntraType → BType
b_type_by MbKind.BDirect u v w t = BType.Direct
b_type_by MbKind.B16 u v w t = BType.One u
b_type_by MbKind.B16x8 u v w t = BType.Rows u w
b_type_by MbKind.B8x16 u v w t = BType.Columns u v
b_type_by MbKind.B8x8 u v w t = BType.Four
b_type_by _ u v w t = BType.Intra t

abbrev pub b_type_of : MbRecord → BType
b_type_of mb = b_type_by mb.kind (block_use mb 0) (block_use mb 1) (block_use mb 2) (intra_type_of mb)

-- mb_type of a record
abbrev pub type_string : SliceKind → ℕ → MbRecord → List Bin
type_string SliceKind.I inc mb = intra_type_string inc (intra_type_of mb)
type_string SliceKind.P inc mb = p_type_string (p_type_of mb)
type_string SliceKind.B inc mb = b_type_string inc (b_type_of mb)

-- sub_mb_type of an 8x8 block
abbrev pub sub_string : SliceKind → Motion → List Bin
sub_string SliceKind.B m = sub_type_string (use_of m)
sub_string _ m = flag_string sub_type_p true

-- ---- ref_idx: unary, at most 3

abbrev pub ref_at : ℕ → List Bool → ℕ
ref_at inc [] = 54 + inc
ref_at inc (b ∷ []) = 58
ref_at inc (b ∷ c ∷ before) = 59

unfoldable pub ref_index : ℕ → Syntax ℕ
ref_index inc = one_of 4 (ref_at inc) [] (with_bits unary (numbers 4 0))

unfoldable pub ref_index_string : ℕ → ℕ → List Bin
ref_index_string inc index = string (ref_at inc) [] (unary index)

-- ---- mvd: its size by at most 9 ones, and what is above 9 by Exp-Golomb of order 3; then its sign, 1 for negative (clause 9.3.2.3).
-- It is at most 2^15 in size: fewer than 12 ones come in the Exp-Golomb part, and 12 are nothing.

abbrev pub mvd_from : Bool → ℕ
mvd_from vertical = cond vertical 47 40

-- base + inc; base + 3, 4, 5, 6, 6 and so on
abbrev pub mvd_at : Bool → ℕ → ℕ → ℕ
mvd_at vertical inc i = mvd_from vertical + cond (i == 0) inc (min (i + 2) 6)

abbrev pub IsDifference : ℤ → Type 0
IsDifference d = nat_abs d ≤ 2 ^ 15

abbrev pub with_sign : ℕ → Syntax ℤ
with_sign zero = done (pos 0)
with_sign (suc m) = ask 1000 (λ b. done (elim b [ true ↦ negsuc m | false ↦ pos (suc m) ]))

abbrev pub sign_string : ℤ → List Bin
sign_string (pos zero) = []
sign_string (pos (suc m)) = at 1000 false ∷ []
sign_string (negsuc m) = at 1000 true ∷ []

unfoldable pub mvd : Bool → ℕ → Syntax ℤ
mvd vertical inc = do
  k ← prefix (mvd_at vertical inc) 0 9
  m ← (cond (k == 9) (golomb 12 3 >>= λ v. done (9 + v)) (done k))
  with_sign m

unfoldable pub mvd_string : Bool → ℕ → ℤ → List Bin
mvd_string vertical inc d = prefix_string (mvd_at vertical inc) 0 9 (nat_abs d) ++ (cond (nat_lt (nat_abs d) 9) [] (golomb_string 12 3 (nat_abs d - 9)) ++ sign_string d)
