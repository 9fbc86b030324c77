-- What P and B macroblocks write of their partitions (ITU-T H.264, clauses 7.3.5.1 and 7.3.5.2): the types of 8x8 blocks, then the reference indices of list 0 and list 1, then the vector differences of list 0 and list 1.
use Rattle.std.specs.Prelude.{ℕ, Bool, true, false, cond, nat_lt, nat_abs, List, [], ◌∷◌, ◌++◌, get_or, map, ℤ, pos, negsuc}
use Rattle.enc_tables.specs.declared.records.MbKind.{MbKind}
use Rattle.enc_tables.specs.declared.records.MbRecord.{MbRecord}
use Rattle.enc_tables.specs.declared.records.Vector.{Vector}
use Rattle.enc_tables.specs.declared.records.SliceKind.{SliceKind}
use Rattle.enc_tables.specs.Records.{zero_vector, no_motion, is_used}
use Rattle.spec_contexts.specs.Increments.{inc_ref, inc_mvd}
use Rattle.spec_syntax.specs.declared.Bin.{Bin}
use Rattle.spec_syntax.specs.declared.ListUse.{ListUse}
use Rattle.spec_syntax.specs.Syntax.{Syntax, done, nothing, ◌>>=◌, flag}
use Rattle.spec_syntax.specs.Sequences.{where_present, string_where}
use Rattle.spec_syntax.specs.Inter.{sub_type_p, sub_type, sub_string, use_from, ref_index, ref_index_string, mvd, mvd_string}
use Rattle.spec_partitions.specs.Near.{Near}
use Rattle.spec_partitions.specs.Parts.{parts, parts_string}
use Rattle.spec_partitions.specs.Partitions.{shape_of, part_count, first_block, by_part, Written, part_ref, part_mvd, sketch}

-- ---- sub_mb_type: in P slices the whole 8x8 block alone

abbrev pub sub_part : SliceKind → ℕ → List ListUse → Syntax (List ListUse)
sub_part SliceKind.I k before = nothing
sub_part SliceKind.P k before = flag sub_type_p >>= λ whole. elim whole [ true ↦ done (ListUse.L0 ∷ []) | false ↦ nothing ]
sub_part SliceKind.B k before = sub_type >>= λ u. done (u ∷ [])

unfoldable pub sub_types : SliceKind → Syntax (List ListUse)
sub_types kind = parts (sub_part kind) 4

abbrev pub is_four : MbKind → Bool
is_four MbKind.P8x8 = true
is_four MbKind.B8x8 = true
is_four _ = false

abbrev pub sub_part_string : SliceKind → MbRecord → ℕ → List Bin
sub_part_string kind mb k = sub_string kind (get_or mb.motion k no_motion)

unfoldable pub sub_types_string : SliceKind → MbRecord → List Bin
sub_types_string kind mb = parts_string (sub_part_string kind mb) 4

-- ---- ref_idx: where the partition uses the list, and the list has more than one entry

abbrev pub in_first : ListUse → Bool
in_first ListUse.L0 = true
in_first ListUse.L1 = false
in_first ListUse.Bi = true

abbrev pub in_second : ListUse → Bool
in_second ListUse.L0 = false
in_second ListUse.L1 = true
in_second ListUse.Bi = true

-- an index of an entry that a list of so many has, and of another one nothing
abbrev pub entry : ℕ → ℕ → Syntax (List ℤ)
entry entries index = cond (nat_lt index entries) (done (pos index ∷ [])) nothing

-- the reference of a partition, after those before it: index 0 where the list has no more than one entry
abbrev pub ref_part : Near → MbKind → ℕ → ℕ → List Bool → ℕ → List ℤ → Syntax (List ℤ)
ref_part near kind list entries used part before =
    where_present (get_or used part false) (negsuc 0 ∷ []) (where_present (nat_lt 1 entries) 0
    (ref_index (inc_ref (sketch kind before []) near.left near.above list (first_block (shape_of kind) part))) >>= λ index. entry entries index)

unfoldable pub references : Near → MbKind → ℕ → ℕ → List Bool → Syntax (List ℤ)
references near kind list entries used = parts (ref_part near kind list entries used) (part_count (shape_of kind))

abbrev pub ref_part_string : Near → MbRecord → ℕ → ℕ → ℕ → List Bin
ref_part_string near mb list entries part =
    string_where (is_used (part_ref mb list part)) (string_where (nat_lt 1 entries)
    (ref_index_string (inc_ref mb near.left near.above list (first_block (shape_of mb.kind) part)) (nat_abs (part_ref mb list part))))

unfoldable pub references_string : Near → MbRecord → ℕ → ℕ → List Bin
references_string near mb list entries = parts_string (ref_part_string near mb list entries) (part_count (shape_of mb.kind))

-- ---- mvd: where the partition uses the list, to the right and then downwards

abbrev pub mvd_part : Near → MbKind → ℕ → List ℤ → ℕ → List Vector → Syntax (List Vector)
mvd_part near kind list refs part before =
    where_present (is_used (get_or refs part (negsuc 0))) (zero_vector ∷ [])
    (mvd false (inc_mvd (sketch kind refs before) near.left near.above list (first_block (shape_of kind) part) false) >>= λ a.
    mvd true (inc_mvd (sketch kind refs before) near.left near.above list (first_block (shape_of kind) part) true) >>= λ b. done (record { x = a; y = b } ∷ []))

unfoldable pub differences : Near → MbKind → ℕ → List ℤ → Syntax (List Vector)
differences near kind list refs = parts (mvd_part near kind list refs) (part_count (shape_of kind))

abbrev pub mvd_part_string : Near → MbRecord → ℕ → ℕ → List Bin
mvd_part_string near mb list part =
    string_where (is_used (part_ref mb list part))
    (mvd_string false (inc_mvd mb near.left near.above list (first_block (shape_of mb.kind) part) false) (part_mvd mb list part).x
    ++ mvd_string true (inc_mvd mb near.left near.above list (first_block (shape_of mb.kind) part) true) (part_mvd mb list part).y)

unfoldable pub differences_string : Near → MbRecord → ℕ → List Bin
differences_string near mb list = parts_string (mvd_part_string near mb list) (part_count (shape_of mb.kind))

-- ---- all of it

unfoldable pub inter : Near → MbKind → List ListUse → Syntax Written
inter near kind uses =
    references near kind 0 near.refs0 (map in_first uses) >>= λ r0. references near kind 1 near.refs1 (map in_second uses) >>= λ r1.
    differences near kind 0 r0 >>= λ d0. differences near kind 1 r1 >>= λ d1. done (record { refs0 = r0; refs1 = r1; mvds0 = d0; mvds1 = d1 })

unfoldable pub inter_string : Near → MbRecord → List Bin
inter_string near mb = references_string near mb 0 near.refs0 ++ (references_string near mb 1 near.refs1 ++ (differences_string near mb 0 ++ differences_string near mb 1))

-- the lists that a partition uses
abbrev pub part_use : MbRecord → ℕ → ListUse
part_use mb part = use_from (is_used (part_ref mb 0 part)) (is_used (part_ref mb 1 part))

abbrev pub uses_of : MbRecord → List ListUse
uses_of mb = by_part (part_use mb) (part_count (shape_of mb.kind))
