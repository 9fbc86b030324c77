-- Which level a stream fits (ITU-T H.264, clauses A.3.1 and A.3.3). Of a level the table has MaxMBPS, MaxFS, MaxDpbMbs, MaxBR and MaxCPB.
use Rattle.std.specs.Prelude.{ℕ, ◌*◌, ◌≡◌, ◌≤◌, ◌==◌, ◌&&◌, nat_le, Bool, true, List, slice_index, Option}
use Rattle.std.specs.List.{list_any, find}
use Rattle.std.specs.Option.{option_map}
use Rattle.spec_levels.specs.declared.TheConstants.{LEVELS}
use Rattle.spec_levels.specs.declared.Need.{Need}

-- PicSizeInMbs
abbrev pub mbs_of : Need → ℕ
mbs_of n = n.width_mbs * n.height_mbs

-- the picture, and each of its sides, are not too large
abbrev pub meets_size : List ℕ → Need → Bool
meets_size limits n =
    nat_le (mbs_of n) (slice_index limits 1) && (nat_le (n.width_mbs * n.width_mbs) (8 * slice_index limits 1) && nat_le (n.height_mbs * n.height_mbs) (8 * slice_index limits 1))

-- not too many macroblocks come in a second
abbrev pub meets_speed : List ℕ → Need → Bool
meets_speed limits n = nat_le (mbs_of n * n.num) (slice_index limits 0 * n.den)

-- the held pictures find their place
abbrev pub meets_held : List ℕ → Need → Bool
meets_held limits n = nat_le (n.refs * mbs_of n) (slice_index limits 2)

-- cpbBrNalFactor of the High profile is 1500 (table A-2)
abbrev pub meets_bits : List ℕ → Need → Bool
meets_bits limits n = nat_le n.rate (1500 * slice_index limits 3) && nat_le n.cpb (1500 * slice_index limits 4)

-- all of them
unfoldable pub meets : List ℕ → Need → Bool
meets limits n = meets_size limits n && (meets_speed limits n && (meets_held limits n && meets_bits limits n))

-- whether a stream fits the level of this level_idc, which has to be in the table
unfoldable pub fits : ℕ → Need → Bool
fits level n = list_any (λ l. (l.0 == level) && meets l.1 n) LEVELS

-- the level_idc of the first of some levels that a stream fits
unfoldable pub first_level : List (ℕ × List ℕ) → Need → Option ℕ
first_level levels n = option_map (λ l. l.0) (find (λ l. meets l.1 n) levels)

-- of all levels, which stand by rising level_idc
abbrev pub least_level : Need → Option ℕ
least_level n = first_level LEVELS n

-- the least of all levels that a stream fits
pub record IsLeast (level : ℕ) (n : Need) : Type 0 where
  pub fits_it : fits level n ≡ true
  pub least : (other : ℕ) → fits other n ≡ true → level ≤ other
