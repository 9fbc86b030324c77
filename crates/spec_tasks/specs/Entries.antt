-- How an encoder makes lists: how many entries it tells, and which command. The newest reference is first of those that are held.
use Rattle.std.specs.Prelude.{ℕ, ◌-◌, List, length, Option, None}
use Rattle.enc_tables.specs.declared.records.SliceKind.{SliceKind}
use Rattle.enc_tables.specs.declared.records.SliceKind.TheVariants.{I, P, B}
use Rattle.spec_film.specs.Films.{Planes}
use Rattle.spec_lists.specs.References.{Reference}
use Rattle.spec_lists.specs.Lists.{by_number}
use Rattle.spec_lists.specs.Reordering.{moved_for}

-- P pictures refer to all that are held; B pictures to all but the newest in list 0, and to the newest in list 1
abbrev pub entries0 : SliceKind → List Reference → ℕ
entries0 I held = 0
entries0 P held = length held
entries0 B held = length held - 1

abbrev pub entries1 : SliceKind → ℕ
entries1 I = 0
entries1 P = 0
entries1 B = 1

-- the command of a picture with this source, where it isn't the coarsest coding: in P pictures alone
abbrev pub command_of : SliceKind → ℕ → Planes → List Reference → Option ℕ
command_of I frame_num source held = None
command_of P frame_num source held = moved_for frame_num source.luma (by_number frame_num held)
command_of B frame_num source held = None
