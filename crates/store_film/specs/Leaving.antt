-- What each end of a run leaves behind.
use Rattle.std.specs.Prelude.{List, ℕ, Result, Ok, Err}
use Rattle.enc_edge.specs.Seen.{Seen}
use Rattle.store_film.specs.declared.ends.StoreEnd.{StoreEnd}
use Rattle.store_film.specs.declared.ends.StoreEnd.TheVariants.{Open, Read, Write, Input, OutOfMemory}
use Rattle.store_film.specs.Runs.{Stored, OpenFailed, ReadFault, WriteFault, NoFilm, HeadRead}

-- by the names of the film and the stream, and what the outside shows before and after
abbrev pub Leaves : List ℕ → List ℕ → Seen → Seen → Result (Unit {0}) StoreEnd → Type 0
Leaves input output old new (Ok done) = Stored input output old new
Leaves input output old new (Err (Open place)) = OpenFailed input old new place
Leaves input output old new (Err Read) = ReadFault input output old new
Leaves input output old new (Err Write) = WriteFault input output old new
Leaves input output old new (Err (Input fault)) = NoFilm input output fault old new
Leaves input output old new (Err OutOfMemory) = HeadRead input old new
