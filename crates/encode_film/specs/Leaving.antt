-- What each end of a run leaves behind.
use Rattle.std.specs.Prelude.{Result, Ok, Err}
use Rattle.enc_edge.specs.Seen.{Seen}
use Rattle.spec_words.specs.declared.command.Settings.{Settings}
use Rattle.encode_film.specs.declared.ends.EncodeEnd.{EncodeEnd}
use Rattle.encode_film.specs.declared.ends.EncodeEnd.TheVariants.{Open, Read, Write, Input, Setting, Buffer, OutOfMemory}
use Rattle.encode_film.specs.Outputs.{Names}
use Rattle.encode_film.specs.Runs.{Encoded, HeadRead, SettingRefused, OpenFailed, ReadFault, NoFilm, Refused, WriteFault}

-- by the names of the film and of the outputs, the settings, and what the outside shows before and after
abbrev pub Leaves : Names → Settings → Seen → Seen → Result (Unit {0}) EncodeEnd → Type 0
Leaves names s old new (Ok done) = Encoded names s old new
Leaves names s old new (Err (Open place)) = OpenFailed names s old new place
Leaves names s old new (Err Read) = ReadFault names s old new
Leaves names s old new (Err (Write out)) = WriteFault names s out old new
Leaves names s old new (Err (Input fault)) = NoFilm names s fault old new
Leaves names s old new (Err (Setting fault)) = SettingRefused names s fault old new
Leaves names s old new (Err (Buffer picture need have)) = Refused names s (record { picture = picture; need = need; have = have }) old new
Leaves names s old new (Err OutOfMemory) = HeadRead names old new
