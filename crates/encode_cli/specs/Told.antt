-- What the end of an encoding, or of storing, is to the program; the exit status and the printed line of each answer.
use Rattle.std.specs.Prelude.{ℕ, List, [], ◌++◌, codes, decimal, Option, Some, None, Result, Ok, Err}
use Rattle.encode_film.specs.declared.ends.EncodeEnd.{EncodeEnd}
use Rattle.encode_film.specs.declared.ends.EncodeEnd.TheVariants as ends
use Rattle.enc_edge.specs.declared.studio.Out.TheVariants.{Stream}
use Rattle.spec_film.specs.declared.InputFault.{InputFault}
use Rattle.spec_film.specs.declared.InputFault.TheVariants.{Head, NotFrame, CutFrame, TooLong}
use Rattle.spec_film.specs.Films.{most_pictures}
use Rattle.store_film.specs.declared.ends.StoreEnd.{StoreEnd}
use Rattle.store_film.specs.declared.ends.StoreEnd.TheVariants as store_ends
use Rattle.encode_cli.specs.Names.{out_name, place_name}
use Rattle.encode_cli.specs.declared.outcome.Outcome.{Outcome}
use Rattle.encode_cli.specs.declared.outcome.Outcome.TheVariants.{Done, Words, Open, Read, Write, Input, Setting, Buffer, OutOfMemory}

abbrev pub outcome_of : Result (Unit {0}) EncodeEnd → Outcome
outcome_of (Ok done) = Done
outcome_of (Err (ends.Open place)) = Open place
outcome_of (Err ends.Read) = Read
outcome_of (Err (ends.Write out)) = Write out
outcome_of (Err (ends.Input fault)) = Input fault
outcome_of (Err (ends.Setting fault)) = Setting fault
outcome_of (Err (ends.Buffer picture need have)) = Buffer picture need have
outcome_of (Err ends.OutOfMemory) = OutOfMemory

abbrev pub stored_outcome : Result (Unit {0}) StoreEnd → Outcome
stored_outcome (Ok done) = Done
stored_outcome (Err (store_ends.Open place)) = Open place
stored_outcome (Err store_ends.Read) = Read
stored_outcome (Err store_ends.Write) = Write Stream
stored_outcome (Err (store_ends.Input fault)) = Input fault
stored_outcome (Err store_ends.OutOfMemory) = OutOfMemory

abbrev pub status_of : Outcome → ℕ
status_of Done = 0
status_of (Words fault) = 2
status_of (Input fault) = 3
status_of (Setting fault) = 4
status_of (Buffer picture need have) = 5
status_of Read = 6
status_of (Write out) = 7
status_of (Open place) = 8
status_of OutOfMemory = 9

-- the number of the picture at which the input is refused, counted from 0; none where it is its head
abbrev pub refused_picture : InputFault → Option ℕ
refused_picture (Head fault) = None
refused_picture (NotFrame picture) = Some picture
refused_picture (CutFrame picture got) = Some picture
refused_picture TooLong = Some most_pictures

abbrev pub input_line_at : Option ℕ → List ℕ
input_line_at None = codes "input refused"
input_line_at (Some picture) = codes "input refused" ++ (codes " at picture " ++ decimal picture)

-- the line of an input that is refused
abbrev pub input_line : InputFault → List ℕ
input_line fault = input_line_at (refused_picture fault)

-- the line of a picture that doesn't fit the buffer
abbrev pub buffer_line : ℕ → ℕ → ℕ → List ℕ
buffer_line picture need have = ((((codes "picture " ++ decimal picture) ++ codes " needs ") ++ decimal need) ++ codes " bits of ") ++ decimal have

-- the line of an answer without numbers; empty for the others
abbrev pub word_line : Outcome → List ℕ
word_line Done = []
word_line (Words fault) = codes "words refused"
word_line (Input fault) = []
word_line (Setting fault) = codes "setting refused"
word_line (Buffer picture need have) = []
word_line Read = codes "read failed"
word_line (Write out) = codes "write failed: " ++ out_name out
word_line (Open place) = codes "open failed: " ++ place_name place
word_line OutOfMemory = codes "out of memory"

-- without its line feed; empty where nothing is printed
abbrev pub line_of : Outcome → List ℕ
line_of (Buffer picture need have) = buffer_line picture need have
line_of Done = []
line_of (Words fault) = codes "words refused"
line_of (Input fault) = input_line fault
line_of (Setting fault) = codes "setting refused"
line_of Read = codes "read failed"
line_of (Write out) = codes "write failed: " ++ out_name out
line_of (Open place) = codes "open failed: " ++ place_name place
line_of OutOfMemory = codes "out of memory"
