-- What the pieces of a head say, one after another.
use Rattle.std.specs.Prelude.{ℕ, ◌==◌, ◌-◌, Bool, List, length, take, drop, get_or, Option, Some, None, Result, Ok, Err, if◌then◌else◌}
use Rattle.spec_basics.specs.Decimals.{number_of}
use Rattle.spec_film.specs.declared.FilmHead.{FilmHead}
use Rattle.spec_film.specs.declared.HeadFault.{HeadFault}
use Rattle.spec_film.specs.declared.HeadFault.TheVariants.{NotY4m, LongLine, BadNumber, Chroma, Interlace}
use Rattle.spec_film.specs.Films.{rate_of, is_420, is_progressive, begins_film, pieces_of, head_of_pieces}
use Rattle.y4m_film.specs.declared.text.Said.{Said}

abbrev pub said_width : Said → Option ℕ → Result Said HeadFault
said_width said None = Err BadNumber
said_width said (Some n) = Ok (record said { width = Some n })

abbrev pub said_height : Said → Option ℕ → Result Said HeadFault
said_height said None = Err BadNumber
said_height said (Some n) = Ok (record said { height = Some n })

abbrev pub said_rate : Said → Option (ℕ × ℕ) → Result Said HeadFault
said_rate said None = Err BadNumber
said_rate said (Some rate) = Ok (record said { num = rate.0; den = rate.1 })

abbrev pub said_unless : Said → Bool → HeadFault → Result Said HeadFault
said_unless said good fault = if good then Ok said else Err fault

-- once a letter was read with its value
abbrev pub said_after : Said → ℕ → List ℕ → Result Said HeadFault
said_after said letter value =
    if letter == 87 then said_width said (number_of 9 value)
    else if letter == 72 then said_height said (number_of 9 value)
    else if letter == 70 then said_rate said (rate_of value)
    else if letter == 67 then said_unless said (is_420 value) Chroma
    else if letter == 73 then said_unless said (is_progressive value) Interlace
    else Ok said

-- once a piece was read, which may be empty
abbrev pub said_piece : Said → List ℕ → Result Said HeadFault
said_piece said piece = if length piece == 0 then Ok said else said_after said (get_or piece 0 0) (drop 1 piece)

-- the head that a line writes, with its line feed
abbrev pub head_of_line : List ℕ → Result FilmHead HeadFault
head_of_line line = if begins_film line then head_of_pieces (pieces_of (drop 9 (take (length line - 1) line))) else Err NotY4m

-- the fault of a line that has as many bytes as a line may have, and no line feed among them
abbrev pub fault_of_long : List ℕ → HeadFault
fault_of_long line = if begins_film line then LongLine else NotY4m
