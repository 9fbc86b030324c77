-- Films: what the bytes of a YUV4MPEG2 file say. A film is a head line and then pictures, each a line and three planes.
use Rattle.std.specs.Prelude.{ℕ, zero, suc, ◌+◌, ◌-◌, ◌*◌, ◌/◌, ◌%◌, ◌==◌, ◌≡◌, ◌≤◌, nat_le, nat_lt, nat_eq, ◌&&◌, ◌||◌, not, is_some, Bool, List, [], ◌∷◌, length, take, drop, get_or, codes, Option, Some, None, Result, Ok, Err, if◌then◌else◌}
use Rattle.std.specs.List.{starts_with, before_first, filter, list_any, slice_split}
use Rattle.std.specs.Option.{option_and_then, option_or, unwrap_or}
use Rattle.std.specs.Cmp.Lexicographic.{pointwise}
use Rattle.spec_basics.specs.Decimals.{number_of}
use Rattle.spec_film.specs.declared.FilmHead.{FilmHead}
use Rattle.spec_film.specs.declared.HeadFault.{HeadFault}
use Rattle.spec_film.specs.declared.HeadFault.TheVariants.{NotY4m, LongLine, BadNumber, Chroma, Interlace, Missing, Size, OddSize}
use Rattle.spec_film.specs.declared.InputFault.{InputFault}
use Rattle.spec_film.specs.declared.InputFault.TheVariants.{Head, NotFrame, CutFrame, TooLong}
use Rattle.spec_film.specs.Padding.{padded_size, padded_plane}

-- the samples of a picture's planes, row by row, without margins
pub record Planes : Type 0 where
  pub luma : List ℕ
  pub cb : List ℕ
  pub cr : List ℕ

-- how a film ends: the bytes stop between pictures, or there is a fault
pub data FilmEnd : Type 0 where
  Ended : FilmEnd
  Faulty : InputFault → FilmEnd

-- the pictures are padded to whole macroblocks
pub record Film : Type 0 where
  pub head : Option FilmHead
  pub pictures : List Planes
  pub end : FilmEnd

-- ---- lines

-- the most bytes that a line has, its line feed among them
abbrev pub most_line : ℕ
most_line = 1024

abbrev pub is_line_feed : ℕ → Bool
is_line_feed byte = byte == 10

abbrev pub is_space : ℕ → Bool
is_space byte = byte == 32

-- a space, or the end of the line
abbrev pub ends_word : ℕ → Bool
ends_word byte = is_space byte || is_line_feed byte

-- the bytes before the first line feed; where a line is too long, all that a line may have
abbrev pub line_of : List ℕ → List ℕ
line_of bytes = before_first is_line_feed (take most_line bytes)

-- there is a line feed where a line may end
abbrev pub has_line : List ℕ → Bool
has_line bytes = nat_le (length (line_of bytes) + 1) (length (take most_line bytes))

-- ---- the pieces of a head

-- a piece is a letter and a value; pieces are parted by one space or more
unfoldable pub pieces_of : List ℕ → List (List ℕ)
pieces_of text = filter (λ piece. nat_lt 0 (length piece)) (slice_split is_space text)

abbrev pub is_colon : ℕ → Bool
is_colon byte = byte == 58

-- both numbers are from 1 to 10,000,000, and there are at most 172 pictures in a second
abbrev pub is_rate : ℕ → ℕ → Bool
is_rate num den = nat_le 1 num && nat_le num 10000000 && (nat_le 1 den && nat_le den 10000000) && nat_le num (172 * den)

abbrev pub rate_from : Option ℕ → Option ℕ → Option (ℕ × ℕ)
rate_from None den = None
rate_from (Some num) None = None
rate_from (Some num) (Some den) = if is_rate num den then Some (num, den) else None

-- the rate that `<num>:<den>` writes, 1 to 9 digits each; `0:0` says nothing of it, and it is 25 pictures in a second
unfoldable pub rate_of : List ℕ → Option (ℕ × ℕ)
rate_of text =
    let num = before_first is_colon text in
    let tail = drop (length num) text in
    if pointwise nat_eq text (codes "0:0") then Some (25, 1)
    else if starts_with nat_eq tail (codes ":") then rate_from (number_of 9 num) (number_of 9 (drop 1 tail)) else None

-- 4:2:0 of 8 bits, with chroma samples at any place
unfoldable pub is_420 : List ℕ → Bool
is_420 text = list_any (λ name. pointwise nat_eq text name) (codes "420" ∷ codes "420jpeg" ∷ codes "420mpeg2" ∷ codes "420paldv" ∷ [])

-- progressive, or not said
unfoldable pub is_progressive : List ℕ → Bool
is_progressive text = list_any (λ name. pointwise nat_eq text name) (codes "p" ∷ codes "?" ∷ [])

abbrev pub fault_unless : Bool → HeadFault → Option HeadFault
fault_unless good fault = if good then None else Some fault

-- the fault of a piece: W and H have a number of 1 to 9 digits, F a rate; other letters may have any value
unfoldable pub value_fault : ℕ → List ℕ → Option HeadFault
value_fault letter value =
    if (letter == 87) || (letter == 72) then fault_unless (is_some (number_of 9 value)) BadNumber
    else if letter == 70 then fault_unless (is_some (rate_of value)) BadNumber
    else if letter == 67 then fault_unless (is_420 value) Chroma
    else if letter == 73 then fault_unless (is_progressive value) Interlace
    else None

abbrev pub piece_fault : List ℕ → Option HeadFault
piece_fault piece = value_fault (get_or piece 0 0) (drop 1 piece)

-- the first fault of the pieces, from the left
unfoldable pub pieces_fault : List (List ℕ) → Option HeadFault
pieces_fault [] = None
pieces_fault (piece ∷ pieces) = option_or (piece_fault piece) (pieces_fault pieces)

-- the value that a letter has: where it is repeated, the last one
unfoldable pub value_of : ℕ → List (List ℕ) → Option (List ℕ)
value_of letter [] = None
value_of letter (piece ∷ pieces) = option_or (value_of letter pieces) (if get_or piece 0 0 == letter then Some (drop 1 piece) else None)

-- ---- the head

abbrev pub is_between : ℕ → ℕ → ℕ → Bool
is_between least most n = nat_le least n && nat_le n most

-- the head of sizes and a rate
abbrev pub head_of_sizes : ℕ → ℕ → ℕ × ℕ → Result FilmHead HeadFault
head_of_sizes width height rate =
    if not (is_between 16 4096 width && is_between 16 2304 height) then Err Size
    else if not ((width % 2 == 0) && (height % 2 == 0)) then Err OddSize
    else Ok (record { width = width; height = height; num = rate.0; den = rate.1 })

abbrev pub head_from : Option ℕ → Option ℕ → ℕ × ℕ → Result FilmHead HeadFault
head_from None height rate = Err Missing
head_from (Some width) None rate = Err Missing
head_from (Some width) (Some height) rate = head_of_sizes width height rate

-- the number that is a letter's value
abbrev pub number_at : ℕ → List (List ℕ) → Option ℕ
number_at letter pieces = option_and_then (number_of 9) (value_of letter pieces)

-- 25 pictures in a second where the head says nothing of it
abbrev pub rate_at : List (List ℕ) → ℕ × ℕ
rate_at pieces = unwrap_or (option_and_then rate_of (value_of 70 pieces)) (25, 1)

abbrev pub head_unless : Option HeadFault → List (List ℕ) → Result FilmHead HeadFault
head_unless (Some fault) pieces = Err fault
head_unless None pieces = head_from (number_at 87 pieces) (number_at 72 pieces) (rate_at pieces)

-- the head that these pieces write
unfoldable pub head_of_pieces : List (List ℕ) → Result FilmHead HeadFault
head_of_pieces pieces = head_unless (pieces_fault pieces) pieces

-- the first word of a film
abbrev pub film_word : List ℕ
film_word = codes "YUV4MPEG2"

-- it stands at the front, and a space or a line feed behind it
abbrev pub begins_film : List ℕ → Bool
begins_film bytes = starts_with nat_eq bytes film_word && ends_word (get_or bytes 9 0)

abbrev pub head_with : Result FilmHead HeadFault → List ℕ → Result (FilmHead × List ℕ) HeadFault
head_with (Err fault) rest = Err fault
head_with (Ok head) rest = Ok (head, rest)

-- the head of a film, and the bytes behind its line feed
unfoldable pub read_head : List ℕ → Result (FilmHead × List ℕ) HeadFault
read_head bytes =
    if not (begins_film bytes) then Err NotY4m
    else if has_line bytes then head_with (head_of_pieces (pieces_of (drop 9 (line_of bytes)))) (drop (length (line_of bytes) + 1) bytes)
    else if nat_lt (length bytes) most_line then Err NotY4m
    else Err LongLine

-- the values that a head may have
pub record AllowedHead (head : FilmHead) : Type 0 where
  pub width_least : 16 ≤ head.width
  pub width_most : head.width ≤ 4096
  pub width_even : head.width % 2 ≡ 0
  pub height_least : 16 ≤ head.height
  pub height_most : head.height ≤ 2304
  pub height_even : head.height % 2 ≡ 0
  pub num_least : 1 ≤ head.num
  pub num_most : head.num ≤ 10000000
  pub den_least : 1 ≤ head.den
  pub den_most : head.den ≤ 10000000
  pub rate : head.num ≤ 172 * head.den

-- ---- pictures

-- how many samples the planes have: 4:2:0, each chroma plane has half the width and half the height
abbrev pub luma_count : FilmHead → ℕ
luma_count head = head.width * head.height

abbrev pub chroma_count : FilmHead → ℕ
chroma_count head = head.width / 2 * (head.height / 2)

-- how many bytes a picture's planes have
abbrev pub planes_count : FilmHead → ℕ
planes_count head = luma_count head + chroma_count head + chroma_count head

-- the planes at the front of the bytes: luma, Cb, Cr
abbrev pub planes_at : FilmHead → List ℕ → Planes
planes_at head bytes = record {
  luma = take (luma_count head) bytes;
  cb = take (chroma_count head) (drop (luma_count head) bytes);
  cr = take (chroma_count head) (drop (luma_count head + chroma_count head) bytes);
}

-- planes of the head's sizes, padded to whole macroblocks
abbrev pub padded : FilmHead → Planes → Planes
padded head planes = record {
  luma = padded_plane head.width head.height (padded_size head.width) (padded_size head.height) planes.luma;
  cb = padded_plane (head.width / 2) (head.height / 2) (padded_size head.width / 2) (padded_size head.height / 2) planes.cb;
  cr = padded_plane (head.width / 2) (head.height / 2) (padded_size head.width / 2) (padded_size head.height / 2) planes.cr;
}

-- the first word of the line before a picture
abbrev pub frame_word : List ℕ
frame_word = codes "FRAME"

-- these bytes begin no line of a picture: they, or the first five of them, are no front of its word, or behind the word comes neither a
-- space nor a line feed
unfoldable pub is_unlike_frame : List ℕ → Bool
is_unlike_frame bytes = not (starts_with nat_eq frame_word (take 5 bytes)) || (nat_le 6 (length bytes) && not (ends_word (get_or bytes 5 0)))

-- no picture can begin with these bytes, also where the line is too long
abbrev pub is_no_frame : List ℕ → Bool
is_no_frame bytes = is_unlike_frame bytes || (nat_le most_line (length bytes) && not (has_line bytes))

-- how many bytes the line and the planes at the front of the bytes have
abbrev pub frame_count : FilmHead → List ℕ → ℕ
frame_count head bytes = length (line_of bytes) + 1 + planes_count head

-- the line and the planes are all there
abbrev pub is_whole_frame : FilmHead → List ℕ → Bool
is_whole_frame head bytes = has_line bytes && nat_le (frame_count head bytes) (length bytes)

-- what comes next in a film: nothing more; a picture, and the bytes behind it; or a fault
pub data FrameStep : Type 0 where
  Over : FrameStep
  Next : Planes → List ℕ → FrameStep
  Broken : InputFault → FrameStep

-- the picture of this number, which these bytes begin with
unfoldable pub frame_at : ℕ → FilmHead → List ℕ → FrameStep
frame_at number head bytes =
    if is_no_frame bytes then Broken (NotFrame number)
    else if is_whole_frame head bytes
    then Next (padded head (planes_at head (drop (length (line_of bytes) + 1) bytes))) (drop (frame_count head bytes) bytes)
    else Broken (CutFrame number (length bytes))

-- the most pictures that a film has
abbrev pub most_pictures : ℕ
most_pictures = 1000000

-- what comes next where so many pictures may still come
unfoldable pub frame_step : ℕ → FilmHead → List ℕ → FrameStep
frame_step more head [] = Over
frame_step zero head (byte ∷ bytes) = Broken TooLong
frame_step (suc more) head (byte ∷ bytes) = frame_at (most_pictures - suc more) head (byte ∷ bytes)

-- the pictures that begin with this step, where `after` tells those behind it
abbrev pub pictures_from : FrameStep → (List ℕ → List Planes × FilmEnd) → List Planes × FilmEnd
pictures_from Over after = ([], Ended)
pictures_from (Broken fault) after = ([], Faulty fault)
pictures_from (Next planes rest) after = (planes ∷ (after rest).0, (after rest).1)

-- the pictures of the bytes, at most so many, and how they end (no picture comes next where none may come)
unfoldable pub pictures_of : ℕ → FilmHead → List ℕ → List Planes × FilmEnd
pictures_of zero head bytes = pictures_from (frame_step zero head bytes) (λ rest. ([], Ended))
pictures_of (suc more) head bytes = pictures_from (frame_step (suc more) head bytes) (λ rest. pictures_of more head rest)

abbrev pub film_from : Result (FilmHead × List ℕ) HeadFault → Film
film_from (Err fault) = record { head = None; pictures = []; end = Faulty (Head fault) }
film_from (Ok read) = record {
  head = Some read.0;
  pictures = (pictures_of most_pictures read.0 read.1).0;
  end = (pictures_of most_pictures read.0 read.1).1;
}

-- the film that these bytes are
unfoldable pub film_of : List ℕ → Film
film_of bytes = film_from (read_head bytes)
