-- Numbers written in decimal digits.
use Rattle.std.specs.Prelude.{ℕ, ◌-◌, ◌*◌, ◌+◌, ◌&&◌, nat_le, List, length, fold, Option, Some, None, if◌then◌else◌}
use Rattle.std.specs.List.{list_all}
use Rattle.std.specs.Char.{is_ascii_digit}

-- the value of decimal digits
abbrev pub value_of_digits : List ℕ → ℕ
value_of_digits digits = fold (λ n d. 10 * n + (d - 48)) 0 digits

-- the number that 1 to `most` decimal digits write
unfoldable pub number_of : ℕ → List ℕ → Option ℕ
number_of most digits =
    if nat_le 1 (length digits) && nat_le (length digits) most && list_all is_ascii_digit digits
    then Some (value_of_digits digits) else None
