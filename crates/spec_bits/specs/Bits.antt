-- Numbers as lists of bits, most significant first, and bytes as bits.
use Rattle.std.specs.Prelude.{ℕ, zero, suc, ◌+◌, ◌*◌, ◌/◌, ◌%◌, ◌^◌, ◌==◌, ◌<◌, Bool, true, false, List, [], ◌∷◌}
use Rattle.std.specs.List.{flat_map}

abbrev pub digit : Bool → ℕ
digit true = 1
digit false = 0

-- the n low binary digits of a number (the descriptor u(n) of ITU-T H.264, clause 7.2)
unfoldable pub digits : ℕ → ℕ → List Bool
digits zero v = []
digits (suc n) v = (v / 2 ^ n % 2 == 1) ∷ digits n v

-- the number whose digits are those of x and then these bits
abbrev pub value : ℕ → List Bool → ℕ
value x [] = x
value x (b ∷ bs) = value (2 * x + digit b) bs

-- the bits of bytes, one byte after another
unfoldable pub bits_of_bytes : List ℕ → List Bool
bits_of_bytes bytes = flat_map (digits 8) bytes

-- the bytes of bits, eight bits to a byte; bits that make no whole byte at the end are left out
unfoldable pub bytes_of_bits : List Bool → List ℕ
bytes_of_bits (a ∷ b ∷ c ∷ d ∷ e ∷ f ∷ g ∷ h ∷ rest) = value 0 (a ∷ b ∷ c ∷ d ∷ e ∷ f ∷ g ∷ h ∷ []) ∷ bytes_of_bits rest
bytes_of_bits _ = []

abbrev pub IsByte : ℕ → Type 0
IsByte x = x < 256
