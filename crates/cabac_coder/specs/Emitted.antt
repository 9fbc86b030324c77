-- What was written of a whole number that grows by bytes, some of which a carry may still reach.
use Rattle.std.specs.Prelude.{ℕ, ◌+◌, ◌-◌, ◌*◌, ◌^◌, Bool, cond, List, take, drop, length}
use Rattle.spec_bits.specs.Bits.{value}

-- the bits that stood there at the start, and the number and how many binary digits it has
pub record Emitted : Type 0 where
  pub start : List Bool
  pub room : ℕ
  pub made : ℕ
  pub number : ℕ
  pub count : ℕ

-- the number of outstanding bytes that are all 255, and all 0 after a carry
abbrev pub run_of : Bool → ℕ → ℕ
run_of carry outstanding = cond carry 0 (2 ^ (8 * outstanding) - 1)

-- the written bits, then the byte that is held back, then the outstanding bytes, each 255
abbrev pub pending : ℕ → ℕ → ℕ → ℕ
pending held outstanding written = (256 * written + held) * 2 ^ (8 * outstanding) + (2 ^ (8 * outstanding) - 1)

-- before the first byte is held none is counted for it
abbrev pub emitted : ℕ → Bool → ℕ → ℕ → List Bool → ℕ → ℕ → Emitted
emitted base first held outstanding text room made = record {
  start = take base text;
  room = room;
  made = made;
  number = pending held outstanding (value 0 (drop base text));
  count = cond first 0 (length text - base + 8) + 8 * outstanding;
}
