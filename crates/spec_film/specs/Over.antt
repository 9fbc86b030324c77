-- A list with another written over a part of it.
use Rattle.std.specs.Prelude.{ℕ, List, length, take, drop, ◌++◌}

-- xs with w from place i on
abbrev pub over : List ℕ → ℕ → List ℕ → List ℕ
over xs i w = take i xs ++ (w ++ drop (length w) (drop i xs))
