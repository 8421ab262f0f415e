-- The secret of a number.
use Rattle.std.specs.Prelude.{ℕ, zero, suc, ◌+◌, ◌*◌, ◌/◌, ◌%◌, List, [], ◌∷◌}

-- its length in bytes
abbrev pub length_of : ℕ → ℕ
length_of number = 1 + number % 2000

-- the state of the generator after one
abbrev pub next : ℕ → ℕ
next state = (1664525 * state + 1013904223) % 4294967296

-- the highest bytes of so many states after one
abbrev pub bytes_behind : ℕ → ℕ → List ℕ
bytes_behind zero state = []
bytes_behind (suc count) state = next state / 16777216 ∷ bytes_behind count (next state)

abbrev pub secret_of : ℕ → List ℕ
secret_of number = bytes_behind (length_of number) number
