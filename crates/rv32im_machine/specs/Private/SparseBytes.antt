-- Guest memory in two parts.
use Rattle.std.specs.Prelude.{ℕ, ◌-◌, List, ◌++◌, length}
use Rattle.rv32im_machine.specs.Start.{zeros}

-- the bytes that the lower part has room for
abbrev pub low_room : ℕ
low_room = 16711680

-- the bytes of the upper part
abbrev pub high_size : ℕ
high_size = 65536

-- guest memory from its lower part, as far as it is made, and its upper part: between them all is 0
unfoldable pub spread : List ℕ → List ℕ → List ℕ
spread low high = low ++ (zeros (low_room - length low) ++ high)
