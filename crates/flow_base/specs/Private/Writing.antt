-- Writing a piece to the system: what an answer shows of the bytes that the writer holds, where they are known.
use Rattle.std.specs.Prelude.{ℕ, ◌≤◌, List, length, take, Option, Result, Ok, Err}
use Rattle.std.specs.Io.KnownBytes.{Appends}
use Rattle.flow_base.specs.declared.putting.SinkFault.{SinkFault}

-- Ok appends the whole piece, a failure a prefix of it
abbrev pub Writes : List ℕ → Result (Unit {0}) SinkFault → Option (List ℕ) → Option (List ℕ) → Type 0
Writes piece (Ok _) old new = Appends old new piece
Writes piece (Err _) old new = (count : ℕ) × (count ≤ length piece) × Appends old new (take count piece)
