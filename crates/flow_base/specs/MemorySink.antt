-- A sink in memory with room for a number of bytes.
use Rattle.std.specs.Prelude.{ℕ, ◌-◌, ◌==◌, nat_le, min, List, [], ◌∷◌, ◌++◌, length, take, Option, Some, None, Result, Ok, Err, if◌then◌else◌}
use Rattle.flow_base.specs.declared.memory_sink.SinkFail.{SinkFail}
use Rattle.flow_base.specs.declared.putting.SinkFault.{SinkFault}
use Rattle.flow_base.specs.declared.putting.SinkFault.TheVariants.{Failed}
use Rattle.flow_base.specs.Counts.{counted}
use Rattle.flow_base.specs.Puts.{Taken}

-- the bytes taken, the room that is left, the calls that fail, the number of calls made, the count of faults
pub record SinkState : Type 0 where
  pub taken : List ℕ
  pub room : ℕ
  pub fails : List SinkFail
  pub calls : ℕ
  pub faults : ℕ

-- a new sink has taken nothing
abbrev pub empty_sink : ℕ → List SinkFail → SinkState
empty_sink room fails = record { taken = []; room = room; fails = fails; calls = 0; faults = 0 }

-- the sink tells its bytes and, as the number of puts, its number of calls
abbrev pub taken_of : SinkState → Taken
taken_of s = record { bytes = s.taken; puts = s.calls }

-- how many bytes a call is to take before it fails, by the first item of its number; None where no item has it
abbrev pub fail_of : List SinkFail → ℕ → Option ℕ
fail_of [] call = None
fail_of (fail ∷ rest) call = if fail.call == call then Some fail.taken else fail_of rest call

-- the sink after a put that takes these bytes
abbrev pub with_bytes : SinkState → List ℕ → SinkState
with_bytes s bytes = record s { taken = s.taken ++ bytes; room = s.room - length bytes; calls = counted s.calls }

-- a put that fails takes a prefix of its piece, as far as there is room, and raises the count of faults
abbrev pub with_fault : SinkState → List ℕ → ℕ → SinkState
with_fault s piece count = record (with_bytes s (take (min count s.room) piece)) { faults = counted s.faults }

-- the sink after a put whose number is to fail after a count of bytes, or is not listed: then it fails where its piece
-- does not fit the room that is left
abbrev pub after_fail : SinkState → List ℕ → Option ℕ → SinkState
after_fail s piece (Some count) = with_fault s piece count
after_fail s piece None = if nat_le (length piece) s.room then with_bytes s piece else with_fault s piece (length piece)

-- the sink after a put of a piece
abbrev pub sink_after : SinkState → List ℕ → SinkState
sink_after s piece = after_fail s piece (fail_of s.fails (counted s.calls))

-- the answer to the same put: it fails where its number is listed, or where its piece does not fit
abbrev pub answer_of : SinkState → List ℕ → Option ℕ → Result (Unit {0}) SinkFault
answer_of s piece (Some count) = Err Failed
answer_of s piece None = if nat_le (length piece) s.room then Ok tt else Err Failed

-- the answer to a put of a piece
abbrev pub put_answer : SinkState → List ℕ → Result (Unit {0}) SinkFault
put_answer s piece = answer_of s piece (fail_of s.fails (counted s.calls))
