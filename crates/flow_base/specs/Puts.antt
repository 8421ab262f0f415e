-- What a put changes of a sink.
use Rattle.std.specs.Prelude.{◌≡◌, ℕ, ◌≤◌, List, ◌++◌, length, take, Option, option_map, Result, Ok, Err}
use Rattle.flow_base.specs.declared.putting.SinkFault.{SinkFault}
use Rattle.flow_base.specs.Counts.{counted}

-- what a sink tells: the bytes taken so far, the number of puts made
pub record Taken : Type 0 where
  pub bytes : List ℕ
  pub puts : ℕ

-- a put appends bytes and raises the number of puts
abbrev pub after_put : List ℕ → Taken → Taken
after_put bytes t = record { bytes = t.bytes ++ bytes; puts = counted t.puts }

-- Ok appends the whole piece, a failure a prefix of it
abbrev pub Puts : List ℕ → Result (Unit {0}) SinkFault → Option Taken → Option Taken → Type 0
Puts piece (Ok _) old new = new ≡ option_map (after_put piece) old
Puts piece (Err _) old new = (count : ℕ) × (count ≤ length piece) × (new ≡ option_map (after_put (take count piece)) old)
