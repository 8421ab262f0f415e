-- What the real side of a lockstep holds, as a tape.
use Rattle.lockstep_replay.specs.declared.tallies.Tallying.{Tallying}
use Rattle.lockstep_replay.specs.Tapes.{Tally}

abbrev pub tally_of : Tallying → Tally
tally_of side = record { ahead = side.masks; stream = side.bits; needed = side.needed; budget = side.budget }
