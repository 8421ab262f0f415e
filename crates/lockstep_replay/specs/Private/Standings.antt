-- What fails after a turn, by how the two runs stand.
use Rattle.std.specs.Prelude.{ℕ, Option, Some}
use Rattle.rv32im_machine.specs.State.{State}
use Rattle.rv32im_machine.specs.declared.stepping.Stepped.TheVariants.{Ran, Exited}
use Rattle.replay_machine.specs.declared.turns.ReplayTurn.{ReplayTurn}
use Rattle.replay_machine.specs.declared.turns.ReplayTurn.TheVariants.{Ran as ReplayRan, Exited as ReplayExited}
use Rattle.replay_machine.specs.declared.turns.ReplayTurn.TheVariants.{Stopped as ReplayStopped, Wants}
use Rattle.replay_machine.specs.declared.turns.ReplayTurn.TheVariants.{RangeOutside as ReplayOutside}
use Rattle.replay_machine.specs.Standing.{Standing, turn_answer}
use Rattle.lockstep_replay.specs.declared.tallies.Tallying.{Tallying}
use Rattle.lockstep_replay.specs.declared.verdicts.ReplayStop.TheVariants.{Guest, RangeOutside, Short}
use Rattle.lockstep_replay.specs.declared.verdicts.Why.{Why}
use Rattle.lockstep_replay.specs.declared.verdicts.Why.TheVariants.{ReplayFault}
use Rattle.lockstep_replay.specs.Private.Turning.{why_compared}
use Rattle.lockstep_replay.specs.Verdicts.{why_mode}

-- of a replay that has answered this, beside a real run of which so many bits have crossed
abbrev pub why_answered : State → ℕ → Standing → ReplayTurn → Option Why
why_answered real needed standing ReplayRan = why_compared real needed standing Ran
why_answered real needed standing (ReplayExited status) = why_compared real needed standing (Exited status)
why_answered real needed standing (ReplayStopped fault) = Some (ReplayFault (Guest fault))
why_answered real needed standing (Wants missing) = Some (ReplayFault (Short missing))
why_answered real needed standing (ReplayOutside region range) = Some (ReplayFault (RangeOutside region range))

-- of a replay that stands so
abbrev pub why_beside : State → ℕ → Standing → Option Why
why_beside real needed standing =
    why_answered real needed standing (turn_answer standing.missing standing.outside standing.state.control.mode)

-- of both, where the turn was a step outside of regions
abbrev pub why_standing : State → Tallying → Standing → Option Why
why_standing real tally standing =
    why_mode real.control.mode tally.budget tally.needed (why_beside real tally.needed standing)
