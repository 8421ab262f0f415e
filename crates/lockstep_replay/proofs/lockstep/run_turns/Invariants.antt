use Rattle.std.proofs.Common.{◌≡◌, ℕ, ◌-◌, List, None}
use Rattle.lockstep_replay.specs.Beginnings.{Begins}
use Rattle.lockstep_replay.specs.Tasks.{Task, Limits}
use Rattle.lockstep_replay.specs.Private.Turning.{Keeps}
use Rattle.lockstep_replay.specs.Verdicts.{judged_from}
use Rattle.lockstep_replay.proofs.RoundVerdicts.{StandsAt}
use Rattle.lockstep_replay.proofs.lockstep.run_turns.Given as goal

abbrev pub invariant-loop : goal.invariant-loop
invariant-loop l = record {
  fine : l.made.why ≡ None;
  keeps : Keeps l.real l.replay l.tally.bits l.tally.needed l.tally.budget;
  stands : (task : Task) (limits : Limits) (secret : List ℕ) → Begins l.fn.runs task limits secret →
      StandsAt task limits secret l.counter l.real l.tally l.replay;
  judged : (task : Task) (limits : Limits) (secret : List ℕ) → Begins l.fn.runs task limits secret →
      judged_from task limits secret (l.turns - l.counter) l.counter ≡ judged_from task limits secret
      l.turns 0;
}
