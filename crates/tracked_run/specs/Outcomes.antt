-- What turns answer, and when no more are made.
use Rattle.std.specs.Prelude.{Option, Some, None, Result, Ok, Err}
use Rattle.flow_base.specs.declared.lists.NoMemory.{NoMemory}
use Rattle.enclosure_regions.specs.declared.break_kinds.Break.{Break}
use Rattle.rv32im_machine.specs.declared.stepping.Stepped.{Stepped}
use Rattle.rv32im_machine.specs.declared.stepping.Stepped.TheVariants.{Ran, Exited, Stopped}
use Rattle.run_labels.specs.declared.faults.MeasureFault.{MeasureFault}
use Rattle.run_labels.specs.declared.faults.MeasureFault.TheVariants.{Guest as GuestFault}
use Rattle.run_labels.specs.Runs.{broken_fault, stopped_fault}
use Rattle.tracked_run.specs.declared.outcomes.TrackedTurn.{TrackedTurn}
use Rattle.tracked_run.specs.declared.outcomes.TrackedTurn.TheVariants as turn
use Rattle.tracked_run.specs.declared.outcomes.Spent.{Spent}
use Rattle.std.specs.Option.{option_or}
use Rattle.tracked_run.specs.declared.outcomes.Spent.TheVariants as spent

-- what each turn answers once no more are made
abbrev pub answer_of : Spent → Result TrackedTurn NoMemory
answer_of (spent.Exited status) = Ok (turn.Exited status)
answer_of (spent.Refused fault) = Ok (turn.Refused fault)
answer_of spent.Memory = Err (record {})

-- after every other answer than that the run goes on no more turns are made
abbrev pub spent_by : Result TrackedTurn NoMemory → Option Spent
spent_by (Ok turn.Ran) = None
spent_by (Ok (turn.Exited status)) = Some (spent.Exited status)
spent_by (Ok (turn.Refused fault)) = Some (spent.Refused fault)
spent_by (Err none) = Some spent.Memory

-- of a turn that is refused so, if it is, and leaves the guest in this mode
abbrev pub turn_answer : Option MeasureFault → Stepped → TrackedTurn
turn_answer (Some fault) mode = turn.Refused fault
turn_answer None Ran = turn.Ran
turn_answer None (Exited status) = turn.Exited status
turn_answer None (Stopped fault) = turn.Refused (GuestFault fault)

-- a look at what may depend on the secret, then what breaks a region, then the stop of the guest
abbrev pub fault_of : Option MeasureFault → Option Break → Stepped → Option MeasureFault
fault_of refused broken mode = option_or refused (option_or (broken_fault broken) (stopped_fault mode))
