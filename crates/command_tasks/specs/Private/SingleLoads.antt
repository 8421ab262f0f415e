-- What one load of a command answers.
use Rattle.std.specs.Prelude.{◌≡◌, ◌≢◌, ℕ, List, Option, Some, None, Result, Ok, Err}
use Rattle.flow_base.specs.declared.loading.LoadFault.{LoadFault}
use Rattle.flow_base.specs.declared.loading.LoadFault.TheVariants as faults
use Rattle.flow_base.specs.Loads.{Told, next_answer}
use Rattle.command_tasks.specs.declared.refusals.Refusal.{Refusal}
use Rattle.command_tasks.specs.declared.refusals.Refusal.TheVariants.{Load, TooLarge, Memory}
use Rattle.command_tasks.specs.FileLimits.{limit_of}
use Rattle.command_tasks.specs.Loading.{Want, load_refusal}
use Rattle.command_tasks.specs.Names.{shown}

-- the refusal of a name whose load was answered by a fault; Memory is free
abbrev pub RefusesLoad : List ℕ → LoadFault → Refusal → Type 0
RefusesLoad name faults.Failed refusal = refusal ≢ Memory → refusal ≡ Load (shown name)
RefusesLoad name (faults.TooLarge number) refusal = refusal ≢ Memory → refusal ≡ TooLarge (shown name) number
RefusesLoad name faults.Memory refusal = refusal ≡ Memory

abbrev pub or_refusal : List ℕ → Result (List ℕ) LoadFault → Result (List ℕ) Refusal
or_refusal name (Ok file) = Ok file
or_refusal name (Err fault) = Err (load_refusal name fault)

-- what a source that tells its meanings gives, unless memory is short
abbrev pub AnswersOne : Option Told → Want → Result (List ℕ) Refusal → Type 0
AnswersOne None w result = Unit {0}
AnswersOne (Some told) w result =
    result ≢ Err Memory → result ≡ or_refusal w.name (next_answer told w.name (limit_of w.kind))
