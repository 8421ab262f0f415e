-- A result and the count of the faults of a file source: before, and now.
use Rattle.std.specs.Prelude.{◌≡◌, ◌≢◌, ℕ, List, Result, Err}
use Rattle.flow_base.specs.Counts.{Rose}
use Rattle.command_tasks.specs.declared.refusals.Refusal.{Refusal}
use Rattle.command_tasks.specs.declared.refusals.Refusal.TheVariants.{Load, Memory}

-- a load that fails raised the count of faults
abbrev pub CountsFault : {A : Type 0} → Result A Refusal → ℕ → ℕ → Type 0
CountsFault result before now = (name : List ℕ) → result ≡ Err (Load name) → Rose before now

-- and only such a load raised it
abbrev pub KeepsCount : {A : Type 0} → Result A Refusal → ℕ → ℕ → Type 0
KeepsCount result before now =
    result ≢ Err Memory → ((name : List ℕ) → result ≢ Err (Load name)) → now ≡ before
