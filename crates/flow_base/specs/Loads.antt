-- What a load of a file source answers, and what it changes.
use Rattle.std.specs.Prelude.{◌≡◌, ◌≢◌, ℕ, ◌+◌, ◌≤◌, nat_le, ◌==◌, List, length, Option, Some, None, Result, Ok, Err, if◌then◌else◌}
use Rattle.std.specs.List.{list_any}
use Rattle.flow_base.specs.declared.loading.LoadFault.{LoadFault}
use Rattle.flow_base.specs.declared.loading.LoadFault.TheVariants.{Failed, TooLarge, Memory}
use Rattle.flow_base.specs.Counts.{counted, Rose}

-- what a file source tells: the bytes held under a name, the numbers of the loads that fail, the number of loads made
pub record Told : Type 0 where
  pub held : List ℕ → Option (List ℕ)
  pub fails : List ℕ
  pub loads : ℕ

-- a load changes the number of loads alone
abbrev pub after_load : Told → Told
after_load t = record t { loads = counted t.loads }

-- held bytes are answered where they are within the limit
abbrev pub within_limit : ℕ → List ℕ → Result (List ℕ) LoadFault
within_limit limit bytes = if nat_le (length bytes) limit then Ok bytes else Err (TooLarge (limit + 1))

-- a name that is not held is a failure
abbrev pub held_answer : ℕ → Option (List ℕ) → Result (List ℕ) LoadFault
held_answer limit None = Err Failed
held_answer limit (Some bytes) = within_limit limit bytes

-- the answer of the load whose number is the number of loads: it fails where that number is one that fails
abbrev pub last_answer : Told → List ℕ → ℕ → Result (List ℕ) LoadFault
last_answer t name limit =
    if list_any (λ number. number == t.loads) t.fails then Err Failed else held_answer limit (t.held name)

-- the answer of the next load
abbrev pub next_answer : Told → List ℕ → ℕ → Result (List ℕ) LoadFault
next_answer t name limit = last_answer (after_load t) name limit

-- the answer is this one, unless memory is short
abbrev pub UnlessMemory : Result (List ℕ) LoadFault → Result (List ℕ) LoadFault → Type 0
UnlessMemory result answer = result ≢ Err Memory → result ≡ answer

-- a source that tells its meanings gives the answer that they have
abbrev pub Answers : Option Told → List ℕ → ℕ → Result (List ℕ) LoadFault → Type 0
Answers None name limit result = Unit {0}
Answers (Some t) name limit result = UnlessMemory result (next_answer t name limit)

-- what each answer shows of the limit and of the count of faults before and after, told or not
abbrev pub ShowsCause : ℕ → ℕ → ℕ → Result (List ℕ) LoadFault → Type 0
ShowsCause limit before now (Ok bytes) = length bytes ≤ limit
ShowsCause limit before now (Err Failed) = Rose before now
ShowsCause limit before now (Err (TooLarge number)) = number ≡ limit + 1
ShowsCause limit before now (Err Memory) = now ≡ before
