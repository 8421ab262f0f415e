-- Reading a file from the system: what an answer shows of the bytes that were there.
use Rattle.std.specs.Prelude.{◌≡◌, ℕ, ◌+◌, ◌<◌, ◌≤◌, ⊤, List, length, Result, Ok, Err}
use Rattle.flow_base.specs.declared.loading.LoadFault.{LoadFault}
use Rattle.flow_base.specs.declared.loading.LoadFault.TheVariants.{Failed, TooLarge, Memory}

-- an answer keeps the limit
abbrev pub KeepsLimit : ℕ → Result (List ℕ) LoadFault → Type 0
KeepsLimit limit (Ok bytes) = length bytes ≤ limit
KeepsLimit limit (Err (TooLarge number)) = number ≡ limit + 1
KeepsLimit limit (Err Failed) = ⊤
KeepsLimit limit (Err Memory) = ⊤

-- Ok gives all the bytes that a reader had left, and too many are more than the limit
abbrev pub IsReadOf : ℕ → Result (List ℕ) LoadFault → List ℕ → Type 0
IsReadOf limit (Ok bytes) left = bytes ≡ left
IsReadOf limit (Err (TooLarge number)) left = limit < length left
IsReadOf limit (Err Failed) left = ⊤
IsReadOf limit (Err Memory) left = ⊤
