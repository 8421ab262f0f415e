-- Files held in memory.
use Rattle.std.specs.Prelude.{ℕ, List, [], ◌∷◌, bytes_eq, Option, Some, None, Result, Err, if◌then◌else◌}
use Rattle.flow_base.specs.declared.memory_files.Held.{Held}
use Rattle.flow_base.specs.declared.memory_files.MemoryFiles.{MemoryFiles}
use Rattle.flow_base.specs.declared.loading.LoadFault.{LoadFault}
use Rattle.flow_base.specs.declared.loading.LoadFault.TheVariants.{Failed}
use Rattle.flow_base.specs.Counts.{counted}
use Rattle.flow_base.specs.Loads.{Told}

-- the bytes held under a name; the first of equal names counts
abbrev pub held_under : List Held → List ℕ → Option (List ℕ)
held_under [] name = None
held_under (held ∷ rest) name = if bytes_eq held.name name then Some held.bytes else held_under rest name

-- files in memory tell all their meanings
abbrev pub told_of : MemoryFiles → Told
told_of files = record { held = held_under files.names; fails = files.fails; loads = files.loads }

-- a load raises the number of loads, and one that fails the count of faults
abbrev pub files_after : MemoryFiles → Result (List ℕ) LoadFault → MemoryFiles
files_after files (Err Failed) = record files { loads = counted files.loads; faults = counted files.faults }
files_after files _ = record files { loads = counted files.loads }
