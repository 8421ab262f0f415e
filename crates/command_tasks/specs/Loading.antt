-- The loads of a command, in order, and what comes of them.
use Rattle.std.specs.Prelude.{◌≡◌, ℕ, ◌+◌, ◌≤◌, ◌⊎◌, List, [], ◌∷◌, take, length, Option, None, Some, Result, Ok, Err}
use Rattle.flow_base.specs.declared.loading.LoadFault.{LoadFault}
use Rattle.flow_base.specs.declared.loading.LoadFault.TheVariants as faults
use Rattle.flow_base.specs.Loads.{Told, after_load, next_answer}
use Rattle.command_tasks.specs.declared.kinds.FileKind.{FileKind}
use Rattle.command_tasks.specs.declared.refusals.Refusal.{Refusal}
use Rattle.command_tasks.specs.declared.refusals.Refusal.TheVariants.{Load, TooLarge, Memory}
use Rattle.command_tasks.specs.FileLimits.{limit_of}
use Rattle.command_tasks.specs.Names.{shown}

-- a file by its name, and what it is for
pub record Want : Type 0 where
  pub name : List ℕ
  pub kind : FileKind

abbrev pub want : List ℕ → FileKind → Want
want name kind = record { name = name; kind = kind }

-- the refusal of a name whose load was answered by a fault
abbrev pub load_refusal : List ℕ → LoadFault → Refusal
load_refusal name faults.Failed = Load (shown name)
load_refusal name (faults.TooLarge number) = TooLarge (shown name) number
load_refusal name faults.Memory = Memory

-- a file before the others
abbrev pub and_file : List ℕ → Result (List (List ℕ)) Refusal → Result (List (List ℕ)) Refusal
and_file file (Ok files) = Ok (file ∷ files)
and_file file (Err refusal) = Err refusal

abbrev pub and_load :
    Want → Result (List ℕ) LoadFault → Result (List (List ℕ)) Refusal → Result (List (List ℕ)) Refusal
and_load w (Ok file) later = and_file file later
and_load w (Err fault) later = Err (load_refusal w.name fault)

-- all files that are wanted, or the first refusal
abbrev pub loaded_from : Told → List Want → Result (List (List ℕ)) Refusal
loaded_from told [] = Ok []
loaded_from told (w ∷ wants) =
    and_load w (next_answer told w.name (limit_of w.kind)) (loaded_from (after_load told) wants)

-- the source after these loads: no load is made after the first that is refused
abbrev pub after_answer : Result (List ℕ) LoadFault → Told → Told → Told
after_answer (Ok file) told later = later
after_answer (Err fault) told later = told

abbrev pub after_loads : Told → List Want → Told
after_loads told [] = told
after_loads told (w ∷ wants) =
    after_answer (next_answer told w.name (limit_of w.kind)) (after_load told) (after_loads (after_load told) wants)

-- a file for each that is wanted, each with at most as many bytes as it may have
abbrev pub AreWithin : List Want → List (List ℕ) → Type 0
AreWithin [] [] = Unit {0}
AreWithin [] (file ∷ files) = ⊥
AreWithin (w ∷ wants) [] = ⊥
AreWithin (w ∷ wants) (file ∷ files) = (length file ≤ limit_of w.kind) × AreWithin wants files

-- the refusal of a load of one of these
abbrev pub IsLoadRefusal : List Want → Refusal → Type 0
IsLoadRefusal [] refusal = ⊥
IsLoadRefusal (w ∷ wants) refusal =
    (refusal ≡ Load (shown w.name)) ⊎ ((refusal ≡ TooLarge (shown w.name) (limit_of w.kind + 1))
    ⊎ IsLoadRefusal wants refusal)

-- what may come of loads, whatever the source holds
abbrev pub MayLoad : List Want → Result (List (List ℕ)) Refusal → Type 0
MayLoad wants (Ok files) = AreWithin wants files
MayLoad wants (Err refusal) = IsLoadRefusal wants refusal

-- and what comes of them where the source tells its meanings
abbrev pub LoadsAs : Option Told → List Want → Result (List (List ℕ)) Refusal → Type 0
LoadsAs None wants loaded = Unit {0}
LoadsAs (Some told) wants loaded = loaded ≡ loaded_from told wants

abbrev pub Loads : Option Told → List Want → Result (List (List ℕ)) Refusal → Type 0
Loads told wants loaded = MayLoad wants loaded × LoadsAs told wants loaded

-- what a source has after its loads
abbrev pub Leaves : Option Told → List Want → Option Told → Type 0
Leaves None wants later = later ≡ None
Leaves (Some told) wants later = later ≡ Some (after_loads told wants)

-- what a source has after a first part of its loads
abbrev pub LeavesPart : Option Told → List Want → Option Told → Type 0
LeavesPart told wants later = (count : ℕ) × Leaves told (take count wants) later
