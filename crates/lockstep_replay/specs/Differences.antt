-- The first place where two outputs differ.
use Rattle.std.specs.Prelude.{ℕ, suc, ◌==◌, List, [], ◌∷◌, length, Option, Some, None, if◌then◌else◌}
use Rattle.rv32im_machine.specs.declared.stepping.Stepped.{Stepped}
use Rattle.rv32im_machine.specs.declared.stepping.Stepped.TheVariants.{Ran, Exited, Stopped}
use Rattle.rv32im_machine.specs.State.{State}
use Rattle.lockstep_replay.specs.declared.differences.Difference.{Difference}
use Rattle.std.specs.Option.{option_or}

-- of two lists of bytes, whose first bytes have this index
abbrev pub byte_difference : ℕ → List ℕ → List ℕ → Option Difference
byte_difference index [] replay = None
byte_difference index (byte ∷ real) [] = None
byte_difference index (byte ∷ real) (other ∷ replay) =
    if byte == other then byte_difference (suc index) real replay
    else Some (record { index = index; real = byte; replay = other })

-- of two exit statuses, after an output of this length
abbrev pub status_difference : ℕ → Stepped → Stepped → Option Difference
status_difference index Ran replay = None
status_difference index (Stopped fault) replay = None
status_difference index (Exited status) Ran = None
status_difference index (Exited status) (Stopped fault) = None
status_difference index (Exited status) (Exited other) =
    if status == other then None else Some (record { index = index; real = status; replay = other })

-- of the outputs of two runs with equal marks: the first byte that differs, or else the statuses
abbrev pub difference_of : State → State → Option Difference
difference_of real replay =
    option_or (byte_difference 0 real.control.output replay.control.output)
    (status_difference (length real.control.output) real.control.mode replay.control.mode)
