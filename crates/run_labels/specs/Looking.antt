-- What a run may not look at: code and base registers of ranges that may depend on the secret.
use Rattle.std.specs.Prelude.{ℕ, ◌+◌, ◌==◌, ◌&&◌, List, Option, Some, None, if◌then◌else◌}
use Rattle.rv32im_machine.specs.declared.language.Seen.{Seen}
use Rattle.rv32im_machine.specs.declared.language.Seen.TheVariants.{Word, Base}
use Rattle.run_labels.specs.declared.faults.MeasureFault.{MeasureFault}
use Rattle.run_labels.specs.declared.faults.MeasureFault.TheVariants.{SecretCode, BaseSecret}
use Rattle.run_labels.specs.TurnLabels.{TurnLabels}
use Rattle.run_labels.specs.Masks.{byte_mask}

-- a look at the word at an address, or at a base register in the entry of the region with this number
abbrev pub look_fault : ℕ → TurnLabels → Seen → Option MeasureFault
look_fault region labels (Word address) =
    if (byte_mask labels address == 0) && ((byte_mask labels (address + 1) == 0)
    && ((byte_mask labels (address + 2) == 0) && (byte_mask labels (address + 3) == 0)))
    then None else Some (SecretCode address)
look_fault region labels (Base register) =
    if (labels.map.registers register).mask == 0 then None else Some (BaseSecret region register)
