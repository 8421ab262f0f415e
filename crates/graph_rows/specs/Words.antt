-- How the table tells why an event was not taken.
use Rattle.std.specs.Prelude.{ℕ, List, codes}
use Rattle.location_collapse.specs.declared.faults.CollapseFault.{CollapseFault}
use Rattle.location_collapse.specs.declared.faults.CollapseFault.TheVariants.{Limit, Memory}

abbrev pub fault_word : CollapseFault → List ℕ
fault_word Limit = codes "limit"
fault_word Memory = codes "memory"
