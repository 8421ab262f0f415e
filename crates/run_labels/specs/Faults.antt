-- Why a run is not measured, as it is told. Numbers are decimal; an address is 0x and eight digits in lower case.
use Rattle.std.specs.Prelude.{ℕ, List, ◌++◌, codes}
use Rattle.std.specs.Fmt.{decimal}
use Rattle.flow_base.specs.HexWords.{hex_word}
use Rattle.enclosure_regions.specs.Texts.{break_text}
use Rattle.rv32im_machine.specs.Stepping.{stop_text}
use Rattle.run_labels.specs.declared.faults.MeasureFault.{MeasureFault}
use Rattle.run_labels.specs.declared.faults.MeasureFault.TheVariants.{Guest, Region, TurnLimit, SecretCode, BaseSecret}
use Rattle.run_labels.specs.declared.faults.MeasureFault.TheVariants.{GraphLimit, Memory}

-- why a run is not measured
abbrev pub run_fault_text : MeasureFault → List ℕ
run_fault_text (Guest fault) = stop_text fault
run_fault_text (Region broken) = break_text broken
run_fault_text (TurnLimit limit) = codes "turns " ++ decimal limit
run_fault_text (SecretCode pc) = codes "secret-code " ++ hex_word pc
run_fault_text (BaseSecret region register) =
    codes "region " ++ (decimal region ++ (codes " base x" ++ (decimal register ++ codes " secret")))
run_fault_text GraphLimit = codes "graph-limit"
run_fault_text Memory = codes "memory"
