-- Why no declaration is learnt, as it is told. Numbers are decimal; an address is 0x and eight digits in lower case.
use Rattle.std.specs.Prelude.{ℕ, List, ◌++◌, codes}
use Rattle.std.specs.Fmt.{decimal}
use Rattle.flow_base.specs.HexWords.{hex_word}
use Rattle.rv32im_machine.specs.Stepping.{stop_text}
use Rattle.region_learn.specs.declared.faults.LearnFault.{LearnFault}
use Rattle.region_learn.specs.declared.faults.LearnFault.TheVariants.{Guest, Call, TurnLimit, Ranges, Bytes, TextSize}
use Rattle.region_learn.specs.declared.faults.LearnFault.TheVariants.{Memory}

abbrev pub learn_fault_text : LearnFault → List ℕ
learn_fault_text (Guest fault) = stop_text fault
learn_fault_text (Call region pc) = codes "region " ++ (decimal region ++ (codes " call at " ++ hex_word pc))
learn_fault_text (TurnLimit limit) = codes "turns " ++ decimal limit
learn_fault_text (Ranges region count) = codes "region " ++ (decimal region ++ (codes " ranges " ++ decimal count))
learn_fault_text (Bytes region count) = codes "region " ++ (decimal region ++ (codes " bytes " ++ decimal count))
learn_fault_text (TextSize size) = codes "text-size " ++ decimal size
learn_fault_text Memory = codes "memory"
