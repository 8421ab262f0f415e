-- Why a region was not shown to hold, as it is told. Numbers are decimal; an address and a mask are 0x and eight digits
-- in lower case.
use Rattle.std.specs.Prelude.{ℕ, List, ◌++◌, codes}
use Rattle.std.specs.Fmt.{decimal}
use Rattle.flow_base.specs.HexWords.{hex_word}
use Rattle.flow_base.specs.Points.{point_text}
use Rattle.enclosure_regions.specs.Texts.{break_text}
use Rattle.rv32im_machine.specs.Stepping.{stop_text}
use Rattle.region_pieces.specs.declared.hold_faults.HoldFault.{HoldFault}
use Rattle.region_pieces.specs.declared.hold_faults.HoldFault.TheVariants.{Left, SecretCode, Guest, Broken, Turns}
use Rattle.region_pieces.specs.declared.hold_faults.HoldFault.TheVariants.{Steps}

-- why a region was not shown to hold
abbrev pub hold_fault_text : HoldFault → List ℕ
hold_fault_text (Left point mask) = codes "hold left " ++ (point_text point ++ (codes " mask " ++ hex_word mask))
hold_fault_text (SecretCode pc) = codes "hold secret-code " ++ hex_word pc
hold_fault_text (Guest fault) = codes "hold guest " ++ stop_text fault
hold_fault_text (Broken broken) = codes "hold " ++ break_text broken
hold_fault_text (Turns limit) = codes "hold turns " ++ decimal limit
hold_fault_text (Steps limit) = codes "hold steps " ++ decimal limit
