-- Why a check with one machine is unclear, as it is told. Numbers are decimal; an address and a mask are 0x and eight
-- digits in lower case.
use Rattle.std.specs.Prelude.{ℕ, List, ◌++◌, codes}
use Rattle.std.specs.Fmt.{decimal}
use Rattle.flow_base.specs.HexWords.{hex_word}
use Rattle.flow_base.specs.Points.{point_text}
use Rattle.enclosure_regions.specs.Texts.{break_text}
use Rattle.rv32im_machine.specs.Stepping.{stop_text}
use Rattle.taint_check.specs.declared.whys.TaintWhy.{TaintWhy}
use Rattle.taint_check.specs.declared.whys.TaintWhy.TheVariants.{RealFault, RegionBreak, BudgetOverrun, Left}
use Rattle.taint_check.specs.declared.whys.TaintWhy.TheVariants.{SecretCode, BaseSecret, TurnLimit, SecretLength}

-- why a check is unclear
abbrev pub taint_text : TaintWhy → List ℕ
taint_text (RealFault fault) = codes "guest " ++ stop_text fault
taint_text (RegionBreak broken) = break_text broken
taint_text (BudgetOverrun budget needed) = codes "budget " ++ (decimal budget ++ (codes " needed " ++ decimal needed))
taint_text (Left point mask) = codes "left " ++ (point_text point ++ (codes " mask " ++ hex_word mask))
taint_text (SecretCode pc) = codes "secret-code " ++ hex_word pc
taint_text (BaseSecret region register) =
    codes "region " ++ (decimal region ++ (codes " base x" ++ (decimal register ++ codes " secret")))
taint_text (TurnLimit limit) = codes "turns " ++ decimal limit
taint_text (SecretLength cut got) = codes "secret-length cut " ++ (decimal cut ++ (codes " got " ++ decimal got))
