-- Why a path is unclear, or stops, as it is told. Numbers are decimal; an address and a mask are 0x and eight digits in
-- lower case.
use Rattle.std.specs.Prelude.{ℕ, List, ◌++◌, codes}
use Rattle.std.specs.Fmt.{decimal}
use Rattle.flow_base.specs.HexWords.{hex_word}
use Rattle.flow_base.specs.Points.{point_text}
use Rattle.rv32im_machine.specs.Stepping.{stop_text}
use Rattle.every_secret.specs.declared.stops.PathStop.{PathStop}
use Rattle.every_secret.specs.declared.stops.PathStop.TheVariants.{Guest, RangeOutside, Turns}
use Rattle.every_secret.specs.declared.whys.UnclearWhy.{UnclearWhy}
use Rattle.every_secret.specs.declared.whys.UnclearWhy.TheVariants.{SecretCode, BaseSecret, Left, Budget, Outputs}

-- why a path is unclear
abbrev pub unclear_text : UnclearWhy → List ℕ
unclear_text (SecretCode pc) = codes "secret-code " ++ hex_word pc
unclear_text (BaseSecret region register) =
    codes "region " ++ (decimal region ++ (codes " base x" ++ (decimal register ++ codes " secret")))
unclear_text (Left point mask) = codes "left " ++ (point_text point ++ (codes " mask " ++ hex_word mask))
unclear_text (Budget budget needed) = codes "budget " ++ (decimal budget ++ (codes " needed " ++ decimal needed))
unclear_text (Outputs limit) = codes "outputs " ++ decimal limit

-- why a path stops
abbrev pub path_stop_text : PathStop → List ℕ
path_stop_text (Guest fault) = codes "guest " ++ stop_text fault
path_stop_text (RangeOutside outside) =
    codes "region " ++ (decimal outside.region ++ (codes " range " ++ (decimal outside.range ++ codes " outside")))
path_stop_text (Turns limit) = codes "turns " ++ decimal limit

-- so many walks were made, and a path is left
abbrev pub too_many_text : ℕ → List ℕ
too_many_text walks = codes "paths " ++ decimal walks
