-- Why a guest is stopped, as it is told. An address or a word is 0x and eight digits in lower case.
use Rattle.std.specs.Prelude.{ℕ, List, ◌++◌, codes}
use Rattle.flow_base.specs.HexWords.{hex_word}
use Rattle.rv32im_machine.specs.declared.stepping.Fault.{Fault}
use Rattle.rv32im_machine.specs.declared.stepping.Fault.TheVariants.{Illegal, FetchOutside, FetchUnaligned, LoadOutside}
use Rattle.rv32im_machine.specs.declared.stepping.Fault.TheVariants.{StoreOutside, Breakpoint, OutputLimit}

-- why a guest is stopped
abbrev pub stop_text : Fault → List ℕ
stop_text (Illegal pc word) = codes "illegal " ++ (hex_word pc ++ (codes " word " ++ hex_word word))
stop_text (FetchOutside pc) = codes "fetch-outside " ++ hex_word pc
stop_text (FetchUnaligned pc) = codes "fetch-unaligned " ++ hex_word pc
stop_text (LoadOutside pc address) = codes "load-outside " ++ (hex_word pc ++ (codes " address " ++ hex_word address))
stop_text (StoreOutside pc address) =
    codes "store-outside " ++ (hex_word pc ++ (codes " address " ++ hex_word address))
stop_text (Breakpoint pc) = codes "breakpoint " ++ hex_word pc
stop_text (OutputLimit pc) = codes "output-limit " ++ hex_word pc
