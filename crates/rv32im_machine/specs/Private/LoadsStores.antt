-- The upper half of a word that is stored.
use Rattle.std.specs.Prelude.{ℕ, ◌+◌}
use Rattle.rv32im_machine.specs.declared.language.Place.TheVariants.{Byte, Second}
use Rattle.rv32im_machine.specs.declared.language.Source.TheVariants.{At}
use Rattle.rv32im_machine.specs.declared.language.Part.TheVariants.{Byte2, Byte3}
use Rattle.rv32im_machine.specs.declared.language.Shape.TheVariants.{Part}
use Rattle.rv32im_machine.specs.State.{Control, onward}
use Rattle.rv32im_machine.specs.Language.{Turn, Moves, Ends}

-- what the row of SW does after its lower two bytes
abbrev pub high_half_at : ℕ → Control → Turn
high_half_at address control =
    Moves (Byte (address + 2)) (Part Byte2) (At Second)
    (Moves (Byte (address + 3)) (Part Byte3) (At Second) (Ends (onward control)))
