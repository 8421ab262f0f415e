-- The kinds of lines that give no bytes.
use Rattle.std.specs.Prelude.{ℕ}
use Rattle.rv32im_asm.specs.declared.fault.LineKind.{LineKind}
use Rattle.rv32im_asm.specs.declared.fault.LineKind.TheVariants.{Malformed, Misplaced, TooLong, Empty}

abbrev pub kind_number : LineKind → ℕ
kind_number Malformed = 1
kind_number Misplaced = 2
kind_number TooLong = 3
kind_number Empty = 4
