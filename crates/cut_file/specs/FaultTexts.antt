-- The texts of what is wrong with a cut file. Numbers are decimal. Lack of memory is never told.
use Rattle.std.specs.Prelude.{ℕ, List, ◌++◌, codes}
use Rattle.std.specs.Fmt.{decimal}
use Rattle.cut_file.specs.declared.faults.CutFault.{CutFault}
use Rattle.cut_file.specs.declared.faults.CutFault.TheVariants.{Version, Line, Order, Truncated, Trailing, Memory}

abbrev pub cut_fault_text : CutFault → List ℕ
cut_fault_text Version = codes "version"
cut_fault_text (Line number) = codes "line " ++ decimal number
cut_fault_text (Order number) = codes "order " ++ decimal number
cut_fault_text Truncated = codes "truncated"
cut_fault_text (Trailing offset) = codes "trailing " ++ decimal offset
cut_fault_text Memory = codes "memory"
