-- The texts of what is wrong with a source. Numbers are decimal. Lack of memory is never told.
use Rattle.std.specs.Prelude.{ℕ, List, ◌++◌, codes}
use Rattle.std.specs.Fmt.{decimal}
use Rattle.rv32im_asm.specs.declared.fault.AsmFault.{AsmFault}
use Rattle.rv32im_asm.specs.declared.fault.AsmFault.TheVariants.{Line, LabelTwice, LabelMissing, ImmediateRange, Memory}
use Rattle.rv32im_asm.specs.Kinds.{kind_number}

abbrev pub source_fault_text : AsmFault → List ℕ
source_fault_text (Line number kind) =
    codes "line " ++ (decimal number ++ (codes " kind " ++ decimal (kind_number kind)))
source_fault_text (LabelTwice number) = codes "label-twice " ++ decimal number
source_fault_text (LabelMissing number) = codes "label-missing " ++ decimal number
source_fault_text (ImmediateRange number) = codes "range " ++ decimal number
source_fault_text Memory = codes "memory"
