-- Why several runs are not measured together, as it is told. Numbers are decimal.
use Rattle.std.specs.Prelude.{ℕ, List, ◌++◌, codes}
use Rattle.std.specs.Fmt.{decimal}
use Rattle.run_labels.specs.Faults.{run_fault_text}
use Rattle.many_runs.specs.declared.faults.ManyFault.{ManyFault}
use Rattle.many_runs.specs.declared.faults.ManyFault.TheVariants.{Length, Run, UnitedLimit, BudgetLimit, Memory}

abbrev pub many_fault_text : ManyFault → List ℕ
many_fault_text (Length index first got) =
    codes "length " ++ (decimal index ++ (codes " first " ++ (decimal first ++ (codes " got " ++ decimal got))))
many_fault_text (Run index fault) = codes "run " ++ (decimal index ++ (codes " " ++ run_fault_text fault))
many_fault_text UnitedLimit = codes "united-limit"
many_fault_text (BudgetLimit value) = codes "budget-limit " ++ decimal value
many_fault_text Memory = codes "memory"
