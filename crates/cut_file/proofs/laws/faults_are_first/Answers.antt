use Rattle.cut_file.proofs.FileTexts.{cut_no_fault, one_fault}
use Rattle.cut_file.proofs.laws.faults_are_first.Goals as goal

pub returns-clause-one : goal.returns-clause-one
returns-clause-one c = one_fault

pub returns-clause-none : goal.returns-clause-none
returns-clause-none c = cut_no_fault
