use Rattle.taint_check.proofs.OneVerdict.{one_verdict}
use Rattle.taint_check.proofs.laws.verdicts_are_one.Goals as goal

pub returns : goal.returns
returns c = record { one = one_verdict }
