use Rattle.lockstep_replay.proofs.Accepting.{accepted_law}
use Rattle.lockstep_replay.proofs.Causes.{causes_law}
use Rattle.lockstep_replay.proofs.Judging.{accepts_law, rejected_law}
use Rattle.lockstep_replay.proofs.laws.verdicts_are_acceptance.Goals as goal

pub returns-clause-accepted : goal.returns-clause-accepted
returns-clause-accepted c = accepted_law

pub returns-clause-causes : goal.returns-clause-causes
returns-clause-causes c = causes_law

pub returns-clause-accepts : goal.returns-clause-accepts
returns-clause-accepts c = accepts_law

pub returns-clause-rejected : goal.returns-clause-rejected
returns-clause-rejected c = rejected_law
