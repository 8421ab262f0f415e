use Rattle.lockstep_replay.proofs.Bounds.{done_law, prefixes_law, crosses_law, bound_law, greater_limits_law}
use Rattle.lockstep_replay.proofs.laws.accepted_runs_are_bounded.Goals as goal

pub returns-clause-done : goal.returns-clause-done
returns-clause-done c = done_law

pub returns-clause-prefixes : goal.returns-clause-prefixes
returns-clause-prefixes c = prefixes_law

pub returns-clause-crosses : goal.returns-clause-crosses
returns-clause-crosses c = crosses_law

pub returns-clause-bound : goal.returns-clause-bound
returns-clause-bound c = bound_law

pub returns-clause-greater : goal.returns-clause-greater
returns-clause-greater c = greater_limits_law
