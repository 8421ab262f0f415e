use Rattle.std.proofs.Common.{refl}
use Rattle.rv32im_machine.specs.Folds.{real_end}
use Rattle.region_machine.specs.Runs.{passed}
use Rattle.lockstep_replay.specs.Crossing.{crossing}
use Rattle.lockstep_replay.proofs.tallies.TallyingPasser.restore.Goals as goal

pub returns : goal.returns
unfolding crossing real_end passed
returns c = record {
  memory = refl;
  goes = λ walk back out after masks past ahead. after masks past ahead;
}
