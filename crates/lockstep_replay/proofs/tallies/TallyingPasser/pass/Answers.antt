use Rattle.std.proofs.Common.{◌∷◌}
use Rattle.flow_base.specs.Words.{bits_under}
use Rattle.rv32im_machine.specs.Folds.{real_end}
use Rattle.region_machine.specs.Runs.{passed}
use Rattle.replay_machine.specs.Runs.{mask_at}
use Rattle.lockstep_replay.specs.Crossing.{crossing}
use Rattle.lockstep_replay.specs.Sides.{tally_of}
use Rattle.lockstep_replay.proofs.TalliesJoin.{crosses_more}
use Rattle.lockstep_replay.proofs.tallies.TallyingPasser.pass.Goals as goal

pub returns-clause-goes : goal.returns-clause-goes
unfolding crossing real_end passed
returns-clause-goes c = λ go out after masks past ahead.
    crosses_more (tally_of c.args.self.now) (tally_of c.cross.new.self) masks
    (passed (c.args.passing.point ∷ past) (go c.args.passing.value))
    (bits_under c.args.passing.value (mask_at masks past c.args.passing.point))
    (crossing masks (c.args.passing.point ∷ past) (go c.args.passing.value))
    (real_end (go c.args.passing.value)) out c.args.self.now.small (c.cross.ensures.tally masks past ahead)
    (after masks (c.args.passing.point ∷ past) (c.cross.ensures.ahead masks past ahead))
