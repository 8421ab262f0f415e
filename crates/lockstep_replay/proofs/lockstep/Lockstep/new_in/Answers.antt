use Rattle.std.proofs.Common.{refl, sym}
use Rattle.replay_machine.proofs.MasksAhead.{same_first}
use Rattle.lockstep_replay.proofs.lockstep.Lockstep.new_in.Goals as goal

pub returns : goal.returns
returns c =
    let task = c.args.task.now in
    let stands = c.in_ok-replay.ensures.stands in
    record {
      begins = record {
        real = sym c.in_ok-real.ensures.start;
        enclosures = c.in_ok-replay.ensures.enclosures;
        ahead =
            same_first c.in_ok-tally.tally.masks task.table.now task.cut.now.points task.same
            c.in_ok-tally.ensures.ahead;
        stands = record {
          state = stands.state;
          outside = stands.outside;
          ahead = same_first c.in_ok-replay.replay.ahead task.table.now task.cut.now.points task.same stands.ahead;
          missing = stands.missing;
        };
        budget = c.in_ok-tally.ensures.budget;
      };
      wanted = refl;
      turns = refl;
    }
