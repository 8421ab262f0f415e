use Rattle.replay_machine.proofs.replay_turns.replay_turn_by.Goals as goal

pub returns-in-Enters : goal.returns-in-Enters
returns-in-Enters g c = λ regions. rw c.in-Enters.is (c.skip_or_enter.ensures.plays regions)
