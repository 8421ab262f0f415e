use Rattle.std.proofs.Common.{[], ◌∙◌}
use Rattle.cut_file.specs.Masks.{MaskAt}
use Rattle.replay_machine.proofs.MasksAhead.{ahead_self}
use Rattle.replay_machine.proofs.Passings.{outcome_comes, comes_bits, comes_unlent}
use Rattle.replay_machine.proofs.playing.play_unlent.Goals as goal

pub returns-clause-own : goal.returns-clause-own
returns-clause-own c =
    comes_bits (MaskAt c.args.side.now.masks) c.args.side.now.bits _ _ _
    (outcome_comes (MaskAt c.args.side.now.masks) c.args.side.now.bits c.args.side.now.missing _ _ _ _ _
    c.requires.missing (c.replay_turn_by.ensures [] (MaskAt c.args.side.now.masks) [] (ahead_self c.args.side.now.masks)))
    ∙ c.requires.own

pub returns-clause-comes : goal.returns-clause-comes
returns-clause-comes c = λ regions masks past ahead.
    comes_unlent masks c.args.side.now.bits c.args._bits.now _ _ _ c.requires.own c.requires.none
    (outcome_comes masks c.args.side.now.bits c.args.side.now.missing _ _ _ _ _
    c.requires.missing (c.replay_turn_by.ensures regions masks past ahead))
