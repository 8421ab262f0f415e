use Rattle.std.proofs.Common.{sym, ◌∙◌}
use Rattle.kept_states.proofs.Masks.{has_masks, no_masks}
use Rattle.kept_states.proofs.settling.is_clear.Goals as goal

pub returns-in-Some : goal.returns-in-Some
returns-in-Some c is offset below =
    sym (has_masks c.args.shadow.now c.args.number c.in-Some.there.now c.in-Some.ensures.masks offset below)
    ∙ c.are_zero.ensures is offset

pub returns-in-None : goal.returns-in-None
returns-in-None c is offset below = no_masks c.args.shadow.now c.args.number c.in-None.ensures.none offset below
