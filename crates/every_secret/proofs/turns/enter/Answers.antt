use Rattle.std.proofs.Common.{refl, sym, ap, ◌∙◌}
use Rattle.region_machine.specs.Enclosures.{Enters}
use Rattle.replay_machine.specs.ReplayTurns.{kind_outside_range}
use Rattle.tracked_run.specs.Labels.{map_of}
use Rattle.every_secret.specs.Private.Tapes.{ruling_of, tape_of}
use Rattle.every_secret.specs.Turns.{secret_base, secret_base_of}
use Rattle.every_secret.proofs.MadeTurns.{none_of, walks-by}
use Rattle.every_secret.proofs.turns.enter.Goals as goal

pub returns-in_ok-skip_or_enter-in-None-clause-makes :
    goal.returns-in_ok-skip_or_enter-in-None-clause-makes
returns-in_ok-skip_or_enter-in-None-clause-makes g c = λ regions.
    let side = c.args.side.now in
    let new = c.skip_or_enter.new.passer in
    let machine = c.args.machine.now in
    let kind = Enters c.args.region.now in
    walks-by (record { regions = regions; skip = c.args.skip.now }) kind side.region side.skipped side.held machine
    (tape_of (ruling_of side.book.now.table side.known) side.shadow side.masks side.bits side.crossed side.byte_masks.items side.status_mask
    side.unclear) _ c.skip_or_enter.new.machine
    (tape_of (ruling_of new.book.now.table new.known) new.shadow new.masks new.bits new.crossed new.byte_masks.items new.status_mask
    new.unclear)
    (secret_base_of kind (map_of side.shadow)) (kind_outside_range kind machine)
    (ap (λ ranges. secret_base ranges (map_of side.shadow)) (sym c.as_slice.ensures) ∙ (sym c.secret_base.ensures
    ∙ none_of c.secret_base.result c.in_default.not-Some)) (sym c.in-None.ensures.outside)
    (c.in_ok-skip_or_enter-in-None.ensures.plays regions c.requires.rest) refl
